use Rattle.aqm.proofs.Schedule.{schedule_stays}
use Rattle.aqm.proofs.guarantees.drops_come_closer.Goals as goal

pub returns-clause-schedule : goal.returns-clause-schedule
returns-clause-schedule c = schedule_stays
