use Rattle.reno_sender.proofs.FillLaw.{fill_is_all_allowed}
use Rattle.reno_sender.proofs.guarantees.fill_is_all_allowed.Goals as goal

pub returns : goal.returns
returns c = fill_is_all_allowed
