use Rattle.run_laws.proofs.Turns.{packets_leave_in_turn}
use Rattle.run_laws.proofs.laws.packets_leave_in_turn.Goals as goal

pub returns : goal.returns
returns c = packets_leave_in_turn
