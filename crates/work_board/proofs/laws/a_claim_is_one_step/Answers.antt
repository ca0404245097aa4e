use Rattle.work_board.proofs.Refuted.{store_refuted}
use Rattle.work_board.proofs.laws.a_claim_is_one_step.Goals as goal

pub returns : goal.returns
returns c = store_refuted
