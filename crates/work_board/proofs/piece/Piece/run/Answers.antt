use Rattle.node_group.proofs.AfterBoth.{after_both}
use Rattle.work_board.proofs.Faults.{reported}
use Rattle.work_board.proofs.piece.Piece.run.Goals as goal

pub invariant_of-self : goal.invariant_of-self
invariant_of-self c = (
  c.self.invariant.0,
  after_both _ _ _ _ c.self.invariant.1 c.run_group.ensures.after,
  (let w = c.self.inside in reported c.run_group.result w.end w.began.value c.run_group.new.group c.err-self-inside.result c.err-self-inside.ensures.value c.run_group.ensures.fault),
)
