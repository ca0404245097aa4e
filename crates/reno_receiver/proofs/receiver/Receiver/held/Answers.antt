use Rattle.std.proofs.Common.{sym, ◌∙◌}
use Rattle.reno_receiver.proofs.Kept.{held_of_kept}
use Rattle.reno_receiver.proofs.receiver.Receiver.held.Goals as goal

pub returns : goal.returns
returns c = c.as_slice.ensures ∙ rw (← c.self.view_is) (sym (held_of_kept c.self.inside c.self.invariant))
