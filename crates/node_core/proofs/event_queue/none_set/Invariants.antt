use Rattle.std.proofs.Common.{◌≡◌, replicate, ℕ, Option, None}
use Rattle.node_core.proofs.event_queue.none_set.Given as goal

abbrev pub invariant-loop-at : goal.invariant-loop-at
invariant-loop-at l = l.all.items ≡ replicate {A = Option ℕ} l._at None
