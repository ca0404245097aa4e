use Rattle.std.proofs.Common.{◌≡◌, [], replicate}
use Rattle.node_core.proofs.outbox.Outbox.new.Given as goal

abbrev pub invariant-loop-link : goal.invariant-loop-link
invariant-loop-link l = l.chains.items ≡ replicate l._link []
