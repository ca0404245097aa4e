use Rattle.std.proofs.Common.{◌≡◌, replicate, None}
use Rattle.net_machine.proofs.nodes.no_copies.Given as goal

-- so far there is no copy
abbrev pub invariant-loop-place : goal.invariant-loop-place
invariant-loop-place l = l.copies.items ≡ replicate l._place None
