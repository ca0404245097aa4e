use Rattle.std.proofs.Common.{◌≡◌, length, take}
use Rattle.net_machine.specs.Nodes.{AreCopies}
use Rattle.net_machine.proofs.nodes.copies_in.Given as goal

-- each copy so far is that of the node there
abbrev pub invariant-loop-number : goal.invariant-loop-number
invariant-loop-number l = record {
  size : length l.made.items ≡ length l.nodes;
  are : AreCopies l.nodes l.made.items;
}

-- the nodes so far are copied, and each copy that is left is that of the node there
abbrev pub invariant-loop-place : goal.invariant-loop-place
invariant-loop-place l = record {
  done : l.copies.items ≡ take l.place l.nodes;
  size : length l.made.items ≡ length l.nodes;
  are : AreCopies l.nodes l.made.items;
}
