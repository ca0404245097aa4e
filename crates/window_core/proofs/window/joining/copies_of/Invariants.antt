use Rattle.window_core.specs.Together.{AreTogether}
use Rattle.window_core.proofs.window.joining.copies_of.Given as goal

-- the first nodes are there
abbrev pub invariant-loop-number : goal.invariant-loop-number
invariant-loop-number l = AreTogether l.partition l.group_states l.number l.nodes.items
