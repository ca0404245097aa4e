use Rattle.std.proofs.Common.{◌≡◌, map, take}
use Rattle.node_core.specs.Initial.{exits_of}
use Rattle.node_core.proofs.initial.initial_exits.Given as goal

-- the exits of each flow so far
abbrev pub invariant-loop-flow : goal.invariant-loop-flow
invariant-loop-flow l = l.exits.items ≡ map (exits_of l.parts l.node) (take l.flow-index l.flow-items)
