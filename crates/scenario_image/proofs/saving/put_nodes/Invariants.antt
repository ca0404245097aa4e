use Rattle.std.proofs.Common.{◌≡◌, ◌++◌, take, map}
use Rattle.scenario_image.specs.Image.{node_byte}
use Rattle.scenario_image.proofs.saving.put_nodes.Given as goal

abbrev pub invariant-loop-kind : goal.invariant-loop-kind
invariant-loop-kind l = l.out.items ≡ l.fn.out.items ++ map node_byte (take l.kind-index l.nodes)
