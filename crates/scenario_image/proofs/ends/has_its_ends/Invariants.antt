use Rattle.std.proofs.Common.{◌≡◌, ℕ, ◌<◌, Some}
use Rattle.std.specs.List.{slice_get}
use Rattle.scenario_image.specs.Ends.{HasItsLinks}
use Rattle.scenario_image.specs.declared.parts.NodeKind.{NodeKind}
use Rattle.scenario_image.proofs.ends.has_its_ends.Given as goal

abbrev pub invariant-loop-node : goal.invariant-loop-node
invariant-loop-node l = (node : ℕ) → node < l.node → (kind : NodeKind) → slice_get l.parts.nodes node ≡ Some kind → HasItsLinks l.parts node kind
