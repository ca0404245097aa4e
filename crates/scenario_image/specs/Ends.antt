-- What is attached to each node.
use Rattle.std.specs.Prelude.{◌≡◌, ℕ, ◌==◌, ◌||◌, Bool, List, count_by, Some}
use Rattle.std.specs.List.{slice_get}
use Rattle.scenario_image.specs.Range.{IsBetween}
use Rattle.scenario_image.specs.declared.parts.NodeKind.{NodeKind}
use Rattle.scenario_image.specs.declared.parts.NodeKind.TheVariants.{Sender, Receiver, Router}
use Rattle.scenario_image.specs.declared.parts.LinkPart.{LinkPart}
use Rattle.scenario_image.specs.declared.parts.FlowPart.{FlowPart}
use Rattle.scenario_image.specs.declared.parts.ScenarioParts.{ScenarioParts}

-- whether a link leaves a node
abbrev pub leaves : ℕ → LinkPart → Bool
leaves node link = link.from == node

-- how many links leave a node
abbrev pub outgoing_count : List LinkPart → ℕ → ℕ
outgoing_count links node = count_by (leaves node) links

-- whether a flow names a node, at either end or at both
abbrev pub names : ℕ → FlowPart → Bool
names node flow = (flow.sender == node) || (flow.receiver == node)

-- how many flows name a node: one that names it twice counts once
abbrev pub naming_count : List FlowPart → ℕ → ℕ
naming_count flows node = count_by (names node) flows

-- a sender or a receiver has one flow that names it and one outgoing link; a router has 1 to 16 outgoing links
abbrev pub HasItsLinks : ScenarioParts → ℕ → NodeKind → Type 0
HasItsLinks parts node Sender = (naming_count parts.flows node ≡ 1) × (outgoing_count parts.links node ≡ 1)
HasItsLinks parts node Receiver = (naming_count parts.flows node ≡ 1) × (outgoing_count parts.links node ≡ 1)
HasItsLinks parts node Router = IsBetween 1 16 (outgoing_count parts.links node)

-- each node of a scenario has its flow and its links
abbrev pub HasItsEnds : ScenarioParts → Type 0
HasItsEnds parts = (node : ℕ) (kind : NodeKind) → slice_get parts.nodes node ≡ Some kind → HasItsLinks parts node kind
