-- The state that a net's fields are.
use Rattle.std.specs.Prelude.{◌≡◌, ◌<◌, ℕ, List, [], length, replicate}
use Rattle.packet_chain.specs.Stamped.{Stamped}
use Rattle.node_core.specs.Node.{NodeState}
use Rattle.net_machine.specs.declared.net.Net.TheInside.{Inside}
use Rattle.net_machine.specs.declared.places.LinkEnds.{LinkEnds}
use Rattle.net_machine.specs.Run.{Reached, IsRun}
use Rattle.net_machine.specs.Nodes.{reached, IsPlaced}
use Rattle.net_machine.specs.Wiring.{IsJoined, IsWired, AreEnds}

-- a run of a scenario has come to these nodes, which are joined by its links, with nothing on its way between them
pub record IsNet (nodes : List NodeState) (ends : List LinkEnds) (out : List (List Stamped)) (end position : ℕ) : Type 0 where
  pub run : IsRun (reached nodes end position)
  pub placed : IsPlaced nodes
  pub wired : IsWired run.scenario.links nodes
  pub ends_are : AreEnds run.scenario.links ends
  pub out_empty : out ≡ replicate 16 []

-- parts of which a net can be made: a run has come to the nodes, each has its number and what is pending at it, and the scenario's links join them
pub record AreNetParts (nodes : List NodeState) (links : List LinkEnds) (end position : ℕ) : Type 0 where
  pub run : IsRun (reached nodes end position)
  pub placed : IsPlaced nodes
  pub joined : (number : ℕ) → number < length run.scenario.links → IsJoined run.scenario.links nodes number
  pub links_are : AreEnds run.scenario.links links

abbrev pub reached_of : Inside → Reached
reached_of net = reached net.nodes net.end net.position

abbrev pub IsNetInside : Inside → Type 0
IsNetInside net = IsNet net.nodes net.ends.items net.out net.end net.position
