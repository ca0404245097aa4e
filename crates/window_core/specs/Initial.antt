-- The groups of a net when its first window opens.
use Rattle.std.specs.Prelude.{◌≡◌, ℕ, List, true}
use Rattle.scenario_image.specs.declared.parts.LinkPart.{LinkPart}
use Rattle.node_core.specs.Node.{NodeState}
use Rattle.net_machine.specs.declared.places.LinkEnds.{LinkEnds}
use Rattle.net_machine.specs.Nodes.{net_state}
use Rattle.net_machine.specs.Wiring.{AreEnds}
use Rattle.window_law.specs.Lookahead.{lookahead}
use Rattle.net_partition.specs.Partition.{group_in}
use Rattle.window_core.specs.Window.{WindowValue, IsFrom, setting_in, states_of}
use Rattle.window_law.specs.Windows.{none_fired, window_end}

-- the window opened on a net of these nodes and links, and no group has fired
pub record IsFirstWindow (nodes : List NodeState) (links : List LinkEnds) (end : ℕ) (v : WindowValue) : Type 0 where
  pub from : IsFrom (net_state nodes end) v
  pub end_is : v.end ≡ end
  pub unfired : none_fired (states_of v.groups) ≡ true
  pub until_is : v.until ≡ window_end (setting_in v) (states_of v.groups)
  pub ahead_is : (parts : List LinkPart) → AreEnds parts links → v.ahead ≡ lookahead (group_in v.entries) parts
