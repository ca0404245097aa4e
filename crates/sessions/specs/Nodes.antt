-- The groups in which the nodes of a scenario are.
use Rattle.std.specs.Prelude.{◌≡◌, ◌⊎◌, ℕ, List, codes, length}
use Rattle.scenario_image.specs.declared.parts.ScenarioParts.{ScenarioParts}
use Rattle.sessions.specs.declared.fault.SessionFault.{SessionFault}
use Rattle.sessions.specs.declared.fault.SessionFault.TheVariants.{NoMemory, Groups}
use Rattle.sessions.specs.Groups.{MeansGroups}

-- the text leaves it to the program to find groups
abbrev pub AreFound : List ℕ → Type 0
AreFound groups = groups ≡ codes "auto"

-- a text names groups for the nodes of a scenario, or leaves them to the program
abbrev pub HasGroups : List ℕ → ScenarioParts → Type 0
HasGroups groups parts = AreFound groups ⊎ ((entries : List ℕ) × MeansGroups groups (length parts.nodes) entries)

-- it does not, or memory was refused
abbrev pub LacksGroups : List ℕ → ScenarioParts → SessionFault → Type 0
LacksGroups groups parts NoMemory = Unit {0}
LacksGroups groups parts Groups = ¬ HasGroups groups parts
LacksGroups groups parts _ = ⊥
