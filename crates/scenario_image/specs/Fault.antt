-- What parts are refused for.
use Rattle.std.specs.Prelude.{◌≡◌, ℕ, List, [], ◌∷◌, ◌⊎◌, codes}
use Rattle.scenario_image.specs.Limits.{IsInLimits}
use Rattle.scenario_image.specs.Ends.{HasItsEnds}
use Rattle.scenario_image.specs.Kinds.{HasItsKinds}
use Rattle.scenario_image.specs.Paths.{EachPath, IsUnbroken, IsSimple}
use Rattle.scenario_image.specs.declared.fault.LoadFault.{LoadFault}
use Rattle.scenario_image.specs.declared.fault.LoadFault.TheVariants.{L1, L2, L3, L4, L5, L6, L7, L8, NoMemory}
use Rattle.scenario_image.specs.declared.parts.ScenarioParts.{ScenarioParts}

-- what a fault is written as
abbrev pub fault_name : LoadFault → List ℕ
fault_name L1 = codes "L1"
fault_name L2 = codes "L2"
fault_name L3 = codes "L3"
fault_name L4 = codes "L4"
fault_name L5 = codes "L5"
fault_name L6 = codes "L6"
fault_name L7 = codes "L7"
fault_name L8 = codes "L8"
fault_name NoMemory = codes "no memory"

-- parts are free of a fault; only bytes have those of too few bytes, another magic and bytes left over
abbrev pub IsFreeOf : ScenarioParts → LoadFault → Type 0
IsFreeOf parts L1 = Unit {0}
IsFreeOf parts L2 = Unit {0}
IsFreeOf parts L3 = IsInLimits parts
IsFreeOf parts L4 = Unit {0}
IsFreeOf parts L5 = HasItsEnds parts
IsFreeOf parts L6 = HasItsKinds parts
IsFreeOf parts L7 = EachPath parts (IsUnbroken parts)
IsFreeOf parts L8 = EachPath parts (IsSimple parts)
IsFreeOf parts NoMemory = Unit {0}

-- the faults that parts can have, in the order in which they are judged
abbrev pub judged_faults : List LoadFault
judged_faults = L3 ∷ L5 ∷ L6 ∷ L7 ∷ L8 ∷ []

-- a fault is the first of a list that something is not free of
abbrev pub IsFirstNotFree : (LoadFault → Type 0) → List LoadFault → LoadFault → Type 0
IsFirstNotFree IsFree [] fault = ⊥
IsFirstNotFree IsFree (next ∷ later) fault = ((fault ≡ next) × ¬ IsFree next) ⊎ (IsFree next × IsFirstNotFree IsFree later fault)

-- a fault is the first of a list that parts are not free of
abbrev pub IsFirstOf : ScenarioParts → List LoadFault → LoadFault → Type 0
IsFirstOf parts faults fault = IsFirstNotFree (IsFreeOf parts) faults fault

-- the fault that parts are refused for
abbrev pub IsFirstFault : ScenarioParts → LoadFault → Type 0
IsFirstFault parts fault = IsFirstOf parts judged_faults fault
