-- What bytes are refused for that are no scenario's image.
use Rattle.std.specs.Prelude.{◌≡◌, ◌⊎◌, ℕ, ◌≤◌, List, [], ◌∷◌, ◌++◌, length, take, All}
use Rattle.scenario_image.specs.Limits.{IsInLimits}
use Rattle.scenario_image.specs.Scenario.{IsScenario}
use Rattle.scenario_image.specs.Fault.{IsFreeOf, IsFirstNotFree}
use Rattle.scenario_image.specs.Image.{magic, image, MayStandIn, IsImage}
use Rattle.scenario_image.specs.Layout.{layout_size}
use Rattle.scenario_image.specs.declared.fault.LoadFault.{LoadFault}
use Rattle.scenario_image.specs.declared.fault.LoadFault.TheVariants.{L1, L2, L3, L4, L5, L6, L7, L8, NoMemory}
use Rattle.scenario_image.specs.declared.parts.ScenarioParts.{ScenarioParts}
use Rattle.scenario_image.specs.declared.version.Version.{Version}
use Rattle.scenario_image.specs.declared.version.Version.TheVariants.{One, Two}

-- the bytes begin as an image does
abbrev pub HasMagic : List ℕ → Type 0
HasMagic bytes = (take 4 bytes ≡ magic One) ⊎ (take 4 bytes ≡ magic Two)

-- the bytes begin with an image of parts that are within limits
pub record HaveNumbersInLimits (bytes : List ℕ) : Type 0 where
  pub version : Version
  pub parts : ScenarioParts
  pub rest : List ℕ
  pub in_limits : IsInLimits parts
  pub each_flow : All (MayStandIn version) parts.flows
  pub spelled : bytes ≡ image version parts ++ rest

-- whatever parts within limits the bytes are an image of are free of a fault
abbrev pub ArePartsFreeOf : List ℕ → LoadFault → Type 0
ArePartsFreeOf bytes fault = (parts : ScenarioParts) → IsInLimits parts → IsImage bytes parts → IsFreeOf parts fault

-- bytes are free of a fault: enough of them, the right magic, numbers within limits, none left over, and parts without a fault
abbrev pub AreBytesFreeOf : List ℕ → LoadFault → Type 0
AreBytesFreeOf bytes L1 = layout_size bytes ≤ length bytes
AreBytesFreeOf bytes L2 = HasMagic bytes
AreBytesFreeOf bytes L3 = HaveNumbersInLimits bytes
AreBytesFreeOf bytes L4 = length bytes ≤ layout_size bytes
AreBytesFreeOf bytes L5 = ArePartsFreeOf bytes L5
AreBytesFreeOf bytes L6 = ArePartsFreeOf bytes L6
AreBytesFreeOf bytes L7 = ArePartsFreeOf bytes L7
AreBytesFreeOf bytes L8 = ArePartsFreeOf bytes L8
AreBytesFreeOf bytes NoMemory = Unit {0}

-- the faults that bytes can have, in the order in which they are judged
abbrev pub judged_byte_faults : List LoadFault
judged_byte_faults = L1 ∷ L2 ∷ L3 ∷ L4 ∷ L5 ∷ L6 ∷ L7 ∷ L8 ∷ []

-- the fault that bytes are refused for
abbrev pub IsFirstByteFault : List ℕ → LoadFault → Type 0
IsFirstByteFault bytes fault = IsFirstNotFree (AreBytesFreeOf bytes) judged_byte_faults fault

-- no bytes are an image of two scenarios, be they of one version or of two
abbrev pub ImagesDiffer : Type 0
ImagesDiffer = (bytes : List ℕ) (one other : ScenarioParts) → IsScenario one → IsScenario other → IsImage bytes one → IsImage bytes other → one ≡ other

-- a scenario has an image of version 2, and no bytes that begin as version 2 does are another image of it
abbrev pub HasOneSecondImage : ScenarioParts → Type 0
HasOneSecondImage parts = IsImage (image Two parts) parts × ((bytes : List ℕ) → take 4 bytes ≡ magic Two → IsImage bytes parts → bytes ≡ image Two parts)

-- each scenario has exactly one image of version 2
abbrev pub SecondImagesAreOne : Type 0
SecondImagesAreOne = (parts : ScenarioParts) → IsScenario parts → HasOneSecondImage parts

-- no image of a scenario has a fault
abbrev pub ImagesHaveNoFault : Type 0
ImagesHaveNoFault = (bytes : List ℕ) (parts : ScenarioParts) (fault : LoadFault) → IsScenario parts → IsImage bytes parts → ¬ IsFirstByteFault bytes fault

-- bytes have one first fault at most
abbrev pub BytesHaveOneFault : Type 0
BytesHaveOneFault = (bytes : List ℕ) (one other : LoadFault) → IsFirstByteFault bytes one → IsFirstByteFault bytes other → one ≡ other
