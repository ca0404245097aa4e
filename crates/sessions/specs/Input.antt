-- What an input means: it is an image or a text, and has a scenario or a fault.
use Rattle.std.specs.Prelude.{◌≡◌, ◌⊎◌, ℕ, Bool, MatchBool, List, codes, nat_eq, Result, Ok, Err, IfOk, IfErr}
use Rattle.std.specs.List.{starts_with}
use Rattle.scenario_image.specs.Image.{IsImage}
use Rattle.scenario_image.specs.ImageFault.{IsFirstByteFault}
use Rattle.scenario_image.specs.Scenario.{IsScenario}
use Rattle.scenario_image.specs.declared.parts.ScenarioParts.{ScenarioParts}
use Rattle.scenario_asm.specs.Meaning.{MeansScenario, MeansFault}
use Rattle.sessions.specs.declared.fault.SessionFault.{SessionFault}
use Rattle.sessions.specs.declared.fault.SessionFault.TheVariants.{Refused, RefusedImage, NoMemory}

-- an input that begins with the bytes `TCB` is an image, and any other a text
abbrev pub is_image : List ℕ → Bool
is_image input = starts_with nat_eq input (codes "TCB")

-- the bytes are an image of a scenario, of one version or the other
abbrev pub IsImageOf : List ℕ → ScenarioParts → Type 0
IsImageOf bytes parts = IsScenario parts × IsImage bytes parts

-- the scenario of an input: the one that the image has, or that the text means
abbrev pub InputHasScenario : List ℕ → ScenarioParts → Type 0
InputHasScenario input parts = MatchBool (is_image input) (IsImageOf input parts) (MeansScenario input parts)

-- the fault that an image is refused for
abbrev pub IsImageFault : List ℕ → SessionFault → Type 0
IsImageFault bytes (RefusedImage fault) = IsFirstByteFault bytes fault
IsImageFault bytes _ = ⊥

-- the fault that a text is refused for
abbrev pub IsTextFault : List ℕ → SessionFault → Type 0
IsTextFault text (Refused line fault) = MeansFault text line fault
IsTextFault text _ = ⊥

-- the fault that an input is refused for
abbrev pub InputHasFault : List ℕ → SessionFault → Type 0
InputHasFault input fault = MatchBool (is_image input) (IsImageFault input fault) (IsTextFault input fault)

-- a reading answers by what is meant, a scenario or a fault, or memory was refused
pub record Reads (IsMeant : ScenarioParts → Type 0) (IsFault : SessionFault → Type 0) (read : Result ScenarioParts SessionFault) : Type 0 where
  pub scenario : IfOk read IsMeant
  pub only_scenario : (parts : ScenarioParts) → IsMeant parts → (read ≡ Ok parts) ⊎ (read ≡ Err NoMemory)
  pub fault : IfErr read (λ fault. (fault ≡ NoMemory) ⊎ IsFault fault)
  pub only_fault : (fault : SessionFault) → IsFault fault → (read ≡ Err fault) ⊎ (read ≡ Err NoMemory)
