-- A text has one answer: its meaning or its first fault.
use Rattle.std.specs.Prelude.{◌≡◌, ℕ, List}
use Rattle.scenario_image.specs.declared.parts.ScenarioParts.{ScenarioParts}
use Rattle.scenario_asm.specs.declared.fault.Fault.{Fault}
use Rattle.scenario_asm.specs.Meaning.{MeansScenario, MeansFault}

-- a text is not without a meaning and without a first fault, it has not both, and it has but one of either
pub record HasOneAnswer (text : List ℕ) : Type 0 where
  pub some : ((parts : ScenarioParts) → ¬ MeansScenario text parts) → ((number : ℕ) (fault : Fault) → ¬ MeansFault text number fault) → ⊥
  pub not_both : (parts : ScenarioParts) (number : ℕ) (fault : Fault) → MeansScenario text parts → ¬ MeansFault text number fault
  pub one_scenario : (a b : ScenarioParts) → MeansScenario text a → MeansScenario text b → a ≡ b
  pub one_line : (m n : ℕ) (a b : Fault) → MeansFault text m a → MeansFault text n b → m ≡ n
  pub one_fault : (m n : ℕ) (a b : Fault) → MeansFault text m a → MeansFault text n b → a ≡ b

-- each text has one answer
abbrev pub TextsHaveOneAnswer : Type 0
TextsHaveOneAnswer = (text : List ℕ) → HasOneAnswer text
