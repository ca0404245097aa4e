-- What a text means: a scenario, or its first fault.
use Rattle.std.specs.Prelude.{◌≡◌, ◌⊎◌, ℕ, ◌+◌, ◌<◌, List, [], ◌∷◌, ◌++◌, length, take, Option, Some, None, Ok, Err}
use Rattle.std.specs.List.{filter_map, slice_index_or}
use Rattle.scenario_image.specs.Scenario.{IsScenario}
use Rattle.scenario_image.specs.Fault.{IsFirstFault}
use Rattle.scenario_image.specs.declared.fault.LoadFault.{LoadFault}
use Rattle.scenario_image.specs.declared.fault.LoadFault.TheVariants.{L1 as image_L1, L2 as image_L2, L3 as image_L3, L4 as image_L4, L5 as image_L5, L6 as image_L6, L7 as image_L7, L8 as image_L8, NoMemory as image_NoMemory}
use Rattle.scenario_image.specs.declared.parts.ScenarioParts.{ScenarioParts}
use Rattle.scenario_asm.specs.declared.fault.Fault.{Fault}
use Rattle.scenario_asm.specs.declared.fault.Fault.TheVariants.{E10, L3, L5, L7, L8}
use Rattle.scenario_asm.specs.declared.statement.Statement.{Statement}
use Rattle.scenario_asm.specs.Lines.{lines_of_text}
use Rattle.scenario_asm.specs.Statements.{line_at}
use Rattle.scenario_asm.specs.Text.{said_end, known_of, parts_of_statements}

-- the statements among what lines say
abbrev pub statements_of : List (Option Statement) → List Statement
statements_of said = filter_map (λ statement. statement) said

-- each line says this, by what the lines above it declare
pub record AreRead (lines : List (List ℕ)) (said : List (Option Statement)) : Type 0 where
  pub as_many : length said ≡ length lines
  pub each : (k : ℕ) → k < length lines → line_at (known_of (statements_of (take k said))) (slice_index_or lines k []) ≡ Ok (slice_index_or said k None)

-- the lines above this line are read, and this line has this as its first fault
pub record IsLineFault (text : List ℕ) (number : ℕ) (fault : Fault) : Type 0 where
  pub above : List (List ℕ)
  pub line : List ℕ
  pub below : List (List ℕ)
  pub said : List (Option Statement)
  pub lines : lines_of_text text ≡ above ++ line ∷ below
  pub counted : number ≡ length above + 1
  pub above_read : AreRead above said
  pub faulty : line_at (known_of (statements_of said)) line ≡ Err fault

-- the statements have one end, and no other
pub record HaveEnd (statements : List Statement) (end : ℕ) : Type 0 where
  pub one_end : filter_map said_end statements ≡ end ∷ []

-- the fault of a text whose parts have this fault; that a node is of the wrong kind shows in its line, and only bytes have the first, the second and the fourth
abbrev pub as_text_fault : LoadFault → Option Fault
as_text_fault image_L1 = None
as_text_fault image_L2 = None
as_text_fault image_L3 = Some L3
as_text_fault image_L4 = None
as_text_fault image_L5 = Some L5
as_text_fault image_L6 = None
as_text_fault image_L7 = Some L7
as_text_fault image_L8 = Some L8
as_text_fault image_NoMemory = None

-- the statements have one end, and this is the first fault of the parts that they make with it
pub record HavePartsFault (statements : List Statement) (fault : Fault) : Type 0 where
  pub end : ℕ
  pub one_end : HaveEnd statements end
  pub load : LoadFault
  pub first : IsFirstFault (parts_of_statements end statements) load
  pub same : as_text_fault load ≡ Some fault

-- what is wrong with all statements together: not one end, or what is wrong with the parts that they make
abbrev pub IsWholeFault : List Statement → Fault → Type 0
IsWholeFault statements fault = ((fault ≡ E10) × ((end : ℕ) → ¬ HaveEnd statements end)) ⊎ HavePartsFault statements fault

-- all lines are read, and what they say together has this fault
pub record IsTextFault (text : List ℕ) (number : ℕ) (fault : Fault) : Type 0 where
  pub said : List (Option Statement)
  pub all_read : AreRead (lines_of_text text) said
  pub no_line : number ≡ 0
  pub faulty : IsWholeFault (statements_of said) fault

-- the text's fault: that of the first faulty line, or with no faulty line that of the whole
abbrev pub MeansFault : List ℕ → ℕ → Fault → Type 0
MeansFault text number fault = IsLineFault text number fault ⊎ IsTextFault text number fault

-- the statements are those of this scenario
pub record MakeScenario (statements : List Statement) (parts : ScenarioParts) : Type 0 where
  pub end : ℕ
  pub one_end : HaveEnd statements end
  pub parts_are : parts ≡ parts_of_statements end statements
  pub right : IsScenario parts

-- all lines are read, and together they say this scenario
pub record MeansScenario (text : List ℕ) (parts : ScenarioParts) : Type 0 where
  pub said : List (Option Statement)
  pub all_read : AreRead (lines_of_text text) said
  pub made : MakeScenario (statements_of said) parts
