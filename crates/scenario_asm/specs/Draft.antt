-- What is kept of the lines so far.
use Rattle.std.specs.Prelude.{◌≡◌, ◌≤◌, ℕ, List, [], ◌∷◌, length, Some, Result, Ok, Err}
use Rattle.std.specs.List.{filter_map}
use Rattle.scenario_image.specs.declared.parts.ScenarioParts.{ScenarioParts}
use Rattle.scenario_image.specs.declared.fault.LoadFault.{LoadFault}
use Rattle.scenario_image.specs.declared.fault.LoadFault.TheVariants.{NoMemory as image_NoMemory}
use Rattle.scenario_asm.specs.declared.fault.AsmFault.{AsmFault}
use Rattle.scenario_asm.specs.declared.fault.AsmFault.TheVariants.{At, NoMemory}
use Rattle.scenario_asm.specs.declared.draft.Ends.{Ends}
use Rattle.scenario_asm.specs.declared.draft.Ends.TheVariants.{Unset, Set, Repeated}
use Rattle.scenario_asm.specs.declared.draft.Draft.{Draft}
use Rattle.scenario_asm.specs.declared.statement.Statement.{Statement}
use Rattle.scenario_asm.specs.Right.{AreOfKinds}
use Rattle.scenario_asm.specs.Table.{known_in}
use Rattle.scenario_asm.specs.Text.{said_end, known_of, link_line, lost_numbers}
use Rattle.scenario_asm.specs.Meaning.{as_text_fault, IsWholeFault, MakeScenario}

-- none, this one, or several
abbrev pub HasTheseEnds : Ends → List ℕ → Type 0
HasTheseEnds Unset ends = ends ≡ []
HasTheseEnds (Set end) ends = ends ≡ end ∷ []
HasTheseEnds Repeated ends = 2 ≤ length ends

-- no packet is lost but of a declared link
abbrev pub AreLostOfLinks : List Statement → Type 0
AreLostOfLinks statements = (link : ℕ) → length (filter_map link_line statements) ≤ link → lost_numbers link statements ≡ []

-- a draft holds what these statements say
pub record Holds (draft : Draft) (statements : List Statement) : Type 0 where
  pub ends : HasTheseEnds draft.ends (filter_map said_end statements)
  pub known : known_in draft.table ≡ known_of statements
  pub kinds : AreOfKinds (known_of statements)
  pub lost : AreLostOfLinks statements

-- what a text is answered whose lines are right, and whose parts have this fault
abbrev pub IsWholeAnswer : LoadFault → AsmFault → Type 0
IsWholeAnswer load (At number fault) = (number ≡ 0) × (as_text_fault load ≡ Some fault)
IsWholeAnswer load NoMemory = load ≡ image_NoMemory

-- what the statements of a whole text give, unless memory ran out
abbrev pub WholeGives : List Statement → Result ScenarioParts AsmFault → Type 0
WholeGives statements (Ok parts) = MakeScenario statements parts
WholeGives statements (Err (At number fault)) = (number ≡ 0) × IsWholeFault statements fault
WholeGives statements (Err NoMemory) = Unit {0}
