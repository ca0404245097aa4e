-- The column of names that the figures of an input can have.
use Rattle.std.specs.Prelude.{◌≡◌, ℕ, Bool, true, false, MatchBool, List, [], Option, None, Some}
use Rattle.std.specs.List.{filter_map}
use Rattle.scenario_asm.specs.declared.statement.Statement.{Statement}
use Rattle.scenario_asm.specs.Lines.{lines_of_text}
use Rattle.scenario_asm.specs.Meaning.{AreRead, statements_of}
use Rattle.scenario_asm.specs.Text.{flow_name, link_name}
use Rattle.figures_text.specs.Table.{TextNames}
use Rattle.sessions.specs.Input.{is_image}

-- the names that a text's statements declare, in the order of their numbers
abbrev pub names_in : List Statement → TextNames
names_in statements = record { flows = filter_map flow_name statements; links = filter_map link_name statements }

pub record IsTextColumn (text : List ℕ) (column : Option TextNames) : Type 0 where
  pub said : List (Option Statement)
  pub all_read : AreRead (lines_of_text text) said
  pub names : column ≡ Some (names_in (statements_of said))

-- an image has no names
abbrev pub IsImageColumn : Option TextNames → Type 0
IsImageColumn column = column ≡ Some (record { flows = []; links = [] })

-- there is a column where it is wished
abbrev pub IsColumnOf : Bool → List ℕ → Option TextNames → Type 0
IsColumnOf false input column = column ≡ None
IsColumnOf true input column = MatchBool (is_image input) (IsImageColumn column) (IsTextColumn input column)
