-- What a text declares: its parts, whether they make a scenario or not, and the names in the order of their numbers.
use Rattle.std.specs.Prelude.{◌≡◌, ℕ, List, map, Option, Some, None, if◌then◌else◌}
use Rattle.std.specs.List.{filter_map, slice_get}
use Rattle.std.specs.Str.{bytes_eq}
use Rattle.scenario_image.specs.declared.parts.ScenarioParts.{ScenarioParts}
use Rattle.scenario_asm.specs.declared.named_parts.NamedParts.{NamedParts}
use Rattle.scenario_asm.specs.declared.statement.Statement.{Statement}
use Rattle.scenario_asm.specs.Lines.{Word, words_of, lines_of_text}
use Rattle.scenario_asm.specs.Statements.{nth}
use Rattle.scenario_asm.specs.Text.{node_name, link_name, flow_name, parts_of_statements}
use Rattle.scenario_asm.specs.Meaning.{AreRead, statements_of, HaveEnd}

-- the second of some words, where the first is this one
abbrev pub second_after : Word → List Word → Option Word
second_after first words = if bytes_eq (nth words 0) first then slice_get words 1 else None

-- the second words of the lines whose first word is this one
abbrev pub seconds_after : Word → List (List ℕ) → List Word
seconds_after first lines = filter_map (λ line. second_after first (words_of line)) lines

-- the statements have one end, and these are the parts that they make with it
pub record MakeParts (statements : List Statement) (parts : ScenarioParts) : Type 0 where
  pub end : ℕ
  pub one_end : HaveEnd statements end
  pub parts_are : parts ≡ parts_of_statements end statements

-- the parts that statements make, or none where they have not one end
abbrev pub GiveParts : List Statement → Option ScenarioParts → Type 0
GiveParts statements (Some parts) = MakeParts statements parts
GiveParts statements None = (end : ℕ) → ¬ HaveEnd statements end

-- all lines are read, and together they make these parts
pub record DeclaresParts (text : List ℕ) (parts : ScenarioParts) : Type 0 where
  pub said : List (Option Statement)
  pub all_read : AreRead (lines_of_text text) said
  pub made : MakeParts (statements_of said) parts

-- these parts, and the names of the nodes, the links and the flows, in the order of their numbers
pub record Declares (text : List ℕ) (named : NamedParts) : Type 0 where
  pub parts : DeclaresParts text named.parts
  pub nodes : map (λ name. name.now) named.nodes.items ≡ filter_map node_name (statements_of parts.said)
  pub links : map (λ name. name.now) named.links.items ≡ filter_map link_name (statements_of parts.said)
  pub flows : map (λ name. name.now) named.flows.items ≡ filter_map flow_name (statements_of parts.said)
