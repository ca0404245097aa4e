-- How the nodes, links and flows of an input are called.
use Rattle.std.specs.Prelude.{◌≡◌, ℕ, MatchBool, List, Option}
use Rattle.std.specs.List.{filter_map}
use Rattle.scenario_asm.specs.declared.statement.Statement.{Statement}
use Rattle.scenario_asm.specs.Lines.{lines_of_text}
use Rattle.scenario_asm.specs.Meaning.{AreRead, statements_of}
use Rattle.scenario_asm.specs.Text.{node_name, link_name, flow_name}
use Rattle.prompt_words.specs.declared.command.Limits.{Limits}
use Rattle.prompt_words.specs.declared.naming.Naming.{Naming}
use Rattle.prompt_words.specs.Namings.{by_numbers}
use Rattle.sessions.specs.Input.{is_image}

-- the names that statements declare, in the order of their numbers, which are below these
abbrev pub naming_in : Limits → List Statement → Naming
naming_in limits statements =
    record { limits = limits; names = record { nodes = filter_map node_name statements; links = filter_map link_name statements; flows = filter_map flow_name statements } }

-- those of a text's own statements
pub record IsTextNaming (text : List ℕ) (limits : Limits) (naming : Naming) : Type 0 where
  pub said : List (Option Statement)
  pub all_read : AreRead (lines_of_text text) said
  pub names : naming ≡ naming_in limits (statements_of said)

-- an image has numbers alone
abbrev pub IsImageNaming : Limits → Naming → Type 0
IsImageNaming limits naming = naming ≡ by_numbers limits

abbrev pub IsNamingOf : List ℕ → Limits → Naming → Type 0
IsNamingOf input limits naming = MatchBool (is_image input) (IsImageNaming limits naming) (IsTextNaming input limits naming)
