-- How the nodes, links and flows of a scenario are called, and which of them a word means.
use Rattle.std.specs.Prelude.{ℕ, nat_lt, if◌then◌else◌, List, [], map, Option, None, Some, is_some, ok_or, Result, length}
use Rattle.scenario_image.specs.declared.parts.ScenarioParts.{ScenarioParts}
use Rattle.scenario_asm.specs.declared.named_parts.NamedParts.{NamedParts}
use Rattle.scenario_asm.specs.Numbers.{is_numeral, number}
use Rattle.scenario_asm.specs.Text.{number_among}
use Rattle.prompt_words.specs.declared.command.Limits.{Limits}
use Rattle.prompt_words.specs.declared.naming.Naming.{Naming}
use Rattle.prompt_words.specs.declared.naming.PartSort.{PartSort}
use Rattle.prompt_words.specs.declared.naming.PartSort.TheVariants.{Node, Link, Flow}
use Rattle.prompt_words.specs.declared.refusal.Refusal.{Refusal}
use Rattle.prompt_words.specs.declared.refusal.Refusal.TheVariants.{B3}
use Rattle.prompt_words.specs.Grammar.{Word, only}

abbrev pub limits_of : ScenarioParts → Limits
limits_of p = record { nodes = length p.nodes; links = length p.links; flows = length p.flows }

-- the names that a text declares, and numbers below these
abbrev pub naming_by : Limits → NamedParts → Naming
naming_by limits named =
    record { limits = limits; names = record { nodes = map (λ name. name.now) named.nodes.items; links = map (λ name. name.now) named.links.items; flows = map (λ name. name.now) named.flows.items } }

-- numbers alone, as in an image
abbrev pub by_numbers : Limits → Naming
by_numbers limits = record { limits = limits; names = record { nodes = []; links = []; flows = [] } }

-- how many parts of a sort there are
abbrev pub count_of : Limits → PartSort → ℕ
count_of limits Node = limits.nodes
count_of limits Link = limits.links
count_of limits Flow = limits.flows

-- their names, in the order of their numbers: an image has none
abbrev pub names_of : Naming → PartSort → List Word
names_of naming Node = naming.names.nodes
names_of naming Link = naming.names.links
names_of naming Flow = naming.names.flows

-- the sort of the part that has a name: no two parts have the same
abbrev pub sort_of : Naming → Word → Option PartSort
sort_of naming name =
    if is_some (number_among naming.names.nodes name) then Some Node
    else (if is_some (number_among naming.names.links name) then Some Link
    else (if is_some (number_among naming.names.flows name) then Some Flow
    else None))

-- a numeral is a number, and any other word a name: it means the first part that has it, as the assembler reads it
abbrev pub number_said : List Word → Word → Option ℕ
number_said names word = if is_numeral word then Some (number word) else number_among names word

-- a number that a part has
abbrev pub if_below : ℕ → Option ℕ → Option ℕ
if_below bound None = None
if_below bound (Some n) = if nat_lt n bound then Some n else None

-- the part of a sort that a word means
abbrev pub part_meant : Naming → PartSort → Word → Option ℕ
part_meant naming sort word = if_below (count_of naming.limits sort) (number_said (names_of naming sort) word)

-- that of the only word
abbrev pub one_part : Naming → PartSort → List Word → Result ℕ Refusal
one_part naming sort words = only (λ word. ok_or (part_meant naming sort word) B3) words
