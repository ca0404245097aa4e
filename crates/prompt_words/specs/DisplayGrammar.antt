-- What is typed behind `display` and `undisplay`.
use Rattle.std.specs.Prelude.{List, [], ◌∷◌, Option, None, Some, Result, Ok, Err}
use Rattle.breakpoints.specs.declared.values.Owner.{Owner}
use Rattle.breakpoints.specs.declared.values.Owner.TheVariants as owner
use Rattle.breakpoints.specs.declared.values.Value.{Value as AnyValue}
use Rattle.breakpoints.specs.Values.{owner_of}
use Rattle.prompt_words.specs.declared.conditions.Sort.{Sort}
use Rattle.prompt_words.specs.declared.conditions.Sort.TheVariants.{Node, Flow, Kind, Drop, Link, Byte, Value, Change}
use Rattle.prompt_words.specs.declared.display.DisplayCommand.{DisplayCommand}
use Rattle.prompt_words.specs.declared.display.DisplayCommand.TheVariants.{All, Add}
use Rattle.prompt_words.specs.declared.display.DisplayItem.{DisplayItem}
use Rattle.prompt_words.specs.declared.display.DisplayItem.TheVariants as item
use Rattle.prompt_words.specs.declared.naming.Naming.{Naming}
use Rattle.prompt_words.specs.declared.naming.PartSort.{PartSort}
use Rattle.prompt_words.specs.declared.naming.PartSort.TheVariants as part
use Rattle.prompt_words.specs.declared.refusal.Refusal.{Refusal}
use Rattle.prompt_words.specs.declared.refusal.Refusal.TheVariants.{B1}
use Rattle.prompt_words.specs.Conditions.{sort_named}
use Rattle.prompt_words.specs.Grammar.{Word}
use Rattle.prompt_words.specs.Namings.{one_part}
use Rattle.prompt_words.specs.Refusals.{read_to}

-- the sort of the parts that have a value
abbrev pub sort_of_owner : Owner → Option PartSort
sort_of_owner owner.Flow = Some part.Flow
sort_of_owner owner.Link = Some part.Link
sort_of_owner owner.Nothing = None

-- a value of the part that the only word means
abbrev pub value_asked : Naming → AnyValue → Option PartSort → List Word → Result DisplayItem Refusal
value_asked naming value None words = Err B1
value_asked naming value (Some sort) words = read_to (λ n. item.One (record { value = value; of = n })) (one_part naming sort words)

abbrev pub DisplayReading : Type 0
DisplayReading = Result DisplayCommand Refusal

-- what a sort says is displayed: of the flow or the link that the only word behind it means
abbrev pub item_asked : Naming → Sort → List Word → DisplayReading
item_asked naming Node words = Err B1
item_asked naming Flow words = read_to (λ n. Add (item.Flow n)) (one_part naming part.Flow words)
item_asked naming Kind words = Err B1
item_asked naming Drop words = Err B1
item_asked naming Link words = read_to (λ n. Add (item.Link n)) (one_part naming part.Link words)
item_asked naming Byte words = Err B1
item_asked naming (Value value) words = read_to Add (value_asked naming value (sort_of_owner (owner_of value)) words)
item_asked naming Change words = Err B1

abbrev pub item_named : Naming → Option Sort → List Word → DisplayReading
item_named naming None words = Err B1
item_named naming (Some sort) words = item_asked naming sort words

-- the words behind `display`: none, or what is to be displayed
abbrev pub display_asked : Naming → List Word → DisplayReading
display_asked naming [] = Ok All
display_asked naming (word ∷ words) = item_named naming (sort_named word) words
