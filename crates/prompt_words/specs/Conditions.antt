-- A breakpoint, as it is typed at a prompt: a stall, or conditions, each of another sort.
use Rattle.std.specs.Prelude.{ℕ, zero, suc, Bool, false, if◌then◌else◌, List, [], ◌∷◌, codes, Option, None, Some, is_some, option_map, Result, Ok, Err}
use Rattle.std.specs.Str.{bytes_eq}
use Rattle.breakpoints.specs.declared.breaks.Break.{Break}
use Rattle.breakpoints.specs.declared.breaks.Condition.{Condition}
use Rattle.breakpoints.specs.declared.breaks.Condition.TheVariants as condition
use Rattle.breakpoints.specs.declared.breaks.EventKind.TheVariants.{Start}
use Rattle.breakpoints.specs.declared.breaks.StallOf.TheVariants.{Any, Flow as OneFlow}
use Rattle.breakpoints.specs.declared.values.Owner.{Owner}
use Rattle.breakpoints.specs.declared.values.Owner.TheVariants as owner
use Rattle.breakpoints.specs.declared.values.Test.TheVariants.{Is}
use Rattle.breakpoints.specs.declared.values.Value.{Value as AnyValue}
use Rattle.breakpoints.specs.declared.values.ValueCondition.TheVariants as on
use Rattle.breakpoints.specs.Values.{asked_of, owner_of}
use Rattle.breakpoints.specs.Breaks.{asking, asks_nothing}
use Rattle.prompt_words.specs.declared.conditions.Sort.{Sort}
use Rattle.prompt_words.specs.declared.conditions.Sort.TheVariants.{Node, Flow, Kind, Drop, Link, Byte, Value, Change}
use Rattle.prompt_words.specs.declared.naming.Naming.{Naming}
use Rattle.prompt_words.specs.declared.naming.PartSort.TheVariants as part
use Rattle.prompt_words.specs.declared.refusal.Refusal.{Refusal}
use Rattle.prompt_words.specs.declared.refusal.Refusal.TheVariants.{B1, B2, B3}
use Rattle.prompt_words.specs.Grammar.{Word, number_below, kind_named}
use Rattle.prompt_words.specs.Namings.{part_meant, one_part as named_part}
use Rattle.prompt_words.specs.Parts.{Left, Reads, behind, read_as, one_part, flow_value_in, test_in}
use Rattle.prompt_words.specs.Refusals.{and_then, read_to}
use Rattle.prompt_words.specs.ValueNames.{value_named}

abbrev pub value_sort_named : Word → Option Sort
value_sort_named word = if bytes_eq word (codes "change") then Some Change else option_map Value (value_named word)

abbrev pub sort_named : Word → Option Sort
sort_named word =
    if bytes_eq word (codes "node") then Some Node
    else (if bytes_eq word (codes "flow") then Some Flow
    else (if bytes_eq word (codes "kind") then Some Kind
    else (if bytes_eq word (codes "drop") then Some Drop
    else (if bytes_eq word (codes "link") then Some Link
    else (if bytes_eq word (codes "byte") then Some Byte
    else value_sort_named word)))))

-- a breakpoint has a condition of a sort
abbrev pub has_sort : Break → Sort → Bool
has_sort b Node = is_some b.node
has_sort b Flow = is_some b.flow
has_sort b Kind = is_some b.kind
has_sort b Drop = b.drops
has_sort b Link = is_some b.link
has_sort b Byte = is_some b.byte
has_sort b (Value value) = is_some (asked_of b.values value)
has_sort b Change = is_some b.values.change

-- the sort that a word names, of which there is no condition yet
abbrev pub other_sort : Break → Option Sort → Result Sort Refusal
other_sort b None = Err B1
other_sort b (Some sort) = if has_sort b sort then Err B2 else Ok sort

abbrev pub sort_asked : Break → Word → Result Sort Refusal
sort_asked b word = other_sort b (sort_named word)

-- the number of the link that a value is of
abbrev pub of_in : Naming → Owner → Left → Reads ℕ
of_in naming owner.Link l = one_part (part_meant naming part.Link) 0 l
of_in naming other l = Ok (0, l)

-- what is asked of a value
abbrev pub asked_in : Naming → AnyValue → Left → Reads Condition
asked_in naming value l =
    and_then (of_in naming (owner_of value) l) (λ of.
    read_as (λ test. condition.Value (on.Is value (record { of = of.0; test = test }))) (test_in value of.1))

abbrev pub change_in : Naming → Left → Reads Condition
change_in naming l =
    and_then (flow_value_in l l.parts) (λ value.
    read_as (λ flow. condition.Value (on.Change (record { value = value.0; of = flow }))) (one_part (part_meant naming part.Flow) 0 value.1))

-- the condition of a sort, by the parts behind its name: a byte is at most 9 * 10^12, the bytes of the greatest flow
abbrev pub condition_in : Naming → Sort → Left → Reads Condition
condition_in naming Node l = read_as condition.Node (one_part (part_meant naming part.Node) 0 l)
condition_in naming Flow l = read_as condition.Flow (one_part (part_meant naming part.Flow) 0 l)
condition_in naming Kind l = read_as condition.Kind (one_part kind_named Start l)
condition_in naming Drop l = Ok (condition.Drop, l)
condition_in naming Link l = read_as condition.Link (one_part (part_meant naming part.Link) 0 l)
condition_in naming Byte l = read_as condition.Byte (one_part (number_below 9000000000001) 0 l)
condition_in naming (Value value) l = asked_in naming value l
condition_in naming Change l = change_in naming l

-- one condition more: a word names its sort
abbrev pub one_more : Naming → Break → Word → Left → Reads Break
one_more naming b word l = and_then (sort_asked b word) (λ sort. read_as (asking b) (condition_in naming sort l))

-- what is read goes on with the next word, where there is one
abbrev pub go_on : (Break → Word → Left → Reads Break) → Break → Left → List Word → Reads Break
go_on more b l [] = Ok (b, l)
go_on more b l (word ∷ words) = more b word (behind l words)

-- the conditions from a word on, at most so many
unfoldable pub conditions : ℕ → Naming → Break → Word → Left → Reads Break
conditions zero naming b word l = Err B2
conditions (suc n) naming b word l = and_then (one_more naming b word l) (λ read. go_on (conditions n naming) read.0 read.1 read.1.parts)

-- no word was wrong
abbrev pub right : Reads Break → Result Break Refusal
right (Err refusal) = Err refusal
right (Ok read) = if read.1.is_wrong then Err B3 else Ok read.0

-- the words behind `stall`: none for any flow, or one flow
abbrev pub stall_asked : Naming → List Word → Result Break Refusal
stall_asked naming [] = Ok (asking asks_nothing (condition.Stall Any))
stall_asked naming (word ∷ words) = read_to (λ n. asking asks_nothing (condition.Stall (OneFlow n))) (named_part naming part.Flow (word ∷ words))

-- the words behind `break`, parted at signs: a stall stands alone, and there are no more conditions than twenty sorts
abbrev pub break_asked : Naming → List Word → Result Break Refusal
break_asked naming [] = Err B2
break_asked naming (word ∷ words) =
    if bytes_eq word (codes "stall") then stall_asked naming words
    else right (conditions 21 naming asks_nothing word (record { parts = words; is_wrong = false }))
