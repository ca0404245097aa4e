-- What can be typed first in a line, or behind `help`, by the table ENTRIES.
use Rattle.std.specs.Prelude.{ℕ, nat_eq, nat_le, ◌&&◌, Bool, if◌then◌else◌, List, [], ◌∷◌, ◌++◌, length, map, codes, Option, None, Some, is_some, slice_get}
use Rattle.std.specs.List.{flat_map, position, starts_with}
use Rattle.prompt_words.specs.declared.entries.TheConstants.{ENTRIES}
use Rattle.prompt_words.specs.declared.name.CommandName.{CommandName}
use Rattle.prompt_words.specs.Conditions.{value_sort_named}

-- a command, where it is one, the least letters of its name, and the name with spaces behind it
abbrev pub EntryName : Type 0
EntryName = Option CommandName × ℕ × List ℕ

-- a word is the beginning of a name, or all of it
abbrev pub begins : List ℕ → List ℕ → Bool
begins word name = starts_with nat_eq name word

-- so `s` means step, `sta` state, `b` back, `br` break, `breaks` alone breaks, `w` why, and `whe` where
abbrev pub is_meant : List ℕ → EntryName → Bool
is_meant word name = nat_le name.1 (length word) && begins word name.2

abbrev pub is_command : List ℕ → EntryName → Bool
is_command word name = is_some name.0 && is_meant word name

-- the first that is a command
abbrev pub name_among : {X Y : Type 0} → List (EntryName × X × Y) → List ℕ → Option CommandName
name_among [] word = None
name_among (entry ∷ entries) word = if is_command word entry.0 then entry.0.0 else name_among entries word

unfoldable pub name_of : List ℕ → Option CommandName
name_of word = name_among ENTRIES word

-- topics stand before commands: `help n` is on numbers, `help na` on names, `help stal` on stall, and `help stalls` on that command
abbrev pub place_among : {X Y : Type 0} → List (EntryName × X × Y) → List ℕ → Option ℕ
place_among entries word = position (λ entry. is_meant word entry.0) entries

unfoldable pub place_of : List ℕ → Option ℕ
place_of word = place_among ENTRIES word

-- all of the name of a value is about values
abbrev pub topic_of : List ℕ → Option ℕ
topic_of word = if is_some (value_sort_named word) then place_of (codes "values") else place_of word

unfoldable pub help_text : List ℕ
help_text =
    flat_map (λ entry. entry.1.now) ENTRIES
    ++ codes "(nodes N, links L and flows F go by their names, or by numbers from 0: help numbers)\n(an empty line does the last move again)\n"

abbrev pub text_of : Option (List ℕ) → List ℕ
text_of None = []
text_of (Some text) = text

-- how it is used, and what else there is to say
unfoldable pub help_on : ℕ → List ℕ
help_on place = text_of (slice_get (map (λ entry. entry.1.now ++ entry.2.now) ENTRIES) place)
