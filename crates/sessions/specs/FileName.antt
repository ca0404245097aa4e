-- How a note shows the name of a file.
use Rattle.std.specs.Prelude.{ℕ, List, codes, chars, flat_map, encode_utf8, if◌then◌else◌}
use Rattle.std.specs.Char.{is_control}

-- a control character, with which an escape sequence of a terminal begins, is shown as a question mark, and any other as it is
abbrev pub shown_char : ℕ → List ℕ
shown_char c = if is_control c then codes "?" else encode_utf8 c

abbrev pub shown_name : List ℕ → List ℕ
shown_name name = flat_map shown_char (chars name)
