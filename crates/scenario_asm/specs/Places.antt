-- Where in its line a fault is.
use Rattle.std.specs.Prelude.{◌≡◌, ℕ, not, ◌==◌, List, [], ◌∷◌, ◌++◌, length, take, codes, Bool, Option, Some, None, if◌then◌else◌, is_some}
use Rattle.std.specs.List.{list_all, position, position_from, slice_range}
use Rattle.std.specs.Str.{bytes_eq}
use Rattle.scenario_asm.specs.Bounds.{LATEST_END}
use Rattle.scenario_asm.specs.declared.place.Part.{Part}
use Rattle.scenario_asm.specs.declared.place.Part.TheVariants.{Line, Byte, Word as word_part}
use Rattle.scenario_asm.specs.declared.place.FaultPlace.{FaultPlace}
use Rattle.scenario_asm.specs.Lines.{Word, words_of, is_printable}
use Rattle.scenario_asm.specs.Names.{Known}
use Rattle.scenario_asm.specs.Numbers.{number_verdict}
use Rattle.scenario_asm.specs.Statements.{nth, has_link_length, has_flow_length, node_verdicts, link_first_verdicts, codel_verdicts, flow_verdicts, route_verdicts, lose_verdicts}
use Rattle.scenario_asm.specs.Text.{known_of}
use Rattle.scenario_asm.specs.Meaning.{statements_of, IsLineFault}
use Rattle.scenario_asm.specs.Verdicts.{Verdict}

-- the place of the first verdict that is a fault, where the first verdict of all has this place
abbrev pub first_faulty : ℕ → List Verdict → Option ℕ
first_faulty place verdicts = position_from (λ verdict. is_some verdict) place verdicts

-- the word on which the first verdict is that is a fault: the verdicts are on word 1, word 2 and so on; none where the number of words is wrong, or no word is faulty
abbrev pub judged_word : Bool → List Verdict → Option ℕ
judged_word counted verdicts = if counted then first_faulty 1 verdicts else None

-- the faulty word of each statement
abbrev pub sim_word : List Word → Option ℕ
sim_word words = judged_word (length words == 2) (number_verdict 1 LATEST_END (nth words 1) ∷ [])

abbrev pub node_word : Known → List Word → Option ℕ
node_word known words = judged_word (length words == 3) (node_verdicts known words)

abbrev pub link_word : Known → List Word → Option ℕ
link_word known words = judged_word (has_link_length words) (link_first_verdicts known words ++ codel_verdicts words)

abbrev pub flow_word : Known → List Word → Option ℕ
flow_word known words = judged_word (has_flow_length words) (flow_verdicts known words)

abbrev pub route_word : Known → List Word → Option ℕ
route_word known words = judged_word (length words == 4) (route_verdicts known words)

abbrev pub lose_word : Known → List Word → Option ℕ
lose_word known words = judged_word (length words == 3) (lose_verdicts known words)

-- the faulty word of words that are not none; the first where it is no statement
abbrev pub statement_word : Known → List Word → Option ℕ
statement_word known words =
    if bytes_eq (nth words 0) (codes "sim") then sim_word words
    else (if bytes_eq (nth words 0) (codes "node") then node_word known words
    else (if bytes_eq (nth words 0) (codes "link") then link_word known words
    else (if bytes_eq (nth words 0) (codes "flow") then flow_word known words
    else (if bytes_eq (nth words 0) (codes "route") then route_word known words
    else (if bytes_eq (nth words 0) (codes "lose") then lose_word known words
    else Some 0)))))

-- the faulty word of a line, counted from 0; none where a byte of it is not printable, or it is judged as a whole
unfoldable pub line_word : Known → List ℕ → Option ℕ
line_word known line =
    if list_all is_printable line then (if length (words_of line) == 0 then None else statement_word known (words_of line)) else None

-- the part of a line no word of which is faulty: the first byte that is not printable, or all
abbrev pub byte_part : Option ℕ → Part
byte_part None = Line
byte_part (Some place) = Byte place

-- these bytes of a line, from the first to the one before the second, are that word, and so many words are before them
pub record IsWord (line : List ℕ) (number start end : ℕ) : Type 0 where
  pub before : words_of (take start line) ≡ take number (words_of line)
  pub bytes : slice_range line start end ≡ nth (words_of line) number

-- the part of a line that is its faulty word, or with none the byte or the line that is faulty
abbrev pub IsPart : List ℕ → Option ℕ → Part → Type 0
IsPart line (Some number) (word_part index start end) = (index ≡ number) × IsWord line number start end
IsPart line (Some number) Line = ⊥
IsPart line (Some number) (Byte place) = ⊥
IsPart line None part = part ≡ byte_part (position (λ byte. not (is_printable byte)) line)

-- the text's first faulty line, its bytes, its fault, and the part of it that is faulty
pub record IsFaultPlace (text : List ℕ) (place : FaultPlace) : Type 0 where
  pub first : IsLineFault text place.line place.fault
  pub bytes : place.bytes.now ≡ first.line
  pub part : IsPart first.line (line_word (known_of (statements_of first.said)) first.line) place.part
