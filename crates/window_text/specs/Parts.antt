-- The text of a window's lines, in parts that threads made.
use Rattle.std.specs.Prelude.{◌≡◌, ◌≤◌, ◌<◌, ◌+◌, ◌-◌, ℕ, zero, suc, All, List, [], ◌∷◌, ◌++◌, length, take, drop}
use Rattle.line_merge.specs.Sheaves.{SheafValue, merged}
use Rattle.window_text.specs.declared.formatter.TextPart.{TextPart}
use Rattle.window_text.specs.declared.formatter.TextFormatter.{TextFormatter}
use Rattle.window_text.specs.declared.text.TextPlace.{TextPlace}
use Rattle.window_text.specs.declared.text.Text.{Text}
use Rattle.window_text.specs.Text.{text_from}

-- the bytes of a part, in the text that has it
abbrev pub bytes_in : List ℕ → TextPart → List ℕ
bytes_in text part = take (part.end - part.start) (drop part.start text)

-- the bytes of the part are in the text
pub record IsIn (text : List ℕ) (part : TextPart) : Type 0 where
  pub start : part.start ≤ part.end
  pub end : part.end ≤ length text

-- the part has the text of its lines
pub record HasText (s : SheafValue) (text : List ℕ) (part : TextPart) : Type 0 where
  pub inside : IsIn text part
  pub within : part.from + part.count ≤ length (merged s).lines
  pub is : bytes_in text part ≡ text_from (s.first + part.from) (take part.count (drop part.from (merged s).lines))

-- each of its parts has the text of its lines
abbrev pub IsRight : SheafValue → TextFormatter → Type 0
IsRight s formatter = All (HasText s formatter.text) formatter.parts.items

-- so has each thread's
abbrev pub AreRight : SheafValue → List TextFormatter → Type 0
AreRight s formatters = All (IsRight s) formatters

-- the text of a thread by its number
abbrev pub text_at : List TextFormatter → ℕ → List ℕ
text_at [] i = []
text_at (formatter ∷ formatters) zero = formatter.text
text_at (formatter ∷ formatters) (suc i) = text_at formatters i

-- the bytes at a place
abbrev pub bytes_at : List TextFormatter → TextPlace → List ℕ
bytes_at formatters place = bytes_in (text_at formatters place.formatter) place.part

-- the bytes of a place are there
pub record IsInside (formatters : List TextFormatter) (place : TextPlace) : Type 0 where
  pub formatter : place.formatter < length formatters
  pub part : IsIn (text_at formatters place.formatter) place.part

-- the bytes at the places, one after another
abbrev pub text_of : List TextFormatter → List TextPlace → List ℕ
text_of formatters [] = []
text_of formatters (place ∷ places) = bytes_at formatters place ++ text_of formatters places

-- at the place is the text of some lines from an index on
pub record IsPlaceAt (s : SheafValue) (formatters : List TextFormatter) (at : ℕ) (place : TextPlace) : Type 0 where
  pub inside : IsInside formatters place
  pub some : 0 < place.part.count
  pub within : at + place.part.count ≤ length (merged s).lines
  pub is : bytes_at formatters place ≡ text_from (s.first + at) (take place.part.count (drop at (merged s).lines))

-- a text's bytes are where its places say
pub record IsReady (text : Text) : Type 0 where
  pub inside : All (IsInside text.formatters.items) text.places.items
  pub few : length text.places.items ≤ 64

-- at the places, in their order, is the text of all lines
pub record IsWhole (s : SheafValue) (text : Text) : Type 0 where
  pub ready : IsReady text
  pub is : text_of text.formatters.items text.places.items ≡ text_from s.first (merged s).lines
