-- What is read, or why it is refused.
use Rattle.std.specs.Prelude.{ℕ, List, [], ◌∷◌, codes, Option, None, Some, Result, Ok, Err}
use Rattle.trace_text.specs.Words.{line_of_words}
use Rattle.prompt_words.specs.declared.refusal.Refusal.{Refusal}
use Rattle.prompt_words.specs.declared.refusal.Refusal.TheVariants.{B1, B2, B3, B4, B5, M}
use Rattle.prompt_words.specs.declared.refusal.Refused.{Refused}

-- the code alone
abbrev pub by_code : {X : Type 0} → Result X Refused → Result X Refusal
by_code (Ok x) = Ok x
by_code (Err why) = Err why.code

-- the same of a line, which may have no words
abbrev pub line_by_code : {X : Type 0} → Option (Result X Refused) → Option (Result X Refusal)
line_by_code None = None
line_by_code (Some read) = Some (by_code read)

-- as `?`: the first refusal stays
abbrev pub and_then : {X Y : Type 0} → Result X Refusal → (X → Result Y Refusal) → Result Y Refusal
and_then (Ok x) next = next x
and_then (Err refusal) next = Err refusal

-- what is read, made into another
abbrev pub read_to : {X Y : Type 0} → (X → Y) → Result X Refusal → Result Y Refusal
read_to make (Ok x) = Ok (make x)
read_to make (Err refusal) = Err refusal

abbrev pub refusal_code : Refusal → List ℕ
refusal_code B1 = codes "B1"
refusal_code B2 = codes "B2"
refusal_code B3 = codes "B3"
refusal_code B4 = codes "B4"
refusal_code B5 = codes "B5"
refusal_code M = codes "M"

abbrev pub refusal_line : Refusal → List ℕ
refusal_line refusal = line_of_words (codes "refused" ∷ refusal_code refusal ∷ [])

-- what is answered: a text, or why the command is refused
abbrev pub Answer : Type 0
Answer = Result (List ℕ) Refusal

abbrev pub answer_of : Result (Unit {0}) Refusal → List ℕ → Answer
answer_of (Ok done) said = Ok said
answer_of (Err refusal) said = Err refusal

-- what is put out of it, where refusals are told among the answers
abbrev pub answer_text : Answer → List ℕ
answer_text (Ok said) = said
answer_text (Err refusal) = refusal_line refusal
