-- Statements whose words are read in parts.
use Rattle.std.proofs.Common.{◌≡◌, ℕ, ◌+◌, Bool, true, length, List, [], ◌∷◌, ◌++◌, Some, None, Err, refl, ap, sym, ◌∙◌, arith}
use Rattle.std.specs.Option.{option_or}
use Rattle.scenario_asm.specs.declared.fault.Fault.{Fault}
use Rattle.scenario_asm.specs.declared.statement.StatementFault.{StatementFault}
use Rattle.scenario_asm.specs.WordParts.{IsReadFrom}
use Rattle.scenario_asm.specs.Places.{first_faulty, judged_word}
use Rattle.scenario_asm.specs.Refusals.{fault_in, word_in}
use Rattle.scenario_asm.specs.Verdicts.{Verdict, first_fault, judged_line}
use Rattle.scenario_asm.proofs.Verdicts.{fault_of_both, judged_err}

-- the first fault of two lists where the first has one
fault_in_front : (a b : List Verdict) (fault : Fault) → first_fault a ≡ Some fault → first_fault (a ++ b) ≡ Some fault
fault_in_front a b fault faulty = fault_of_both a b ∙ ap (λ v. option_or v (first_fault b)) faulty

-- and where it has none
pub fault_behind : (a b : List Verdict) → first_fault a ≡ None → first_fault (a ++ b) ≡ first_fault b
fault_behind a b none = fault_of_both a b ∙ ap (λ v. option_or v (first_fault b)) none

-- the place of the first fault of two lists where the first has one
place_in_front : (place : ℕ) (a b : List Verdict) (fault : Fault) → first_fault a ≡ Some fault → first_faulty place (a ++ b) ≡ first_faulty place a
place_in_front place [] b fault faulty = absurd (let never : None ≡ Some fault = faulty in cc)
place_in_front place (None ∷ a) b fault faulty = place_in_front (place + 1) a b fault faulty
place_in_front place (Some first ∷ a) b fault faulty = refl

-- and where it has none
place_behind : (place : ℕ) (a b : List Verdict) → first_fault a ≡ None → first_faulty place (a ++ b) ≡ first_faulty (place + length a) b
place_behind place [] b none = ap (λ p. first_faulty p b) {x = place} {y = place + 0} (omega arith)
place_behind place (None ∷ a) b none = place_behind (place + 1) a b none ∙ ap (λ p. first_faulty p b) {x = place + 1 + length a} {y = place + length {A = Verdict} (None ∷ a)} (omega arith)
place_behind place (Some first ∷ a) b none = absurd (let never : Some first ≡ None = none in cc)

-- a statement is refused as one of the parts of its words is, where those before it are read; the verdicts have the first fault of the parts
pub refused : {A V : Type 0} (verdicts front part rest : List Verdict) (counted full : Bool) (value : A) (said : V) (refusal : StatementFault) → counted ≡ true → first_fault verdicts ≡ first_fault (front ++ (part ++ rest)) → first_fault front ≡ None → IsReadFrom (1 + length front) part said (Err refusal)
    → (Err (fault_in refusal) ≡ judged_line counted verdicts full value) × (word_in refusal ≡ judged_word counted (front ++ (part ++ rest)))
refused verdicts front part rest counted full value said refusal right same before read = (
  sym (judged_err counted verdicts full value (fault_in refusal) right (same ∙ fault_behind front (part ++ rest) before ∙ fault_in_front part rest (fault_in refusal) read.0)),
  read.1
      ∙ sym (place_in_front (1 + length front) part rest (fault_in refusal) read.0)
      ∙ sym (place_behind 1 front (part ++ rest) before)
      ∙ sym (ap (λ b. judged_word b (front ++ (part ++ rest))) right),
)

-- and as the last part is
pub refused_last : {A V : Type 0} (verdicts front part : List Verdict) (counted full : Bool) (value : A) (said : V) (refusal : StatementFault) → counted ≡ true → first_fault verdicts ≡ first_fault (front ++ part) → first_fault front ≡ None → IsReadFrom (1 + length front) part said (Err refusal)
    → (Err (fault_in refusal) ≡ judged_line counted verdicts full value) × (word_in refusal ≡ judged_word counted (front ++ part))
refused_last verdicts front part counted full value said refusal right same before read = (
  sym (judged_err counted verdicts full value (fault_in refusal) right (same ∙ fault_behind front part before ∙ read.0)),
  read.1 ∙ sym (place_behind 1 front part before) ∙ sym (ap (λ b. judged_word b (front ++ part)) right),
)
