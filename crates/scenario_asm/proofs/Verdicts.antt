-- Statements from the verdicts on their words.
use Rattle.std.proofs.Common.{◌≡◌, ℕ, ◌+◌, Bool, true, false, List, [], ◌∷◌, ◌++◌, Some, None, Ok, Err, refl, ap, sym, ◌∙◌}
use Rattle.std.specs.Option.{option_or}
use Rattle.scenario_asm.specs.declared.fault.Fault.{Fault}
use Rattle.scenario_asm.specs.declared.fault.Fault.TheVariants.{E9}
use Rattle.scenario_asm.specs.Places.{first_faulty}
use Rattle.scenario_asm.specs.Verdicts.{Verdict, first_fault, faulty_if, unless, judged_line}

or_or : (a b c : Verdict) → option_or a (option_or b c) ≡ option_or (option_or a b) c
or_or None b c = refl
or_or (Some fault) b c = refl

pub or_none : (a : Verdict) → a ≡ option_or a None
or_none None = refl
or_none (Some fault) = refl

-- the first fault of two lists
pub fault_of_both : (a b : List Verdict) → first_fault (a ++ b) ≡ option_or (first_fault a) (first_fault b)
fault_of_both [] b = refl
fault_of_both (verdict ∷ a) b = ap (λ v. option_or verdict v) (fault_of_both a b) ∙ or_or verdict (first_fault a) (first_fault b)

-- verdicts without a fault have no faulty one
pub no_faulty : (place : ℕ) (verdicts : List Verdict) → first_fault verdicts ≡ None → first_faulty place verdicts ≡ None
no_faulty place [] none = refl
no_faulty place (None ∷ verdicts) none = no_faulty (place + 1) verdicts none
no_faulty place (Some fault ∷ verdicts) none = absurd (let never : Some fault ≡ None = none in cc)

first_more : (verdicts : List Verdict) (last : Verdict) → first_fault (verdicts ++ last ∷ []) ≡ option_or (first_fault verdicts) last
first_more [] last = sym (or_none last)
first_more (verdict ∷ verdicts) last = ap (λ v. option_or verdict v) (first_more verdicts last) ∙ or_or verdict (first_fault verdicts) last

-- a statement of the right number of words, by its first fault
counted_is : {A : Type 0} (counted : Bool) (verdicts : List Verdict) (full : Bool) (value : A) → counted ≡ true → judged_line counted verdicts full value ≡ unless (option_or (first_fault verdicts) (faulty_if full E9)) value
counted_is counted verdicts full value is = ap (λ b. judged_line b verdicts full value) is ∙ ap (λ v. unless v value) (first_more verdicts (faulty_if full E9))

pub judged_err : {A : Type 0} (counted : Bool) (verdicts : List Verdict) (full : Bool) (value : A) (fault : Fault) → counted ≡ true → first_fault verdicts ≡ Some fault → judged_line counted verdicts full value ≡ Err fault
judged_err counted verdicts full value fault is faulty = counted_is counted verdicts full value is ∙ ap (λ v. unless (option_or v (faulty_if full E9)) value) faulty

pub judged_full : {A : Type 0} (counted : Bool) (verdicts : List Verdict) (full : Bool) (value : A) → counted ≡ true → first_fault verdicts ≡ None → full ≡ true → judged_line counted verdicts full value ≡ Err E9
judged_full counted verdicts full value is none over =
    counted_is counted verdicts full value is ∙ (ap (λ v. unless (option_or v (faulty_if full E9)) value) none ∙ ap (λ b. unless (faulty_if b E9) value) over)

pub judged_ok : {A : Type 0} (counted : Bool) (verdicts : List Verdict) (full : Bool) (value : A) → counted ≡ true → first_fault verdicts ≡ None → full ≡ false → judged_line counted verdicts full value ≡ Ok value
judged_ok counted verdicts full value is none room =
    counted_is counted verdicts full value is ∙ (ap (λ v. unless (option_or v (faulty_if full E9)) value) none ∙ ap (λ b. unless (faulty_if b E9) value) room)
