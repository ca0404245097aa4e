-- One more line that is read.
use Rattle.std.proofs.Common.{◌≡◌, ℕ, ◌+◌, ◌<◌, ◌≤◌, inl, inr, List, [], ◌∷◌, ◌++◌, length, take, get_or, Option, None, Ok, arith, refl, length-append}
use Rattle.std.proofs.lemmas.List.{take-append-le, get_or_append_left, get_or_at, take_at}
use Rattle.std.proofs.lemmas.Bool.{cases_lt}
use Rattle.scenario_asm.specs.declared.statement.Statement.{Statement}
use Rattle.scenario_asm.specs.Statements.{line_at}
use Rattle.scenario_asm.specs.Text.{known_of}
use Rattle.scenario_asm.specs.Meaning.{AreRead, statements_of}

-- no lines are read
pub read_none : AreRead [] []
read_none = record { as_many = refl; each = λ k lt. absurd (omega arith) }

length_push : {X : Type 0} (xs : List X) (x : X) → length (xs ++ x ∷ []) ≡ length xs + 1
length_push xs x = length-append xs (x ∷ [])

read_within : (lines : List (List ℕ)) (said : List (Option Statement)) (line : List ℕ) (says : Option Statement) (k : ℕ) → AreRead lines said → k < length lines → line_at (known_of (statements_of (take k (said ++ says ∷ [])))) (get_or (lines ++ line ∷ []) k []) ≡ Ok (get_or (said ++ says ∷ []) k None)
read_within lines said line says k read lt =
    let many : length said ≡ length lines = read.as_many in
    let lt_said : k < length said = omega arith in
    let le_said : k ≤ length said = omega arith in
    let front : take k (said ++ says ∷ []) ≡ take k said = take-append-le k said (says ∷ []) le_said in
    let here : get_or (lines ++ line ∷ []) k [] ≡ get_or lines k [] = get_or_append_left lines (line ∷ []) [] k lt in
    let there : get_or (said ++ says ∷ []) k None ≡ get_or said k None = get_or_append_left said (says ∷ []) None k lt_said in
    rw (front, here, there) (read.each k lt)

read_last : (lines : List (List ℕ)) (said : List (Option Statement)) (line : List ℕ) (says : Option Statement) (k : ℕ) → AreRead lines said → line_at (known_of (statements_of said)) line ≡ Ok says → length lines ≡ k → line_at (known_of (statements_of (take k (said ++ says ∷ [])))) (get_or (lines ++ line ∷ []) k []) ≡ Ok (get_or (said ++ says ∷ []) k None)
read_last lines said line says k read now is =
    let many : length said ≡ k = omega (arith, read.as_many) in
    let front : take k (said ++ says ∷ []) ≡ said = take_at said (says ∷ []) k many in
    let here : get_or (lines ++ line ∷ []) k [] ≡ line = get_or_at lines line [] [] k is in
    let there : get_or (said ++ says ∷ []) k None ≡ says = get_or_at said says [] None k many in
    rw (front, here, there) now

pub read_more : (lines : List (List ℕ)) (said : List (Option Statement)) (line : List ℕ) (says : Option Statement) → AreRead lines said → line_at (known_of (statements_of said)) line ≡ Ok says → AreRead (lines ++ line ∷ []) (said ++ says ∷ [])
read_more lines said line says read now =
    record {
      as_many = omega (arith, read.as_many, length_push lines line, length_push said says);
      each = λ k lt.
          elim (cases_lt k (length lines)) [
            | inl within ↦ read_within lines said line says k read within
            | inr past ↦ read_last lines said line says k read now (omega (arith, length_push lines line))
          ];
    }
