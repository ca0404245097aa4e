-- The number of a breakpoint, or of a display.
use Rattle.std.proofs.Common.{◌≡◌, ◌<◌, ◌≤◌, ◌+◌, ◌∙◌, ⊎_elim, ℕ, List, ◌∷◌, ◌++◌, length, take, drop, get_or, refl, sym, ap, subst, arith, length-append}
use Rattle.std.proofs.lemmas.Bool.{cases_lt}
use Rattle.std.proofs.lemmas.List.{length-take-le, take-append-drop, drop_more, get_or-take, take_all}
use Rattle.std.specs.List.{Contains}
use Rattle.std.proofs.Math.Seq.{get_or-append_seam}
use Rattle.prompt_words.specs.Numbered.{IsNumber, HasNumber}

-- the first of so many that is this one has the number behind those before it
pub is_number : {A : Type 0} (xs : List A) (x : A) (i n : ℕ) → i < length xs → ¬ Contains (take i xs) x → Contains (take (i + 1) xs) x → n ≡ i + 1 → IsNumber xs x n
is_number xs x i n within before has count =
    let size : length (take (i + 1) xs) ≡ i + 1 = length-take-le (i + 1) xs (omega (arith, within)) in
    let last : i ≡ has.0 = ⊎_elim (λ (under : has.0 < i). absurd (before (earlier under))) (λ (past : i ≤ has.0). omega (arith, past, has.1, size)) (cases_lt has.0 i) in
    let here : get_or xs i x ≡ x = sym (get_or-take (i + 1) xs i x (omega arith)) ∙ ap (λ k. get_or (take (i + 1) xs) k x) last ∙ has.2 in
    let rest : drop i xs ≡ x ∷ drop (i + 1) xs = drop_more xs i x within ∙ ap (λ y. y ∷ drop (i + 1) xs) here in
    record {
      before = take i xs;
      after = drop (i + 1) xs;
      parted = sym (take-append-drop i xs) ∙ ap (λ l. take i xs ++ l) rest;
      first = before;
      number = omega (arith, count, length-take-le i xs (omega (arith, within)));
    }
  where
    earlier : has.0 < i → Contains (take i xs) x
    earlier under = (has.0, omega (arith, under, length-take-le i xs (omega (arith, within))), get_or-take i xs has.0 x under ∙ sym (get_or-take (i + 1) xs has.0 x (omega (arith, under))) ∙ has.2)

-- the same where each before it is another
pub first_number : {A : Type 0} (xs : List A) (x : A) (i : ℕ) → i < length xs → ((k : ℕ) (d : A) → k < i → get_or xs k d ≡ x → ⊥) → get_or xs i x ≡ x → IsNumber xs x (i + 1)
first_number xs x i within before here =
    let size : length (take i xs) ≡ i = length-take-le i xs (omega (arith, within)) in
    let size_with : length (take (i + 1) xs) ≡ i + 1 = length-take-le (i + 1) xs (omega (arith, within)) in
    is_number xs x i (i + 1) within
    (λ has. let under : has.0 < i = omega (arith, has.1, size) in before has.0 x under (sym (get_or-take i xs has.0 x under) ∙ has.2))
    (i, omega (arith, size_with), get_or-take (i + 1) xs i x (omega arith) ∙ here)
    refl

pub nowhere : {A : Type 0} (xs : List A) (x : A) (i : ℕ) → length xs ≤ i → ¬ Contains (take i xs) x → ¬ Contains xs x
nowhere xs x i past before = λ has. before (subst (λ bs. Contains bs x) (sym (take_all i xs past)) has)

-- what has a number is there
pub is_there : {A : Type 0} (xs : List A) (x : A) (i : ℕ) → IsNumber xs x i → Contains xs x
is_there xs x i n = (
  length n.before,
  omega (arith, ap length n.parted, length-append n.before (x ∷ n.after)),
  ap (λ l. get_or l (length n.before) x) n.parted ∙ get_or-append_seam n.before x n.after x,
)

pub has_one : {A : Type 0} (xs : List A) (i index : ℕ) → i ≡ index + 1 → index < length xs → HasNumber xs i
has_one xs i index is within = record { above = omega (arith, is); upto = omega (arith, is, within) }
