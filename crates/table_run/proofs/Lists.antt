-- Lists: what holds of each element, after a change of one; and the numbered elements that pass a test.
use Rattle.std.proofs.Common.{◌≡◌, ℕ, zero, suc, ◌+◌, ◌<◌, ◌≤◌, ◌==◌, Bool, true, false, cond, List, [], ◌∷◌, ◌++◌, length, get_or, set, map, refl, sym, ap, ◌∙◌, Some, None, arith, eqb-true, eq-eqb, ltb, ⊎_elim, true≢false}
use Rattle.std.proofs.lemmas.Bool.{cases_lt}
use Rattle.std.proofs.lemmas.Bool.Decides.{nat_tests}
use Rattle.std.proofs.lemmas.Option.{slice_get_within, get_or_from_slice_get}
use Rattle.std.proofs.lemmas.List.Quantifiers.{position-Some}
use Rattle.std.proofs.lemmas.List.Sums.{fails_before_first}
use Rattle.std.specs.Prelude.{filter}
use Rattle.std.specs.List.{AllByRecursion, enumerate_from, slice_get, position_or_len, position}
use Rattle.tournament.proofs.Maps.{not_some, same_some}

pub all_append : {A : Type 0} (P : A → Type 0) (xs ys : List A) → AllByRecursion P xs → AllByRecursion P ys → AllByRecursion P (xs ++ ys)
all_append P [] ys a b = b
all_append P (x ∷ xs) ys a b = (a.0, all_append P xs ys a.1 b)

pub all_map : {A : Type 0} (P Q : A → Type 0) → ((x : A) → P x → Q x) → (xs : List A) → AllByRecursion P xs → AllByRecursion Q xs
all_map P Q f [] a = tt
all_map P Q f (x ∷ xs) a = (f x a.0, all_map P Q f xs a.1)

pub all_left : {A : Type 0} (P : A → Type 0) (xs ys : List A) → AllByRecursion P (xs ++ ys) → AllByRecursion P xs
all_left P [] ys a = tt
all_left P (x ∷ xs) ys a = (a.0, all_left P xs ys a.1)

pub all_right : {A : Type 0} (P : A → Type 0) (xs ys : List A) → AllByRecursion P (xs ++ ys) → AllByRecursion P ys
all_right P [] ys a = a
all_right P (x ∷ xs) ys a = all_right P xs ys a.1

pub all_here : {A : Type 0} (P : A → Type 0) (xs : List A) (i : ℕ) (d : A) → i < length xs → AllByRecursion P xs → P (get_or xs i d)
all_here P [] i d within a = absurd (omega (arith, within))
all_here P (x ∷ xs) zero d within a = a.0
all_here P (x ∷ xs) (suc i) d within a = all_here P xs i d (omega (arith, within)) a.1

pub all_set : {A : Type 0} (P : A → Type 0) (xs : List A) (i : ℕ) (y : A) → AllByRecursion P xs → P y → AllByRecursion P (set xs i y)
all_set P [] i y a here = tt
all_set P (x ∷ xs) zero y a here = (here, a.1)
all_set P (x ∷ xs) (suc i) y a here = (a.0, all_set P xs i y a.1 here)

pub all_from : {A B : Type 0} (P : B → Type 0) (f : A → B) (xs : List A) → AllByRecursion (λ x. P (f x)) xs → AllByRecursion P (map f xs)
all_from P f [] a = tt
all_from P f (x ∷ xs) a = (a.0, all_from P f xs a.1)

-- a numbered element is the one at its number
pub record IsAt {A : Type 0} (xs : List A) (base : ℕ) (x : ℕ × A) : Type 0 where
  pub place : ℕ
  pub number_is : x.0 ≡ base + place
  pub there : slice_get xs place ≡ Some x.1

later_numbered : {A : Type 0} (test : ℕ × A → Bool) (base : ℕ) (x : A) (xs : List A) (ys : List (ℕ × A)) → AllByRecursion (λ y. IsAt xs (base + 1) y × (test y ≡ true)) ys → AllByRecursion (λ y. IsAt (x ∷ xs) base y × (test y ≡ true)) ys
later_numbered test base x xs ys all =
    all_map (λ y. IsAt xs (base + 1) y × (test y ≡ true)) (λ y. IsAt (x ∷ xs) base y × (test y ≡ true))
    (λ y h. (record { place = suc h.0.place; number_is = (let is = h.0.number_is in omega (arith, is)); there = h.0.there }, h.1)) ys all

pub all_numbered : {A : Type 0} (test : ℕ × A → Bool) (base : ℕ) (xs : List A) → AllByRecursion (λ x. IsAt xs base x × (test x ≡ true)) (filter test (enumerate_from base xs))
all_numbered test base [] = tt
all_numbered {A} test base (x ∷ xs) =
    let later = later_numbered test base x xs (filter test (enumerate_from (base + 1) xs)) (all_numbered test (base + 1) xs) in
    elim (test (base, x)) as (λ b. test (base, x) ≡ b → AllByRecursion (λ y. IsAt (x ∷ xs) base y × (test y ≡ true)) (cond b ((base, x) ∷ filter test (enumerate_from (base + 1) xs)) (filter test (enumerate_from (base + 1) xs)))) [
      | true ↦ λ passes. ((record { place = 0; number_is = omega arith; there = refl }, passes), later)
      | false ↦ λ _. later
    ] refl

above : {A : Type 0} (test : ℕ × A → Bool) (base : ℕ) (xs : List A) (ys : List (ℕ × A)) (i : ℕ) (z : ℕ × A) → AllByRecursion (λ y. IsAt xs (base + 1) y × (test y ≡ true)) ys → slice_get ys i ≡ Some z → base < z.0
above test base xs [] i z all e = absurd (not_some e)
above test base xs (y ∷ ys) zero z all e = let is = all.0.0.number_is in let same = ap (λ (q : ℕ × _). q.0) (same_some y z e) in omega (arith, is, same)
above test base xs (y ∷ ys) (suc i) z all e = above test base xs ys i z all.1 e

first_place : {A : Type 0} (test : ℕ × A → Bool) (base : ℕ) (a : A) (xs : List A) (i j : ℕ) (x y : ℕ × A)
    → ((i j : ℕ) → slice_get (filter test (enumerate_from (base + 1) xs)) i ≡ Some x → slice_get (filter test (enumerate_from (base + 1) xs)) j ≡ Some y → i ≡ j)
    → slice_get ((base, a) ∷ filter test (enumerate_from (base + 1) xs)) i ≡ Some x → slice_get ((base, a) ∷ filter test (enumerate_from (base + 1) xs)) j ≡ Some y → x.0 ≡ y.0 → i ≡ j
first_place test base a xs zero zero x y rest e f same = refl
first_place {A} test base a xs zero (suc j) x y rest e f same =
    let is : base ≡ x.0 = ap (λ (q : ℕ × A). q.0) (same_some (base, a) x e) in
    let more = above test base xs (filter test (enumerate_from (base + 1) xs)) j y (all_numbered test (base + 1) xs) f in absurd (omega (arith, is, more, same))
first_place {A} test base a xs (suc i) zero x y rest e f same =
    let is : base ≡ y.0 = ap (λ (q : ℕ × A). q.0) (same_some (base, a) y f) in
    let more = above test base xs (filter test (enumerate_from (base + 1) xs)) i x (all_numbered test (base + 1) xs) e in absurd (omega (arith, is, more, same))
first_place test base a xs (suc i) (suc j) x y rest e f same = let is : i ≡ j = rest i j e f in ap suc is

-- two of one number stand at one place
pub one_place : {A : Type 0} (test : ℕ × A → Bool) (base : ℕ) (xs : List A) (i j : ℕ) (x y : ℕ × A) → slice_get (filter test (enumerate_from base xs)) i ≡ Some x → slice_get (filter test (enumerate_from base xs)) j ≡ Some y → x.0 ≡ y.0 → i ≡ j
one_place test base [] i j x y e f same = absurd (not_some e)
one_place {A} test base (a ∷ xs) i j x y e f same =
    let rest = filter test (enumerate_from (base + 1) xs) in
    elim (test (base, a)) as (λ b. slice_get (cond b ((base, a) ∷ rest) rest) i ≡ Some x → slice_get (cond b ((base, a) ∷ rest) rest) j ≡ Some y → i ≡ j) [
      | true ↦ λ e f. first_place test base a xs i j x y (λ i j e f. one_place test (base + 1) xs i j x y e f same) e f same
      | false ↦ λ e f. one_place test (base + 1) xs i j x y e f same
    ] e f

-- a numbered element that passes is among those that do
pub among_passing : {A : Type 0} (test : ℕ × A → Bool) (base : ℕ) (xs : List A) (place : ℕ) (x : A) → slice_get xs place ≡ Some x → test (base + place, x) ≡ true → (i : ℕ) × (slice_get (filter test (enumerate_from base xs)) i ≡ Some (base + place, x))
among_passing test base [] place x e passes = absurd (not_some e)
among_passing {A} test base (a ∷ xs) zero x e passes =
    let is : a ≡ x = same_some a x e in
    let number : base + 0 ≡ base = omega arith in
    let here : test (base, a) ≡ true = (λ i. test (sym number i, is i)) ∙ passes in
    (0, ap (λ b. slice_get (cond b ((base, a) ∷ filter test (enumerate_from (base + 1) xs)) (filter test (enumerate_from (base + 1) xs))) 0) here ∙ (λ i. Some (sym number i, is i)))
among_passing {A} test base (a ∷ xs) (suc place) x e passes =
    let number : base + 1 + place ≡ base + suc place = omega arith in
    let later = among_passing test (base + 1) xs place x e (ap (λ n. test (n, x)) number ∙ passes) in
    let rest = filter test (enumerate_from (base + 1) xs) in
    elim (test (base, a)) as (λ b. (i : ℕ) × (slice_get (cond b ((base, a) ∷ rest) rest) i ≡ Some (base + suc place, x))) [
      | true ↦ (suc later.0, later.1 ∙ ap (λ n. Some (n, x)) number)
      | false ↦ (later.0, later.1 ∙ ap (λ n. Some (n, x)) number)
    ]

-- the first of a number is found
pub number_found : {A : Type 0} (ys : List (ℕ × A)) (number j : ℕ) (y : ℕ × A) → slice_get ys j ≡ Some y → y.0 ≡ number → (i : ℕ) × (position (λ (y : ℕ × A). y.0 == number) ys ≡ Some i) × (i < length ys) × ((get_or ys i y).0 ≡ number)
number_found {A} ys number j y e is =
    let test : ℕ × A → Bool = λ (y : ℕ × A). y.0 == number in
    let i : ℕ = position_or_len test ys in
    let within : j < length ys = slice_get_within ys j y e in
    let before : i ≤ j = ⊎_elim (λ (past : j < i). absurd (true≢false (sym (ap (λ (z : ℕ × A). z.0 == number) (get_or_from_slice_get ys j y y e) ∙ eq-eqb y.0 number is) ∙ fails_before_first test ys j y past))) (λ (most : i ≤ j). most) (cases_lt j i) in
    let less : i < length ys = omega (arith, before, within) in
    let found : position test ys ≡ Some i = ap (λ b. cond b (Some i) None) (is_below i (length ys) less) in
    (i, found, less, eqb-true _ _ (position-Some test ys i y found).1)
  where
    is_below : (a b : ℕ) → a < b → ltb a b ≡ true
    is_below a b less = grind (arith, nat_tests)
