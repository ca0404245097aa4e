-- Counts of values in classes, one value more, and one class more.
use Rattle.std.proofs.Common.{◌≡◌, ◌≢◌, ◌<◌, ◌≤◌, ◌+◌, ℕ, zero, suc, Bool, true, false, cond, ◌==◌, List, [], ◌∷◌, ◌++◌, refl, sym, ap, ◌∙◌, arith, ⊎_elim, Option, Some, None}
use Rattle.std.specs.Prelude.{count_by, max, min, nat_le, nat_lt, option_to_list}
use Rattle.std.proofs.lemmas.Bool.{cases_eq, cases_Bool, eq-eqb, eqb-true, lt-leb, le-leb}
use Rattle.std.proofs.Math.Nat.{zero-add}
use Rattle.std.proofs.lemmas.List.{append-nil}
use Rattle.std.proofs.lemmas.Bool.Decides.{nat_tests}
use Rattle.std.proofs.lemmas.List.Sums.{sum_by-append, sum_by-cons}
use Rattle.figures.specs.Classes.{class_of, in_class, least_from, greatest, upto, class_from, class_at}

-- a count over values with one more at the end
pub count_more : {A : Type 0} (p : A → Bool) (xs : List A) (x : A) → count_by p (xs ++ x ∷ []) ≡ count_by p xs + cond (p x) 1 0
count_more p xs x = sum_by-append (λ y. cond (p y) 1 0) xs (x ∷ []) ∙ ap (λ n. count_by p xs + n) (zero-add (cond (p x) 1 0))

pub greatest_more : (xs : List ℕ) (x : ℕ) → greatest (xs ++ x ∷ []) ≡ max (greatest xs) x
greatest_more [] x = omega arith
greatest_more (y ∷ ys) x = let rest = ap (λ n. max y n) (greatest_more ys x) in omega (arith, rest)

pub least_more : (bound : ℕ) (xs : List ℕ) (x : ℕ) → least_from bound (xs ++ x ∷ []) ≡ min (least_from bound xs) x
least_more bound [] x = omega arith
least_more bound (y ∷ ys) x = let rest = ap (λ n. min y n) (least_more bound ys x) in omega (arith, rest)

-- the same, if there is one more
pub least_given : (bound : ℕ) (xs : List ℕ) (o : Option ℕ) → least_from bound (xs ++ option_to_list o) ≡ least_from (least_from bound xs) (option_to_list o)
least_given bound xs None = ap (least_from bound) (append-nil xs)
least_given bound xs (Some x) = let more = least_more bound xs x in omega (arith, more)

-- the least of values is that of any bound above one of them
pub least_of_bound : (bound x : ℕ) (xs : List ℕ) → x ≤ bound → min x (least_from bound xs) ≡ least_from x xs
least_of_bound bound x [] within = omega arith
least_of_bound bound x (y ∷ ys) within = let rest = least_of_bound bound x ys within in omega (arith, rest)

pub test_no : (a b : ℕ) → a ≢ b → (a == b) ≡ false
test_no a b apart = ⊎_elim (λ (e : (a == b) ≡ true). absurd (apart (eqb-true a b e))) (λ (e : (a == b) ≡ false). e) (cases_Bool (a == b))

-- the counts of the classes, one value more
pub class_more : (xs : List ℕ) (old new v class c : ℕ) → class ≡ class_of v → (c ≡ class → new ≡ old + 1) → (c ≢ class → new ≡ old) → old ≡ in_class xs c → new ≡ in_class (xs ++ v ∷ []) c
class_more xs old new v class c class_is here others at =
    let more = count_more (λ x. class_of x == c) xs v in
    ⊎_elim
    (λ (same : c ≡ class).
    let one : cond {A = ℕ} (class_of v == c) 1 0 ≡ 1 = ap (λ b. cond {A = ℕ} b 1 0) (eq-eqb (class_of v) c (sym class_is ∙ sym same)) in
    let now_is = here same in
    omega (arith, more, one, now_is, at))
    (λ (other : c ≢ class).
    let none : cond {A = ℕ} (class_of v == c) 1 0 ≡ 0 = ap (λ b. cond {A = ℕ} b 1 0) (test_no (class_of v) c (λ e. other (sym e ∙ sym class_is))) in
    let now_is = others other in
    omega (arith, more, none, now_is, at))
    (cases_eq c class)

-- how many values are of a class before one
abbrev pub before : List ℕ → ℕ → ℕ
before xs c = count_by (λ x. nat_lt (class_of x) c) xs

one_class : (k c : ℕ) → cond {A = ℕ} (nat_le k c) 1 0 ≡ cond {A = ℕ} (nat_lt k c) 1 0 + cond {A = ℕ} (k == c) 1 0
one_class k c = grind (arith, nat_tests)

-- up to a class are those before it and those of it
pub upto_is : (xs : List ℕ) (c : ℕ) → upto xs c ≡ before xs c + in_class xs c
upto_is [] c = refl
upto_is (x ∷ xs) c =
    let a = sum_by-cons (λ (y : ℕ). cond (nat_le (class_of y) c) 1 0) x xs in
    let b = sum_by-cons (λ (y : ℕ). cond (nat_lt (class_of y) c) 1 0) x xs in
    let d = sum_by-cons (λ (y : ℕ). cond (class_of y == c) 1 0) x xs in
    let e = one_class (class_of x) c in
    let rest = upto_is xs c in
    omega (arith, a, b, d, e, rest)

same_test : (k c : ℕ) → cond {A = ℕ} (nat_lt k (c + 1)) 1 0 ≡ cond {A = ℕ} (nat_le k c) 1 0
same_test k c = grind (arith, nat_tests)

pub before_next : (xs : List ℕ) (c : ℕ) → before xs (c + 1) ≡ upto xs c
before_next [] c = refl
before_next (x ∷ xs) c =
    let a = sum_by-cons (λ (y : ℕ). cond (nat_lt (class_of y) (c + 1)) 1 0) x xs in
    let b = sum_by-cons (λ (y : ℕ). cond (nat_le (class_of y) c) 1 0) x xs in
    let e = same_test (class_of x) c in
    let rest = before_next xs c in
    omega (arith, a, b, e, rest)

-- the search for a class goes on behind one up to which there are too few, and ends at one up to which there are enough
pub class_on : (xs : List ℕ) (rank c n : ℕ) → upto xs c < rank → class_from xs rank c (suc n) ≡ class_from xs rank (c + 1) n
unfolding class_from
class_on xs rank c n few = ap (λ b. cond b c (class_from xs rank (c + 1) n)) (lt-leb rank (upto xs c) few)

pub class_here : (xs : List ℕ) (rank c n : ℕ) → rank ≤ upto xs c → class_from xs rank c n ≡ c
unfolding class_from
class_here xs rank c zero enough = refl
class_here xs rank c (suc n) enough = ap (λ b. cond b c (class_from xs rank (c + 1) n)) (le-leb rank (upto xs c) enough)

pub class_end : (xs : List ℕ) (rank c : ℕ) → class_from xs rank c 0 ≡ c
unfolding class_from
class_end xs rank c = refl

pub class_begin : (xs : List ℕ) (rank : ℕ) → class_at xs rank ≡ class_from xs rank 0 1471
unfolding class_at
class_begin xs rank = refl
