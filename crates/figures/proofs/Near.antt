-- A percentile that is answered is near the exact one.
use Rattle.std.proofs.Common.{◌≡◌, ◌<◌, ◌≤◌, ◌+◌, ◌-◌, ◌*◌, ◌^◌, ℕ, zero, suc, Bool, true, false, cond, List, [], ◌∷◌, length, refl, sym, ap, subst, ◌∙◌, arith, ⊎_elim, All}
use Rattle.std.specs.Prelude.{count_by, min, nat_le, nat_lt, Contains}
use Rattle.std.proofs.lemmas.Bool.{cases_lt, cases_Bool, leb-true, le-leb, lt-leb}
use Rattle.std.proofs.lemmas.List.Sums.{sum_by-cons}
use Rattle.std.proofs.lemmas.List.Elements.{All-head, All-tail, All-nil, All-cons, All-contains}
use Rattle.figures.specs.Classes.{class_of, top_of, greatest, in_class, upto, class_from, class_at, rank_of}
use Rattle.figures.specs.Laws.{PercentilesAreNear}
use Rattle.figures.proofs.ClassBounds.{class_rises, class_within, near_top}
use Rattle.figures.proofs.Counts.{upto_is, before_next, class_on, class_here, class_end, class_begin}

-- a class that is lower than a value's has lower values alone
lower_one : (x v e : ℕ) → x < 2 ^ 50 → e < class_of v → cond {A = ℕ} (nat_le (class_of x) e) 1 0 ≤ cond {A = ℕ} (nat_lt x v) 1 0
lower_one x v e fits under =
    ⊎_elim
    (λ (less : x < v). let one : nat_lt x v ≡ true = le-leb (suc x) v less in subst (λ b. cond {A = ℕ} (nat_le (class_of x) e) 1 0 ≤ cond {A = ℕ} b 1 0) (sym one) (at_most (nat_le (class_of x) e)))
    (λ (more : v ≤ x).
    let up : class_of v ≤ class_of x = class_rises v x more (omega (arith, fits)) in
    let none : nat_le (class_of x) e ≡ false = lt-leb (class_of x) e (omega (arith, up, under)) in
    subst (λ b. cond {A = ℕ} b 1 0 ≤ cond {A = ℕ} (nat_lt x v) 1 0) (sym none) (omega arith))
    (cases_lt x v)
  where
    at_most : (b : Bool) → cond {A = ℕ} b 1 0 ≤ 1
    at_most true = omega arith
    at_most false = omega arith

pub lower : (v e : ℕ) (xs : List ℕ) → e < class_of v → All (λ x. x < 2 ^ 50) xs → upto xs e ≤ count_by (λ x. nat_lt x v) xs
lower v e [] under all = omega arith
lower v e (x ∷ xs) under all =
    let a = sum_by-cons (λ (y : ℕ). cond {A = ℕ} (nat_le (class_of y) e) 1 0) x xs in
    let b = sum_by-cons (λ (y : ℕ). cond {A = ℕ} (nat_lt y v) 1 0) x xs in
    let one = lower_one x v e (All-head (λ y. y < 2 ^ 50) x xs all) under in
    let rest = lower v e xs under (All-tail (λ y. y < 2 ^ 50) x xs all) in
    omega (arith, a, b, one, rest)

upper_one : (x v : ℕ) → v < 2 ^ 50 → cond {A = ℕ} (nat_le x v) 1 0 ≤ cond {A = ℕ} (nat_le (class_of x) (class_of v)) 1 0
upper_one x v fits =
    ⊎_elim
    (λ (is : nat_le x v ≡ true).
    let up : class_of x ≤ class_of v = class_rises x v (leb-true x v is) (omega (arith, fits)) in
    let one : nat_le (class_of x) (class_of v) ≡ true = le-leb (class_of x) (class_of v) up in
    subst (λ b. cond {A = ℕ} (nat_le x v) 1 0 ≤ cond {A = ℕ} b 1 0) (sym one) (subst (λ b. cond {A = ℕ} b 1 0 ≤ 1) (sym is) (omega arith)))
    (λ (is : nat_le x v ≡ false). subst (λ b. cond {A = ℕ} b 1 0 ≤ cond {A = ℕ} (nat_le (class_of x) (class_of v)) 1 0) (sym is) (omega arith))
    (cases_Bool (nat_le x v))

upper : (v : ℕ) (xs : List ℕ) → v < 2 ^ 50 → count_by (λ x. nat_le x v) xs ≤ upto xs (class_of v)
upper v [] fits = omega arith
upper v (x ∷ xs) fits =
    let a = sum_by-cons (λ (y : ℕ). cond {A = ℕ} (nat_le y v) 1 0) x xs in
    let b = sum_by-cons (λ (y : ℕ). cond {A = ℕ} (nat_le (class_of y) (class_of v)) 1 0) x xs in
    let one = upper_one x v fits in
    let rest = upper v xs fits in
    omega (arith, a, b, one, rest)

-- so the search ends at the class of the exact percentile
found : (xs : List ℕ) (rank d c n : ℕ) → c ≤ d → d ≤ c + n → ((e : ℕ) → e < d → upto xs e < rank) → rank ≤ upto xs d → class_from xs rank c n ≡ d
found xs rank d c zero low high few enough = class_end xs rank c ∙ omega (arith, low, high)
found xs rank d c (suc n) low high few enough =
    ⊎_elim
    (λ (less : c < d). class_on xs rank c n (few c less) ∙ found xs rank d (c + 1) n (omega (arith, less)) (omega (arith, high)) few enough)
    (λ (last : d ≤ c). let same : c ≡ d = omega (arith, last, low) in class_here xs rank c (suc n) (subst (λ i. rank ≤ upto xs i) (sym same) enough) ∙ same)
    (cases_lt c d)

-- no fewer values are up to a higher class
upto_next : (xs : List ℕ) (c : ℕ) → upto xs (c + 1) ≡ upto xs c + in_class xs (c + 1)
upto_next xs c = upto_is xs (c + 1) ∙ ap (λ n. n + in_class xs (c + 1)) (before_next xs c)

pub upto_before : (xs : List ℕ) (c : ℕ) → 1 ≤ c → upto xs c ≡ upto xs (c - 1) + in_class xs c
upto_before xs c some =
    let next = upto_next xs (c - 1) in
    let here : upto xs (c - 1 + 1) ≡ upto xs c = ap (upto xs) (omega (arith, some)) in
    let of_it : in_class xs (c - 1 + 1) ≡ in_class xs c = ap (in_class xs) (omega (arith, some)) in
    omega (arith, next, here, of_it)

upto_rises : (xs : List ℕ) (c n : ℕ) → upto xs c ≤ upto xs (c + n)
upto_rises xs c zero = let same : upto xs (c + 0) ≡ upto xs c = ap (upto xs) (omega arith) in omega (arith, same)
upto_rises xs c (suc n) =
    let rest = upto_rises xs c n in
    let next = upto_next xs (c + n) in
    let same : upto xs (c + suc n) ≡ upto xs (c + n + 1) = ap (upto xs) (omega arith) in
    omega (arith, rest, next, same)

-- the class is the first up to which there are enough
pub first_enough : (xs : List ℕ) (rank c : ℕ) → c < 1472 → (1 ≤ c → upto xs (c - 1) < rank) → rank ≤ upto xs c → class_at xs rank ≡ c
first_enough xs rank c within few enough =
    class_begin xs rank
    ∙ found xs rank c 0 1471 (omega arith) (omega (arith, within)) (λ e under.
    let rises = upto_rises xs e (c - 1 - e) in
    let same : upto xs (e + (c - 1 - e)) ≡ upto xs (c - 1) = ap (upto xs) (omega (arith, under)) in
    let less = few (omega (arith, under)) in
    omega (arith, rises, same, less)) enough

-- all values are up to the highest class, and up to a lower one above which there is none
all_upto : (xs : List ℕ) → All (λ x. x < 2 ^ 50) xs → upto xs 1471 ≡ length xs
all_upto [] all = refl
all_upto (x ∷ xs) all =
    let a = sum_by-cons (λ (y : ℕ). cond {A = ℕ} (nat_le (class_of y) 1471) 1 0) x xs in
    let within = class_within x (All-head (λ y. y < 2 ^ 50) x xs all) in
    let one : cond {A = ℕ} (nat_le (class_of x) 1471) 1 0 ≡ 1 = ap (λ b. cond {A = ℕ} b 1 0) (le-leb (class_of x) 1471 (omega (arith, within))) in
    let rest = all_upto xs (All-tail (λ y. y < 2 ^ 50) x xs all) in
    omega (arith, a, one, rest)

none_above : (xs : List ℕ) (c n : ℕ) → c + n ≡ 1471 → ((e : ℕ) → c < e → e < 1472 → 0 ≡ in_class xs e) → upto xs c ≡ upto xs 1471
none_above xs c zero at none = ap (upto xs) (omega (arith, at))
none_above xs c (suc n) at none =
    let next = upto_next xs c in
    let here = none (c + 1) (omega arith) (omega (arith, at)) in
    let rest = none_above xs (c + 1) n (omega (arith, at)) (λ e above within. none e (omega (arith, above)) within) in
    omega (arith, next, here, rest)

pub all_below : (xs : List ℕ) (c : ℕ) → c < 1472 → All (λ x. x < 2 ^ 50) xs → ((e : ℕ) → c < e → e < 1472 → 0 ≡ in_class xs e) → upto xs c ≡ length xs
all_below xs c within all none = none_above xs c (1471 - c) (omega (arith, within)) none ∙ all_upto xs all

pub class_is : (xs : List ℕ) (rank v : ℕ) → v < 2 ^ 50 → All (λ x. x < 2 ^ 50) xs → count_by (λ x. nat_lt x v) xs < rank → rank ≤ count_by (λ x. nat_le x v) xs → class_at xs rank ≡ class_of v
class_is xs rank v fits all below enough =
    let within = class_within v fits in
    class_begin xs rank
    ∙ found xs rank (class_of v) 0 1471 (omega arith) (omega (arith, within)) (λ e under. let few = lower v e xs under all in omega (arith, few, below)) (let many = upper v xs fits in omega (arith, many, enough))

all_most : (xs : List ℕ) (bound : ℕ) → greatest xs ≤ bound → All (λ x. x ≤ bound) xs
all_most [] bound within = All-nil (λ x. x ≤ bound)
all_most (x ∷ xs) bound within = All-cons (λ y. y ≤ bound) x xs (omega (arith, within)) (all_most xs bound (omega (arith, within)))

-- a value is at most the greatest
most : (xs : List ℕ) (v : ℕ) → Contains xs v → v ≤ greatest xs
most xs v has = All-contains (λ x. x ≤ greatest xs) xs v (all_most xs (greatest xs) (omega arith)) has

fits_among : (xs : List ℕ) (v : ℕ) → Contains xs v → All (λ x. x < 2 ^ 50) xs → v < 2 ^ 50
fits_among xs v has all = All-contains (λ x. x < 2 ^ 50) xs v all has

near_one : (v top answer most : ℕ) → answer ≡ min top most → v ≤ top → 32 * top ≤ 33 * v → v ≤ most → (v ≤ answer) × (32 * answer ≤ 33 * v)
near_one v top answer most is below above within = (omega (arith, is, below, within), omega (arith, is, above))

pub percentiles_near : PercentilesAreNear
percentiles_near percent [] v all exact = tt
percentiles_near percent (x ∷ xs) v all exact =
    let fits = fits_among (x ∷ xs) v exact.one_of all in
    let class = class_is (x ∷ xs) (rank_of percent (length (x ∷ xs))) v fits all exact.below exact.upto in
    let near = near_top v (omega (arith, fits)) in
    near_one v (top_of (class_of v)) (min (top_of (class_at (x ∷ xs) (rank_of percent (length (x ∷ xs))))) (greatest (x ∷ xs))) (greatest (x ∷ xs)) (ap (λ k. min (top_of k) (greatest (x ∷ xs))) class) near.0 near.1 (most (x ∷ xs) v exact.one_of)
