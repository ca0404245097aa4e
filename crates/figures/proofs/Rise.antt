-- Percentiles rise with the percent, from the least value to the greatest.
use Rattle.std.proofs.Common.{◌≡◌, ◌≢◌, ◌<◌, ◌≤◌, ◌+◌, ◌-◌, ◌*◌, ◌/◌, ◌^◌, ℕ, zero, suc, false, cond, List, [], ◌∷◌, length, refl, sym, ap, ◌∙◌, arith, ⊎_elim, All}
use Rattle.std.specs.Prelude.{count_by, nat_lt}
use Rattle.std.proofs.lemmas.Bool.{cases_lt, cases_eq, lt-leb}
use Rattle.std.proofs.lemmas.Nat.{mul-le}
use Rattle.std.proofs.lemmas.List.Sums.{sum_by-cons}
use Rattle.std.proofs.lemmas.List.Elements.{All-head}
use Rattle.std.proofs.Math.Nat.{two-pow-succ}
use Rattle.figures.specs.Classes.{class_of, top_of, least_from, greatest, upto, class_from, class_at, rank_of}
use Rattle.figures.specs.Laws.{PercentilesRise}
use Rattle.figures.proofs.ClassBounds.{class_within, near_top}
use Rattle.figures.proofs.Counts.{class_on, class_here, class_end, class_begin}
use Rattle.figures.proofs.Near.{lower}

-- the greatest values of classes rise: a next class has the next value of as many halvings, or the first of one more
products : (a b p q : ℕ) → a ≤ b → p ≡ q → a * p - 1 ≤ b * q - 1
products a b p q more same = let big = mul-le a p b q more (omega (arith, same)) in omega (arith, big)

doubled : (a b p q : ℕ) → a ≡ 64 → b ≡ 33 → q ≡ p + p → a * p - 1 ≤ b * q - 1
doubled a b p q a_is b_is q_is =
    let x : a * p ≡ 64 * p = ap (λ n. n * p) a_is in
    let y : b * q ≡ 33 * q = ap (λ n. n * q) b_is in
    omega (arith, x, y, q_is)

top_step : (c : ℕ) → top_of c ≤ top_of (c + 1)
unfolding top_of
top_step c =
    ⊎_elim
    (λ (same : (c + 1) / 32 - 1 ≡ c / 32 - 1). products (c - 32 * (c / 32 - 1) + 1) (c + 1 - 32 * ((c + 1) / 32 - 1) + 1) (2 ^ (c / 32 - 1)) (2 ^ ((c + 1) / 32 - 1)) (omega (arith, same)) (sym (ap (λ i. 2 ^ i) same)))
    (λ (more : (c + 1) / 32 - 1 ≢ c / 32 - 1).
    let next : (c + 1) / 32 - 1 ≡ suc (c / 32 - 1) = omega (arith, more) in
    doubled (c - 32 * (c / 32 - 1) + 1) (c + 1 - 32 * ((c + 1) / 32 - 1) + 1) (2 ^ (c / 32 - 1)) (2 ^ ((c + 1) / 32 - 1)) (omega (arith, next)) (omega (arith, next)) (ap (λ i. 2 ^ i) next ∙ two-pow-succ (c / 32 - 1)))
    (cases_eq ((c + 1) / 32 - 1) (c / 32 - 1))

top_on : (c n : ℕ) → top_of c ≤ top_of (c + n)
top_on c zero = let same : top_of (c + 0) ≡ top_of c = ap top_of (omega arith) in omega (arith, same)
top_on c (suc n) =
    let rest = top_on c n in
    let one = top_step (c + n) in
    let same : top_of (c + suc n) ≡ top_of (c + n + 1) = ap top_of (omega arith) in
    omega (arith, rest, one, same)

top_rises : (c d : ℕ) → c ≤ d → top_of c ≤ top_of d
top_rises c d upto = let on = top_on c (d - c) in let same : top_of (c + (d - c)) ≡ top_of d = ap top_of (omega (arith, upto)) in omega (arith, on, same)

-- the search for a class goes up
class_low : (xs : List ℕ) (rank c n : ℕ) → c ≤ class_from xs rank c n
class_low xs rank c zero = let end = class_end xs rank c in omega (arith, end)
class_low xs rank c (suc n) =
    ⊎_elim
    (λ (few : upto xs c < rank). let on = class_on xs rank c n few in let rest = class_low xs rank (c + 1) n in omega (arith, on, rest))
    (λ (enough : rank ≤ upto xs c). let here = class_here xs rank c (suc n) enough in omega (arith, here))
    (cases_lt (upto xs c) rank)

-- a higher rank is found no lower
class_by_rank : (xs : List ℕ) (r s c n : ℕ) → r ≤ s → class_from xs r c n ≤ class_from xs s c n
class_by_rank xs r s c zero more = let a = class_end xs r c in let b = class_end xs s c in omega (arith, a, b)
class_by_rank xs r s c (suc n) more =
    ⊎_elim
    (λ (few : upto xs c < r). let a = class_on xs r c n few in let b = class_on xs s c n (omega (arith, few, more)) in let rest = class_by_rank xs r s (c + 1) n more in omega (arith, a, b, rest))
    (λ (enough : r ≤ upto xs c). let a = class_here xs r c (suc n) enough in let b = class_low xs s c (suc n) in omega (arith, a, b))
    (cases_lt (upto xs c) r)

-- and none below classes up to which there are too few
class_past : (xs : List ℕ) (rank d c n : ℕ) → d ≤ c + n → ((e : ℕ) → e < d → upto xs e < rank) → d ≤ class_from xs rank c n
class_past xs rank d c zero high few = let end = class_end xs rank c in omega (arith, end, high)
class_past xs rank d c (suc n) high few =
    ⊎_elim
    (λ (less : c < d). let on = class_on xs rank c n (few c less) in let rest = class_past xs rank d (c + 1) n (omega (arith, high)) few in omega (arith, on, rest))
    (λ (last : d ≤ c). let low = class_low xs rank c (suc n) in omega (arith, last, low))
    (cases_lt c d)

-- none of some values is below the least
none_below : (bound v : ℕ) (xs : List ℕ) → v ≤ least_from bound xs → count_by (λ x. nat_lt x v) xs ≡ 0
none_below bound v [] least = refl
none_below bound v (x ∷ xs) least =
    let a = sum_by-cons (λ (y : ℕ). cond {A = ℕ} (nat_lt y v) 1 0) x xs in
    let no : nat_lt x v ≡ false = lt-leb (suc x) v (omega (arith, least)) in
    let none : cond {A = ℕ} (nat_lt x v) 1 0 ≡ 0 = ap (λ b. cond {A = ℕ} b 1 0) no in
    let rest = none_below bound v xs (omega (arith, least)) in
    omega (arith, a, none, rest)

least_within : (bound : ℕ) (xs : List ℕ) → least_from bound xs ≤ bound
least_within bound [] = omega arith
least_within bound (x ∷ xs) = let rest = least_within bound xs in omega (arith, rest)

least_greatest : (bound : ℕ) (xs : List ℕ) → least_from bound xs ≤ greatest (bound ∷ xs)
least_greatest bound xs = let within = least_within bound xs in omega (arith, within)

-- so the class of a rank from 1 on is not below the least value's
least_class : (x rank : ℕ) (xs : List ℕ) → 1 ≤ rank → All (λ y. y < 2 ^ 50) (x ∷ xs) → class_of (least_from x xs) ≤ class_at (x ∷ xs) rank
least_class x rank xs one all =
    let fits : x < 2 ^ 50 = All-head (λ y. y < 2 ^ 50) x xs all in
    let bounded = least_within x xs in
    let within = class_within (least_from x xs) (omega (arith, fits, bounded)) in
    let none = none_below x (least_from x xs) (x ∷ xs) (omega (arith, bounded)) in
    let past = class_past (x ∷ xs) rank (class_of (least_from x xs)) 0 1471 (omega (arith, within)) (λ e under. let few = lower (least_from x xs) e (x ∷ xs) under all in omega (arith, few, none, one)) in
    let begins = class_begin (x ∷ xs) rank in
    omega (arith, past, begins)

least_top : (x rank : ℕ) (xs : List ℕ) → 1 ≤ rank → All (λ y. y < 2 ^ 50) (x ∷ xs) → least_from x xs ≤ top_of (class_at (x ∷ xs) rank)
least_top x rank xs one all =
    let fits : x < 2 ^ 50 = All-head (λ y. y < 2 ^ 50) x xs all in
    let bounded = least_within x xs in
    let near = near_top (least_from x xs) (omega (arith, fits, bounded)) in
    let rises = top_rises (class_of (least_from x xs)) (class_at (x ∷ xs) rank) (least_class x rank xs one all) in
    let below = near.0 in
    omega (arith, below, rises)

rank_tops : (r s : ℕ) (xs : List ℕ) → r ≤ s → top_of (class_at xs r) ≤ top_of (class_at xs s)
rank_tops r s xs more =
    let up = class_by_rank xs r s 0 1471 more in
    let a = class_begin xs r in
    let b = class_begin xs s in
    top_rises (class_at xs r) (class_at xs s) (omega (arith, up, a, b))

ranks : (p q n : ℕ) → 1 ≤ p → p ≤ q → 1 ≤ n → (1 ≤ rank_of p n) × (rank_of p n ≤ rank_of q n)
ranks p q n one more some =
    let a = mul-le 1 1 p n one some in
    let b = mul-le p n q n more (omega arith) in
    (omega (arith, a), omega (arith, b))

pub percentiles_rise : PercentilesRise
percentiles_rise p q [] one more all = tt
percentiles_rise p q (x ∷ xs) one more all =
    let rank = ranks p q (length (x ∷ xs)) one more (omega arith) in
    let least = least_top x (rank_of p (length (x ∷ xs))) xs rank.0 all in
    let tops = rank_tops (rank_of p (length (x ∷ xs))) (rank_of q (length (x ∷ xs))) (x ∷ xs) rank.1 in
    let small = least_greatest x xs in
    (omega (arith, least, small), (omega (arith, tops), omega arith))
