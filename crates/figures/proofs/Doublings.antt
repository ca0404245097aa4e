-- Each doubling of values has 32 classes.
use Rattle.std.proofs.Common.{◌≡◌, ◌<◌, ◌≤◌, ◌+◌, ◌*◌, ◌/◌, ◌^◌, ℕ, suc, ap, ◌∙◌, arith, ⊎_elim}
use Rattle.std.proofs.lemmas.Bool.{cases_lt, cases_eq}
use Rattle.std.proofs.lemmas.Nat.{mul-le}
use Rattle.std.proofs.Math.Nat.{two-pow-succ, div-eq_of_lt-le}
use Rattle.std.proofs.Math.Pow.{pow_mono}
use Rattle.figures.specs.Classes.{halvings, class_of}
use Rattle.figures.specs.Laws.{EachDoublingHas32Classes}
use Rattle.figures.proofs.ClassBounds.{IsHalved, halved}

-- what is halved so often lies in that doubling, or below the first
upper_end : (v h m p : ℕ) → IsHalved v h m p → v < 64 * p
upper_end v h m p is = let most : m ≤ 63 = (let below = is.most in omega (arith, below)) in let all : m * p ≤ 63 * p = mul-le m p 63 p most (omega arith) in let parts = is.parts in let small = is.small in omega (arith, all, parts, small)

lower_end : (v h m p : ℕ) → IsHalved v h m p → (h ≡ 0 → ⊥) → 32 * p ≤ v
lower_end v h m p is some =
    ⊎_elim (λ (none : h ≡ 0). absurd (some none))
    (λ (least : 32 ≤ m). let all : 32 * p ≤ m * p = mul-le 32 p m p least (omega arith) in let parts = is.parts in omega (arith, all, parts)) is.least

twice : (a b : ℕ) → a < b → 2 * 2 ^ a ≤ 2 ^ b
twice a b less = let up : 2 ^ suc a ≤ 2 ^ b = pow_mono less in let is = two-pow-succ a in omega (arith, up, is)

same_doubling : (v h d m : ℕ) → IsHalved v h m (2 ^ h) → 32 * 2 ^ d ≤ v → v < 64 * 2 ^ d → h ≡ d
same_doubling v h d m is least most =
    ⊎_elim
    (λ (less : h < d). let up = twice h d less in let over = upper_end v h m (2 ^ h) is in absurd (omega (arith, up, over, least)))
    (λ (other : d ≤ h).
    ⊎_elim (λ (same : h ≡ d). same)
    (λ (apart : h ≡ d → ⊥).
    let more : d < h = omega (arith, other, apart) in
    let up = twice d h more in
    let under = lower_end v h m (2 ^ h) is (λ none. omega (arith, none, more)) in
    absurd (omega (arith, up, under, most)))
    (cases_eq h d))
    (cases_lt h d)

no_halving : (v h m : ℕ) → IsHalved v h m (2 ^ h) → v < 64 → h ≡ 0
no_halving v h m is few =
    ⊎_elim (λ (none : h ≡ 0). none)
    (λ (some : h ≡ 0 → ⊥).
    let up = twice 0 h (omega (arith, some)) in
    let under = lower_end v h m (2 ^ h) is some in
    absurd (omega (arith, up, under, few)))
    (cases_eq h 0)

of_class : (v h : ℕ) → halvings v ≡ h → class_of v ≡ 32 * h + v / 2 ^ h
unfolding class_of
of_class v h is = ap (λ n. 32 * n + v / 2 ^ n) is

whole : (v : ℕ) → 32 * 0 + v / 2 ^ 0 ≡ v
whole v = let same : v / 2 ^ 0 ≡ v = div-eq_of_lt-le 1 (omega arith) (omega arith) in omega (arith, same)

pub each_doubling : EachDoublingHas32Classes
each_doubling = (
  λ v few. of_class v 0 (no_halving v (halvings v) _ (halved v (omega (arith, few))) few) ∙ whole v,
  λ d v fits least most. of_class v d (same_doubling v (halvings v) d _ (halved v fits) least most),
)
