-- The set of a list's numbers.
use Rattle.std.proofs.Common.{◌≡◌, ℕ, ◌+◌, ◌<◌, ◌≤◌, true, List, [], ◌∷◌, map as each, Some, None, Option, refl, sym, ap, ◌∙◌, inl, inr, arith}
use Rattle.std.specs.Prelude.{◌==◌, ◌||◌, is_some}
use Rattle.std.specs.List.{list_any}
use Rattle.std.specs.List.Sorted.{IsPermutation}
use Rattle.std.specs.Ordering.{nat_cmp}
use Rattle.std.specs.Cmp.{nat_cmp_total}
use Rattle.std.specs.FinSet.{FinSet}
use Rattle.std.specs.FinMap as map
use Rattle.std.proofs.lemmas.Bool.{cases_Bool, eqb-true, lt-ltb}
use Rattle.std.proofs.lemmas.List.{nil_from_length}
use Rattle.std.proofs.lemmas.List.Sorted.{list_any-IsPermutation}
use Rattle.reno_receiver.specs.Kept.{set_of}
use Rattle.reno_receiver.proofs.Laws.{contains_key-empty, contains_key-insert}

same_mark : (x y : Option (Unit {0})) → is_some x ≡ is_some y → x ≡ y
same_mark None None e = refl
same_mark None (Some u) e = absurd (cc)
same_mark (Some u) None e = absurd (cc)
same_mark (Some u) (Some v) e = refl

-- two sets with the same members are equal
pub same_numbers : (s t : FinSet nat_cmp) → ((q : ℕ) → map.contains_key s q ≡ map.contains_key t q) → s ≡ t
same_numbers s t e = map.same_map nat_cmp_total map.nat_cmp-IsAntisymmetric s t (λ q. same_mark (map.get s q) (map.get t q) (e q))

pub contains_key-set_of : (xs : List ℕ) (q : ℕ) → map.contains_key (set_of xs) q ≡ list_any (λ x. q == x) xs
contains_key-set_of [] q = contains_key-empty q
contains_key-set_of (x ∷ xs) q = contains_key-insert (set_of xs) x q ∙ ap (λ b. (q == x) || b) (contains_key-set_of xs q)

-- a number that is in the set already
pub insert_member : (s : FinSet nat_cmp) (k : ℕ) → map.contains_key s k ≡ true → map.insert s k tt ≡ s
insert_member s k is =
    same_numbers _ s (λ q. contains_key-insert s k q ∙ elim (cases_Bool (q == k)) [
      | inl e ↦ ap (λ b. b || map.contains_key s q) e ∙ rw (eqb-true q k e) (sym is)
      | inr e ↦ ap (λ b. b || map.contains_key s q) e
    ])

-- the order of the numbers says nothing
pub set_of-IsPermutation : (xs ys : List ℕ) → IsPermutation xs ys → set_of xs ≡ set_of ys
set_of-IsPermutation xs ys p =
    same_numbers (set_of xs) (set_of ys) (λ q. contains_key-set_of xs q ∙ list_any-IsPermutation (λ x. q == x) xs ys p ∙ sym (contains_key-set_of ys q))

-- the numbers rise, from n on
abbrev pub RisesFrom : ℕ → List ℕ → Type 0
RisesFrom n [] = Unit {0}
RisesFrom n (x ∷ xs) = (n ≤ x) × RisesFrom (x + 1) xs

pub RisesFrom-lower : (m n : ℕ) (xs : List ℕ) → m ≤ n → RisesFrom n xs → RisesFrom m xs
RisesFrom-lower m n [] le rises = tt
RisesFrom-lower m n (x ∷ xs) le rises = (omega arith, rises.1)

abbrev marked : List ℕ → List (ℕ × Unit {0})
marked xs = each (λ x. (x, tt)) xs

put_first : (n x : ℕ) (xs : List ℕ) → x < n → RisesFrom n xs → map.put nat_cmp x tt (marked xs) ≡ marked (x ∷ xs)
put_first n x [] lt rises = refl
put_first n x (y ∷ ys) lt rises = let below : x < y = omega arith in rw (lt-ltb x y below)

entries-set_of : (n : ℕ) (xs : List ℕ) → RisesFrom n xs → map.entries (set_of xs) ≡ marked xs
entries-set_of n [] rises = nil_from_length _ (sym (map.len-entries map.empty) ∙ map.len-empty nat_cmp (Unit {0}))
entries-set_of n (x ∷ xs) rises =
    map.entries-insert nat_cmp_total (set_of xs) x tt ∙ ap (map.put nat_cmp x tt) (entries-set_of (x + 1) xs rises.1) ∙ put_first (x + 1) x xs (omega arith) rises.1

firsts : (xs : List ℕ) → each (λ e. e.0) (marked xs) ≡ xs
firsts [] = refl
firsts (x ∷ xs) = ap (λ l. x ∷ l) (firsts xs)

-- a rising list is the list of its set's members
pub keys-set_of : (n : ℕ) (xs : List ℕ) → RisesFrom n xs → map.keys (set_of xs) ≡ xs
keys-set_of n xs rises = ap (each (λ (e : ℕ × Unit {0}). e.0)) (entries-set_of n xs rises) ∙ firsts xs
