-- Elements that pass a test, numbered from a base.
use Rattle.std.proofs.Common.{◌≡◌, ℕ, zero, suc, ◌+◌, ◌<◌, ◌≤◌, Bool, true, false, cond, List, [], ◌∷◌, ◌++◌, length, filter, find, map, get_or, drop, Option, Some, None, All, IsSome, option_to_list, not, rules, ⊎_elim, refl, sym, ap, subst, ◌∙◌, arith}
use Rattle.std.specs.List.{enumerate_from, count_by, AllByRecursion, slice_get, position, position_or_len}
use Rattle.std.specs.Prelude.{nat_lt}
use Rattle.std.specs.List.Sorted.{IsStrictlyIncreasing}
use Rattle.std.specs.Option.{option_map}
use Rattle.std.proofs.lemmas.List.{drop_more, append_assoc, append-nil, drop_all, length-map}
use Rattle.std.proofs.lemmas.List.Sums.{sum_by-cons}
use Rattle.std.proofs.lemmas.Bool.{cases_lt, lt-ltb, le-ltb}

module _ {X : Type 0} (p : X → Bool) where
  -- those that pass, numbered
  abbrev pub passing : ℕ → List X → List (ℕ × X)
  passing base xs = filter (λ (x : ℕ × X). p x.1) (enumerate_from base xs)

  module _ {Y : Type 0} (f : ℕ × X → Y) where
    -- what is made of those that pass
    abbrev pub picked : ℕ → List X → List Y
    picked base xs = map f (passing base xs)

    pub pick_yes : (base i : ℕ) (xs : List X) (x : X) (so_far : List Y) (y : Y) → i < length xs → x ≡ get_or xs i x → p x ≡ true → y ≡ f (base, x)
        → (so_far ++ y ∷ []) ++ picked (base + 1) (drop (i + 1) xs) ≡ so_far ++ picked base (drop i xs)
    pick_yes base i xs x so_far y within at passes made =
        append_assoc so_far (y ∷ []) (picked (base + 1) (drop (i + 1) xs))
        ∙ ap (λ z. so_far ++ (z ∷ picked (base + 1) (drop (i + 1) xs))) made
        ∙ ap (λ b. so_far ++ map f (cond b ((base, x) ∷ passing (base + 1) (drop (i + 1) xs)) (passing (base + 1) (drop (i + 1) xs)))) (sym passes)
        ∙ ap (λ z. so_far ++ picked base (z ∷ drop (i + 1) xs)) at
        ∙ ap (λ zs. so_far ++ picked base zs) (sym (drop_more xs i x within))

    pub pick_no : (base i : ℕ) (xs : List X) (x : X) (so_far : List Y) → i < length xs → x ≡ get_or xs i x → p x ≡ false
        → so_far ++ picked (base + 1) (drop (i + 1) xs) ≡ so_far ++ picked base (drop i xs)
    pick_no base i xs x so_far within at fails =
        ap (λ b. so_far ++ map f (cond b ((base, x) ∷ passing (base + 1) (drop (i + 1) xs)) (passing (base + 1) (drop (i + 1) xs)))) (sym fails)
        ∙ ap (λ z. so_far ++ picked base (z ∷ drop (i + 1) xs)) at
        ∙ ap (λ zs. so_far ++ picked base zs) (sym (drop_more xs i x within))

    pub picked_all : (base i : ℕ) (xs : List X) (so_far : List Y) → length xs ≤ i → so_far ++ picked base (drop i xs) ≡ so_far
    picked_all base i xs so_far past = ap (λ zs. so_far ++ picked base zs) (drop_all i xs past) ∙ append-nil so_far

  -- a numbered element, if there is one
  abbrev answer : Bool → ℕ → X → Option (ℕ × X)
  answer b number y = cond b (Some (number, y)) None

  -- the first that passes, with its number
  find_at : (base : ℕ) (xs : List X) (d : X)
      → find (λ (x : ℕ × X). p x.1) (enumerate_from base xs) ≡ cond (nat_lt (position_or_len p xs) (length xs)) (Some (base + position_or_len p xs, get_or xs (position_or_len p xs) d)) None
  find_at base [] d = refl
  find_at base (x ∷ xs) d =
      elim (p x) as (λ b. p x ≡ b → find (λ (x : ℕ × X). p x.1) (enumerate_from base (x ∷ xs)) ≡ cond (nat_lt (position_or_len p (x ∷ xs)) (length (x ∷ xs))) (Some (base + position_or_len p (x ∷ xs), get_or (x ∷ xs) (position_or_len p (x ∷ xs)) d)) None) [
        | true ↦ λ yes'. (let place : position_or_len p (x ∷ xs) ≡ 0 = rw yes' refl in
            ap (λ b. cond b (Some (base, x)) (find (λ (x : ℕ × X). p x.1) (enumerate_from (base + 1) xs))) yes' ∙ here (position_or_len p (x ∷ xs)) place)
        | false ↦ λ no'. (let place : position_or_len p (x ∷ xs) ≡ suc (position_or_len p xs) = rw no' (omega arith) in
            ap (λ b. cond b (Some (base, x)) (find (λ (x : ℕ × X). p x.1) (enumerate_from (base + 1) xs))) no' ∙ find_at (base + 1) xs d ∙ moved (position_or_len p xs) (position_or_len p (x ∷ xs)) place)
      ] refl
    where
      test : (k n : ℕ) → nat_lt k n ≡ nat_lt (suc k) (suc n)
      test k n =
          ⊎_elim
          (λ (below : k < n). lt-ltb k n below ∙ sym (lt-ltb (suc k) (suc n) (omega (arith, below))))
          (λ (past : n ≤ k). le-ltb k n past ∙ sym (le-ltb (suc k) (suc n) (omega (arith, past))))
          (cases_lt k n)

      here : (l : ℕ) → l ≡ 0 → answer true base x ≡ answer (nat_lt l (suc (length xs))) (base + l) (get_or (x ∷ xs) l d)
      here l same =
          let number : base ≡ base + 0 = omega arith in
          ap (λ b. answer b base x) (sym (lt-ltb 0 (suc (length xs)) (omega arith))) ∙ ap (λ n. answer (nat_lt 0 (suc (length xs))) n x) number
          ∙ ap (λ n. answer (nat_lt n (suc (length xs))) (base + n) (get_or (x ∷ xs) n d)) (sym same)

      moved : (k l : ℕ) → l ≡ suc k → answer (nat_lt k (length xs)) (base + 1 + k) (get_or xs k d) ≡ answer (nat_lt l (suc (length xs))) (base + l) (get_or (x ∷ xs) l d)
      moved k l same =
          let number : base + 1 + k ≡ base + suc k = omega arith in
          ap (λ b. answer b (base + 1 + k) (get_or xs k d)) (test k (length xs)) ∙ ap (λ n. answer (nat_lt (suc k) (suc (length xs))) n (get_or xs k d)) number
          ∙ ap (λ n. answer (nat_lt n (suc (length xs))) (base + n) (get_or (x ∷ xs) n d)) (sym same)

  pub found_at : (xs : List X) (place : Option ℕ) (d : X) → place ≡ position p xs → find (λ (x : ℕ × X). p x.1) (enumerate_from 0 xs) ≡ option_map (λ k. (k, get_or xs k d)) place
  found_at xs place d is = find_at 0 xs d ∙ whole (nat_lt (position_or_len p xs) (length xs)) (0 + position_or_len p xs) (position_or_len p xs) (omega arith) ∙ ap (option_map (λ k. (k, get_or xs k d))) (sym is)
    where
      whole : (b : Bool) (k l : ℕ) → k ≡ l → cond {A = Option (ℕ × X)} b (Some (k, get_or xs l d)) None ≡ option_map (λ k. (k, get_or xs k d)) (cond b (Some l) None)
      whole true k l same = ap {B = Option (ℕ × X)} (λ n. Some (n, get_or xs l d)) same
      whole false k l same = refl

  -- as many pass as are counted
  pub passing_count : (base : ℕ) (xs : List X) → length (passing base xs) ≡ count_by p xs
  passing_count base [] = refl
  passing_count base (x ∷ xs) =
      elim (p x) as (λ b. p x ≡ b → length (cond b ((base, x) ∷ passing (base + 1) xs) (passing (base + 1) xs)) ≡ count_by p (x ∷ xs)) [
        | true ↦ λ yes'. (let a = passing_count (base + 1) xs in let b = sum_by-cons one x xs in let c = ap tested yes' in omega (arith, a, b, c))
        | false ↦ λ no'. (let a = passing_count (base + 1) xs in let b = sum_by-cons one x xs in let c = ap tested no' in omega (arith, a, b, c))
      ] refl
    where
      tested : Bool → ℕ
      tested b = cond b 1 0

      one : X → ℕ
      one y = cond (p y) 1 0

  -- where none passes
  pub none_passes : (base : ℕ) (xs : List X) → All (λ x. p x ≡ false) xs → passing base xs ≡ []
  none_passes base [] none = refl
  none_passes base (x ∷ xs) none =
      ap (λ b. cond b ((base, x) ∷ passing (base + 1) xs) (passing (base + 1) xs)) (none 0 x (omega arith))
      ∙ none_passes (base + 1) xs (λ k d under. none (suc k) d (omega (arith, under)))

  -- what holds of each holds of the first that passes, and it passes
  pub found_holds : (P : X → Type 0) (base : ℕ) (xs : List X) (number : ℕ) (y : X) → find (λ (x : ℕ × X). p x.1) (enumerate_from base xs) ≡ Some (number, y) → All P xs → P y × (p y ≡ true)
  found_holds P base [] number y found all = cc
  found_holds P base (x ∷ xs) number y found all =
      elim (p x) as (λ b. p x ≡ b → answer b base x ≡ answer b base x → cond b (Some (base, x)) (find (λ (x : ℕ × X). p x.1) (enumerate_from (base + 1) xs)) ≡ Some (number, y) → P y × (p y ≡ true)) [
        | true ↦ λ yes' _ same. (let pair : ◌≡◌ {A = ℕ × X} (base, x) (number, y) = cc in let here : x ≡ y = ap (λ (z : ℕ × X). z.1) pair in (subst P here (all 0 x (omega arith)), subst (λ z. p z ≡ true) here yes'))
        | false ↦ λ no' _ rest. found_holds P (base + 1) xs number y rest (λ k d under. all (suc k) d (omega (arith, under)))
      ] refl refl found

-- the numbers of those that pass are in their range
pub all_at : (P : ℕ → Type 0) (ns : List ℕ) → AllByRecursion P ns → (j : ℕ) → j < length ns → P (get_or ns j 0)
all_at P [] all j under = absurd (omega (arith, under))
all_at P (n ∷ ns) all zero under = all.0
all_at P (n ∷ ns) all (suc j) under = all_at P ns all.1 j (omega (arith, under))

module _ {X : Type 0} (p : X → Bool) where
  abbrev pub numbers : ℕ → List X → List ℕ
  numbers base xs = map (λ (x : ℕ × X). x.0) (passing p base xs)

  lower : (base bound : ℕ) (ns : List ℕ) → AllByRecursion (λ n. (base + 1 ≤ n) × (n < bound)) ns → AllByRecursion (λ n. (base ≤ n) × (n < bound)) ns
  lower base bound [] all = tt
  lower base bound (n ∷ ns) all = (((let a = all.0.0 in omega (arith, a)), all.0.1), lower base bound ns all.1)

  pub numbers_within : (base bound : ℕ) (xs : List X) → base + length xs ≤ bound → AllByRecursion (λ n. (base ≤ n) × (n < bound)) (numbers base xs)
  numbers_within base bound [] most = tt
  numbers_within base bound (x ∷ xs) most =
      let rest = lower base bound (numbers (base + 1) xs) (numbers_within (base + 1) bound xs (omega (arith, most))) in
      elim (p x) as (λ b. AllByRecursion (λ n. (base ≤ n) × (n < bound)) (map (λ (x : ℕ × X). x.0) (cond b ((base, x) ∷ passing p (base + 1) xs) (passing p (base + 1) xs)))) [
        | true ↦ ((omega arith, omega (arith, most)), rest)
        | false ↦ rest
      ]

  first_rises : (base bound : ℕ) (ns : List ℕ) → AllByRecursion (λ n. (base + 1 ≤ n) × (n < bound)) ns → IsStrictlyIncreasing ns → IsStrictlyIncreasing (base ∷ ns)
  first_rises base bound ns above rising zero under = let more : base + 1 ≤ get_or ns 0 0 = (all_at (λ n. (base + 1 ≤ n) × (n < bound)) ns above 0 (omega (arith, under))).0 in omega (arith, more)
  first_rises base bound ns above rising (suc k) under = subst (λ n. get_or ns k 0 < get_or (base ∷ ns) n 0) {x = suc (k + 1)} {y = suc k + 1} (omega arith) (rising k (omega (arith, under)))

  -- they rise
  pub numbers_rising : (base : ℕ) (xs : List X) → IsStrictlyIncreasing (numbers base xs)
  numbers_rising base [] = λ k under. absurd (omega (arith, under))
  numbers_rising base (x ∷ xs) =
      elim (p x) as (λ b. IsStrictlyIncreasing (map (λ (x : ℕ × X). x.0) (cond b ((base, x) ∷ passing p (base + 1) xs) (passing p (base + 1) xs)))) [
        | true ↦ first_rises base (base + 1 + length xs) (numbers (base + 1) xs) (numbers_within (base + 1) (base + 1 + length xs) xs (omega arith)) (numbers_rising (base + 1) xs)
        | false ↦ numbers_rising (base + 1) xs
      ]

-- the first that passes is the first of those that pass
pub find_is_first : {X : Type 0} (q : X → Bool) (xs : List X) → find q xs ≡ slice_get (filter q xs) 0
find_is_first q [] = refl
find_is_first q (x ∷ xs) =
    elim (q x) as (λ b. cond b (Some x) (find q xs) ≡ slice_get (cond b (x ∷ filter q xs) (filter q xs)) 0) [
      | true ↦ refl
      | false ↦ find_is_first q xs
    ]

single : {X : Type 0} (ys : List X) → length ys ≤ 1 → ys ≡ option_to_list (slice_get ys 0)
single [] few = refl
single (y ∷ []) few = refl
single (y ∷ z ∷ ys) few = absurd (omega (arith, few))

some_first : {X : Type 0} (ys : List X) → 1 ≤ length ys → IsSome (slice_get ys 0)
some_first [] some = absurd (omega (arith, some))
some_first (y ∷ ys) some = search rules

-- where one at most passes, it is all that pass
pub only_found : {X : Type 0} (q : X → Bool) (xs : List X) → length (filter q xs) ≤ 1 → filter q xs ≡ option_to_list (find q xs)
only_found q xs few = single (filter q xs) few ∙ ap option_to_list (sym (find_is_first q xs))

-- where one passes at least, it is found
pub found_some : {X : Type 0} (q : X → Bool) (xs : List X) → 1 ≤ length (filter q xs) → IsSome (find q xs)
found_some q xs some = subst IsSome (sym (find_is_first q xs)) (some_first (filter q xs) some)

-- tests that agree count the same
pub same_count : {X : Type 0} (p q : X → Bool) (xs : List X) → All (λ x. p x ≡ q x) xs → count_by p xs ≡ count_by q xs
same_count p q [] same = refl
same_count p q (x ∷ xs) same =
    let rest = same_count p q xs (λ k d under. same (suc k) d (omega (arith, under))) in
    sum_by-cons (λ y. cond (p y) 1 0) x xs ∙ ap (λ b. cond b 1 0 + count_by p xs) (same 0 x (omega arith)) ∙ ap (λ n. cond (q x) 1 0 + n) rest ∙ sym (sum_by-cons (λ y. cond (q y) 1 0) x xs)

pub places_map : {X Y : Type 0} (f : X → Y) (q : Y → Bool) (xs : List X) → position_or_len q (map f xs) ≡ position_or_len (λ x. q (f x)) xs
places_map f q [] = refl
places_map f q (x ∷ xs) = ap (λ n. cond (not (q (f x))) (1 + n) 0) (places_map f q xs)

-- a place among values is that among what they are made of
pub position-map : {X Y : Type 0} (f : X → Y) (q : Y → Bool) (xs : List X) → position q (map f xs) ≡ position (λ x. q (f x)) xs
position-map f q xs =
    ap (λ n. cond (nat_lt n (length (map f xs))) (Some n) None) (places_map f q xs)
    ∙ ap (λ n. cond (nat_lt (position_or_len (λ x. q (f x)) xs) n) (Some (position_or_len (λ x. q (f x)) xs)) None) (length-map xs f)

-- where a first one passes, this is its place
pub position_some : {X : Type 0} (p : X → Bool) (xs : List X) → position_or_len p xs < length xs → position p xs ≡ Some (position_or_len p xs)
position_some p xs within = ap (λ b. cond b (Some (position_or_len p xs)) None) (lt-ltb (position_or_len p xs) (length xs) within)
