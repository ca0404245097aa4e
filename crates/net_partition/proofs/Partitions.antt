-- Which lists of entries are partitions, and the greatest of a list.
use Rattle.std.proofs.Common.{◌≡◌, ◌≤◌, ◌<◌, ◌%◌, ℕ, zero, suc, true, ◌&&◌, nat_lt, nat_le, List, [], ◌∷◌, take, length, replicate, All, Contains, get_or, refl, sym, ⊎_elim, map, ap, ap₂, ◌∙◌, arith, lt-ltb, le-leb, length-append, ltb-true, leb-true}
use Rattle.std.specs.List.{list_all, AllByRecursion}
use Rattle.std.proofs.lemmas.Bool.{and_parts, cases_lt}
use Rattle.std.proofs.lemmas.List.{length-replicate, length-take}
use Rattle.std.proofs.lemmas.List.Elements.{All-take, Contains-get_or, recursion_from_All}
use Rattle.std.proofs.lemmas.List.Folds.{list_all-append}
use Rattle.net_partition.specs.Partition.{is_partition, group_in, greatest_number, groups_of, alone}

all_zero : (n : ℕ) → list_all (λ group. nat_lt group 64) (replicate n 0) ≡ true
all_zero zero = refl
all_zero (suc n) = all_zero n

pub length-alone : (n : ℕ) → length (alone n) ≡ n
length-alone zero = refl
length-alone (suc n) = let l = length-append (alone n) (n % 64 ∷ []) in let m = length-alone n in omega (arith, l, m)

all_alone : (n : ℕ) → list_all (λ group. nat_lt group 64) (alone n) ≡ true
all_alone zero = refl
all_alone (suc n) =
    list_all-append (λ group. nat_lt group 64) (alone n) (n % 64 ∷ [])
    ∙ ap₂ (λ a b. a && (b && true)) (all_alone n) (lt-ltb (n % 64) 64 (omega arith))

within : (entries : List ℕ) → 2 ≤ length entries → length entries ≤ 256 → list_all (λ group. nat_lt group 64) entries ≡ true → is_partition entries ≡ true
within entries least most all = λ i. le-leb 2 (length entries) least i && (le-leb (length entries) 256 most i && all i)

pub one_is : (n : ℕ) → 2 ≤ n → n ≤ 256 → is_partition (replicate n 0) ≡ true
one_is n least most = let l = length-replicate {A = ℕ} n 0 in within (replicate n 0) (omega (arith, least, l)) (omega (arith, most, l)) (all_zero n)

pub alone_is : (n : ℕ) → 2 ≤ n → n ≤ 256 → is_partition (alone n) ≡ true
alone_is n least most = let l = length-alone n in within (alone n) (omega (arith, least, l)) (omega (arith, most, l)) (all_alone n)

-- each entry is at most the greatest, and so is what stands past the last
pub upto_greatest : (entries : List ℕ) (node : ℕ) → group_in entries node ≤ greatest_number entries
upto_greatest (x ∷ xs) (suc node) = let rest = upto_greatest xs node in omega (arith, rest)
upto_greatest _ _ = omega arith

greatest_below : (entries : List ℕ) → list_all (λ group. nat_lt group 64) entries ≡ true → greatest_number entries < 64
greatest_below [] all = omega arith
greatest_below (x ∷ xs) all =
    let parts = and_parts _ _ all in
    let here : x < 64 = ltb-true x 64 parts.0 in
    let rest = greatest_below xs parts.1 in
    omega (arith, here, rest)

pub few_groups : (entries : List ℕ) → is_partition entries ≡ true → groups_of entries ≤ 64
few_groups entries is =
    let all : list_all (λ group. nat_lt group 64) entries ≡ true = (and_parts (nat_le (length entries) 256) _ (and_parts (nat_le 2 (length entries)) _ is).1).1 in
    let below : greatest_number entries < 64 = greatest_below entries all in
    omega (arith, below)

all_below : (most : ℕ) → most ≤ 64 → (entries : List ℕ) → AllByRecursion (λ group. group < most) entries → list_all (λ group. nat_lt group 64) entries ≡ true
all_below most few [] all = refl
all_below most few (x ∷ xs) all =
    let here : x < most = all.0 in
    λ i. lt-ltb x 64 (omega (arith, here)) i && all_below most few xs all.1 i

greatest_within : (most : ℕ) → 1 ≤ most → (entries : List ℕ) → AllByRecursion (λ group. group < most) entries → greatest_number entries < most
greatest_within most some [] all = omega (arith, some)
greatest_within most some (x ∷ xs) all =
    let here : x < most = all.0 in
    let rest = greatest_within most some xs all.1 in
    omega (arith, here, rest)

-- the first ones of entries that are all below a number up to 64 are a partition
pub below_is : (most n : ℕ) (entries : List ℕ) → most ≤ 64 → 2 ≤ n → n ≤ 256 → length entries ≡ 256 → All (λ group. group < most) entries → is_partition (take n entries) ≡ true
below_is most n entries few least upto size all =
    let l = length-take n entries in
    within (take n entries) (omega (arith, least, upto, size, l)) (omega (arith, upto, size, l))
    (all_below most few (take n entries) (recursion_from_All (λ (group : ℕ). group < most) (take n entries) (All-take (λ (group : ℕ). group < most) n entries all)))

-- the first ones that are a partition are two at least
pub two_at_least : (n : ℕ) (entries : List ℕ) → is_partition (take n entries) ≡ true → 2 ≤ n
two_at_least n entries is =
    let l = length-take n entries in
    let two : 2 ≤ length (take n entries) = leb-true 2 (length (take n entries)) (and_parts (nat_le 2 (length (take n entries))) _ is).0 in
    omega (arith, l, two)

-- their groups are no more than that
pub few_below : (most n : ℕ) (entries : List ℕ) → 1 ≤ most → All (λ group. group < most) entries → groups_of (take n entries) ≤ most
few_below most n entries some all =
    let below : greatest_number (take n entries) < most = greatest_within most some (take n entries) (recursion_from_All (λ (group : ℕ). group < most) (take n entries) (All-take (λ (group : ℕ). group < most) n entries all)) in
    omega (arith, below)

-- NUMBERS WITHOUT GAPS

-- the groups below one that have a node have numbers below a count, and they rise
pub record AreNumbered (entries numbers : List ℕ) (count upto : ℕ) : Type 0 where
  pub size : length numbers ≡ 64
  pub below : All (λ number. number < 64) numbers
  pub few : count ≤ upto
  pub counted : (g : ℕ) → g < upto → Contains entries g → get_or numbers g 0 < count
  pub rising : (g h : ℕ) → g < h → h < upto → Contains entries g → get_or numbers g 0 < get_or numbers h 0

each_below : (entries : List ℕ) (node : ℕ) → list_all (λ group. nat_lt group 64) entries ≡ true → node < length entries → get_or entries node 0 < 64
each_below [] node all under = absurd (omega (arith, under))
each_below (x ∷ xs) zero all under = ltb-true x 64 (and_parts _ _ all).0
each_below (x ∷ xs) (suc node) all under = each_below xs node (and_parts _ _ all).1 (omega (arith, under))

number_at : (numbers entries : List ℕ) (node : ℕ) → node < length entries → get_or (map (λ group. get_or numbers group 0) entries) node 0 ≡ get_or numbers (get_or entries node 0) 0
number_at numbers [] node under = absurd (omega (arith, under))
number_at numbers (x ∷ xs) zero under = refl
number_at numbers (x ∷ xs) (suc node) under = number_at numbers xs node (omega (arith, under))

-- nodes whose numbers are the same are in one group
pub one_group : (entries numbers numbered : List ℕ) (a b : ℕ) → ((g h : ℕ) → g < h → h < 64 → Contains entries g → get_or numbers g 0 < get_or numbers h 0) → is_partition entries ≡ true
    → numbered ≡ map (λ group. get_or numbers group 0) entries → a < length entries → b < length entries → group_in numbered a ≡ group_in numbered b → group_in entries a ≡ group_in entries b
one_group entries numbers numbered a b rising is named within_a within_b e =
    let all : list_all (λ group. nat_lt group 64) entries ≡ true = (and_parts (nat_le (length entries) 256) _ (and_parts (nat_le 2 (length entries)) _ is).1).1 in
    let x = get_or entries a 0 in
    let y = get_or entries b 0 in
    let same : get_or numbers x 0 ≡ get_or numbers y 0 = sym (number_at numbers entries a within_a) ∙ ap (λ (ns : List ℕ). get_or ns a 0) (sym named) ∙ e ∙ ap (λ (ns : List ℕ). get_or ns b 0) named ∙ number_at numbers entries b within_b in
    ⊎_elim
    (λ (l : x < y). let less = rising x y l (each_below entries b all within_b) (Contains-get_or entries a 0 within_a) in absurd (omega (arith, same, less)))
    (λ (past : y ≤ x). ⊎_elim
    (λ (l : y < x). let less = rising y x l (each_below entries a all within_a) (Contains-get_or entries b 0 within_b) in absurd (omega (arith, same, less)))
    (λ (upto : x ≤ y). omega (arith, past, upto))
    (cases_lt y x))
    (cases_lt x y)
