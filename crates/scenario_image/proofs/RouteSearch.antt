-- What a search among rising routes finds.
use Rattle.std.proofs.Common.{◌≡◌, ◌≢◌, ℕ, zero, suc, ◌+◌, ◌<◌, ◌≤◌, Bool, true, false, List, [], ◌∷◌, length, get_or, Some, None, Err, arith, refl, ap, sym, ◌∙◌, ⊎_elim, subst}
use Rattle.std.proofs.lemmas.Bool.Decides.{nat_tests}
use Rattle.std.proofs.lemmas.Bool.{cases_lt}
use Rattle.std.proofs.lemmas.Cmp.{nat_cmp_total}
use Rattle.std.proofs.lemmas.List.Sorted.{searchable_from_sorted}
use Rattle.std.specs.List.{find}
use Rattle.std.specs.Option.{option_map}
use Rattle.std.specs.Ordering.{nat_cmp, is_lt}
use Rattle.std.specs.List.Sorted.{IsBinarySearchResult, IsPartitionPoint, IsSortedBy}
use Rattle.std.specs.declared.cmp.Ordering.TheVariants.{Less, Equal, Greater}
use Rattle.scenario_image.specs.Limits.{IsInLimits}
use Rattle.scenario_image.specs.RouteLimits.{IsRouteBefore, IsRouteInLimits, route_key}
use Rattle.scenario_image.specs.Paths.{is_route_for, route_link}
use Rattle.scenario_image.specs.declared.parts.RoutePart.{RoutePart}
use Rattle.scenario_image.specs.declared.parts.ScenarioParts.{ScenarioParts}

-- the first element that passes a test, where it stands
find_first : {X : Type 0} (p : X → Bool) (xs : List X) (i : ℕ) (d : X) → i < length xs → p (get_or xs i d) ≡ true → ((k : ℕ) → k < i → p (get_or xs k d) ≡ false) → find p xs ≡ Some (get_or xs i d)
find_first p [] i d below here before = absurd (omega arith)
find_first p (x ∷ xs) zero d below here before = rw here refl
find_first p (x ∷ xs) (suc i) d below here before =
    let first : p x ≡ false = before 0 (omega arith) in
    rw first (find_first p xs i d (omega arith) here (λ k lower. before (suc k) (omega arith)))

-- nothing passes
find_nothing : {X : Type 0} (p : X → Bool) (xs : List X) → ((k : ℕ) (d : X) → k < length xs → p (get_or xs k d) ≡ false) → find p xs ≡ None
find_nothing p [] none = refl
find_nothing p (x ∷ xs) none = let first : p x ≡ false = none 0 x (omega arith) in rw first (find_nothing p xs (λ k d below. none (suc k) d (omega arith)))

-- the key of a route
abbrev pub key_of : RoutePart → ℕ
key_of route = route_key route.router route.destination

key_rises : (a b : RoutePart) → a.destination < 65536 → IsRouteBefore a b → key_of a < key_of b
key_rises a b low before = grind arith

-- routes have one key where they have one router and one destination
same_key : (r d s e : ℕ) → d < 65536 → e < 65536 → route_key r d ≡ route_key s e → (r ≡ s) × (d ≡ e)
same_key r d s e low_d low_e same = (omega arith, omega arith)

is_for : (route : RoutePart) (router destination : ℕ) → route.destination < 65536 → destination < 65536 → key_of route ≡ route_key router destination → is_route_for router destination route ≡ true
is_for route router destination low below same = let both = same_key route.router route.destination router destination low below same in grind (arith, nat_tests)

is_not_for : (route : RoutePart) (router destination : ℕ) → key_of route ≢ route_key router destination → is_route_for router destination route ≡ false
is_not_for route router destination differs = grind (arith, nat_tests)

-- what a comparison says of two keys
equal_keys : (a b : ℕ) → nat_cmp a b ≡ Equal → a ≡ b
equal_keys a b same = grind (arith, nat_tests)

lesser_key : (a b : ℕ) → nat_cmp a b ≡ Less → a < b
lesser_key a b less = grind (arith, nat_tests)

greater_key : (a b : ℕ) → nat_cmp a b ≡ Greater → b < a
greater_key a b more = grind (arith, nat_tests)

not_below : (a b : ℕ) → a < b → is_lt (nat_cmp b a) ≡ false
not_below a b less = grind (arith, nat_tests)

-- routes in limits are of routers and for destinations below 256
low : (parts : ScenarioParts) → IsInLimits parts → (k : ℕ) (d : RoutePart) → k < length parts.routes → (get_or parts.routes k d).destination < 65536
low parts limits k d below = let route : IsRouteInLimits (length parts.nodes) (length parts.links) (get_or parts.routes k d) = limits.each_route k d below in
    omega (arith, route.destination_node, limits.counts.node_count)

rises : (parts : ScenarioParts) → IsInLimits parts → (i j : ℕ) (d : RoutePart) → i < j → j < length parts.routes → key_of (get_or parts.routes i d) < key_of (get_or parts.routes j d)
rises parts limits i j d before below = key_rises (get_or parts.routes i d) (get_or parts.routes j d) (low parts limits i d (omega arith)) (limits.routes_rise i j d before below)

found_at : (parts : ScenarioParts) (router destination place : ℕ) (d : RoutePart) → IsInLimits parts → destination < 65536 → place < length parts.routes
    → nat_cmp (key_of (get_or parts.routes place d)) (route_key router destination) ≡ Equal → Some (get_or parts.routes place d).link ≡ route_link parts.routes router destination
found_at parts router destination place d limits below within equal =
    let found : key_of (get_or parts.routes place d) ≡ route_key router destination = equal_keys _ _ equal in
    sym (ap (option_map (λ route. route.link))
    (find_first (is_route_for router destination) parts.routes place d within (is_for (get_or parts.routes place d) router destination (low parts limits place d within) below found)
    (λ k before. is_not_for (get_or parts.routes k d) router destination (λ same. let less = rises parts limits k place d before within in omega (arith, less, same, found)))))

missed_at : (parts : ScenarioParts) (router destination place : ℕ) → IsInLimits parts
    → IsBinarySearchResult (λ route. nat_cmp (key_of route) (route_key router destination)) parts.routes (Err place) → None ≡ route_link parts.routes router destination
missed_at parts router destination place limits missed =
    let key : ℕ = route_key router destination in
    let sorted : IsSortedBy (λ a b. is_lt (nat_cmp (key_of a) (key_of b))) parts.routes = λ k d _ below. not_below (key_of (get_or parts.routes k d)) (key_of (get_or parts.routes (k + 1) d)) (rises parts limits k (k + 1) d (omega arith) below) in
    let parted : IsPartitionPoint (λ route. nat_cmp (key_of route) key ≡ Less) (λ route. nat_cmp (key_of route) key ≡ Greater) parts.routes place = missed (searchable_from_sorted nat_cmp_total key_of parts.routes key sorted) in
    sym (ap (option_map (λ route. route.link))
    (find_nothing (is_route_for router destination) parts.routes (λ k d below. is_not_for (get_or parts.routes k d) router destination (λ same.
    ⊎_elim (λ (before : k < place). let less = lesser_key (key_of (get_or parts.routes k d)) key (parted.0 k d (omega arith) before) in omega (arith, less, same))
    (λ (after : place ≤ k). let more = greater_key (key_of (get_or parts.routes k d)) key (parted.1 k d after below) in omega (arith, more, same)) (cases_lt k place)))))

-- the search among a list that is the routes, for a key that is the one of a router and a destination
module _ (parts : ScenarioParts) (routes : List RoutePart) (key router destination place : ℕ) (limits : IsInLimits parts) (all : routes ≡ parts.routes) (is_key : key ≡ route_key router destination) where
  pub search_found : (d : RoutePart) → destination < 65536 → place < length routes → ((d : RoutePart) → nat_cmp (key_of (get_or routes place d)) key ≡ Equal)
      → Some (get_or routes place d).link ≡ route_link parts.routes router destination
  search_found d below within equal =
      ap (λ (rs : List RoutePart). Some (get_or rs place d).link) all
      ∙ found_at parts router destination place d limits below (subst (λ (rs : List RoutePart). place < length rs) all within)
      (subst (λ (k : ℕ). nat_cmp (key_of (get_or parts.routes place d)) k ≡ Equal) is_key (subst (λ (rs : List RoutePart). nat_cmp (key_of (get_or rs place d)) key ≡ Equal) all (equal d)))

  pub search_missed : IsBinarySearchResult (λ route. nat_cmp (key_of route) key) routes (Err place) → None ≡ route_link parts.routes router destination
  search_missed missed =
      missed_at parts router destination place limits
      (subst (λ (k : ℕ). IsBinarySearchResult (λ route. nat_cmp (key_of route) k) parts.routes (Err place)) is_key
      (subst (λ (rs : List RoutePart). IsBinarySearchResult (λ route. nat_cmp (key_of route) key) rs (Err place)) all missed))
