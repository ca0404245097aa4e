-- What a test of neighbours says of a whole list.
use Rattle.std.proofs.Common.{◌≡◌, ℕ, zero, suc, ◌+◌, ◌-◌, ◌<◌, Bool, true, false, ltb, eqb, ◌&&◌, ◌||◌, List, length, get_or, ◌↔◌, IsTrue, arith, refl, subst}
use Rattle.std.proofs.lemmas.Bool.Decides.{nat_tests}
use Rattle.std.specs.List.{IsAllAdjacentAnswer, AllAdjacentBelow, AllPairs}
use Rattle.std.specs.List.Sorted.{IsStrictlyIncreasing}
use Rattle.scenario_image.specs.RouteLimits.{IsRouteBefore}
use Rattle.scenario_image.specs.declared.parts.RoutePart.{RoutePart}

-- where a test answers whether each number is below the next, the numbers rise
pub rising_answer : (xs : List ℕ) (r : Bool) → IsAllAdjacentAnswer (λ x y b. b ≡ ltb x y) xs r → IsTrue r ↔ IsStrictlyIncreasing xs
rising_answer xs true h = ((λ _ k below. let less : true ≡ ltb (get_or xs k 0) (get_or xs (k + 1) 0) = h k 0 below in grind (arith, nat_tests)), λ _. refl)
rising_answer xs false (k, below, differ) = (
  (λ (e : false ≡ true). cc),
  λ rises. let less : get_or xs k 0 < get_or xs (k + 1) 0 = rises k below in
      let test : false ≡ ltb (get_or xs k 0) (get_or xs (k + 1) 0) = differ 0 in grind (arith, nat_tests),
)

-- what holds of neighbours and passes on holds of all pairs
module _ {X : Type 0} (R : X → X → Type 0) (passes_on : (a b c : X) → R a b → R b c → R a c) where
  far : (xs : List X) → AllAdjacentBelow R xs (length xs) → (m i : ℕ) (d : X) → i + suc m < length xs → R (get_or xs i d) (get_or xs (i + suc m) d)
  far xs next zero i d below = next i d below
  far xs next (suc m) i d below =
      let after : (i + suc m) + 1 ≡ i + suc (suc m) = omega arith in
      passes_on _ _ _ (far xs next m i d (omega arith)) (subst (λ k. R (get_or xs (i + suc m) d) (get_or xs k d)) after (next (i + suc m) d (omega arith)))

  pub pairs_from_neighbours : (xs : List X) → AllAdjacentBelow R xs (length xs) → AllPairs R xs
  pairs_from_neighbours xs next i j d apart below =
      let there : i + suc (j - (i + 1)) ≡ j = omega arith in
      subst (λ k. R (get_or xs i d) (get_or xs k d)) there (far xs next (j - (i + 1)) i d (omega arith))

-- the test of a route against another
abbrev pub route_before : RoutePart → RoutePart → Bool
route_before a b = ltb a.router b.router || (eqb a.router b.router && ltb a.destination b.destination)

pub route_before-true : (a b : RoutePart) → true ≡ route_before a b → IsRouteBefore a b
route_before-true a b test = grind (arith, nat_tests)

pub route_before-false : (a b : RoutePart) → false ≡ route_before a b → IsRouteBefore a b → false ≡ true
route_before-false a b test before = grind (arith, nat_tests)

pub route_before-passes_on : (a b c : RoutePart) → IsRouteBefore a b → IsRouteBefore b c → IsRouteBefore a c
route_before-passes_on a b c first second = grind arith

-- where a test answers whether each route comes before the next, each comes before all later ones
pub routes_answer : (routes : List RoutePart) (r : Bool) → IsAllAdjacentAnswer (λ a b answer. answer ≡ route_before a b) routes r → IsTrue r ↔ AllPairs IsRouteBefore routes
routes_answer routes true h =
    ((λ _. pairs_from_neighbours IsRouteBefore route_before-passes_on routes (λ k d below. route_before-true (get_or routes k d) (get_or routes (k + 1) d) (h k d below))), λ _. refl)
routes_answer routes false (k, below, differ) = (
  (λ (e : false ≡ true). cc),
  λ pairs. let some_route : RoutePart = record { router = 0; destination = 0; link = 0 } in
      route_before-false (get_or routes k some_route) (get_or routes (k + 1) some_route) (differ some_route) (pairs k (k + 1) some_route (omega arith) below),
)

-- a test that answers whether a route comes before another is that test
pub route_before_answer : (a b : RoutePart) (r : Bool) → IsTrue r ↔ IsRouteBefore a b → r ≡ route_before a b
route_before_answer a b true says = grind (arith, nat_tests, says.0)
route_before_answer a b false says = grind (arith, nat_tests, says.1)
