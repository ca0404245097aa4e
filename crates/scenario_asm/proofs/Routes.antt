-- Routes in a map: whether there is one, and one more at its place.
use Rattle.std.proofs.Common.{◌≡◌, ℕ, ◌==◌, ◌&&◌, ◌||◌, Bool, true, false, cond, nat_lt, is_some, if◌then◌else◌, List, [], ◌∷◌, map, Option, Some, inl, inr, refl, ap, sym, ◌∙◌, arith}
use Rattle.std.proofs.lemmas.Bool.{cases_Bool, eq-eqb, eqb-false, eqb-true, ltb-true, ne_eqb}
use Rattle.std.specs.declared.cmp.Ordering.TheVariants.{Less, Equal, Greater}
use Rattle.std.specs.Ordering.{is_eq, nat_cmp, ordering_then, match_ordering}
use Rattle.std.specs.Map.{lookup}
use Rattle.std.specs.BTreeMap.{insert_entry, is_at}
use Rattle.scenario_image.specs.declared.parts.RoutePart.{RoutePart}
use Rattle.scenario_asm.specs.Names.{is_routed}
use Rattle.scenario_asm.specs.Routes.{as_route, placed}

same_sym : (a x : ℕ) → (a == x) ≡ (x == a)
same_sym a x =
    elim (cases_Bool (a == x)) [
      | inl is ↦ is ∙ sym (eq-eqb x a (sym (eqb-true a x is)))
      | inr isn't ↦ isn't ∙ sym (ne_eqb x a (λ e. eqb-false a x isn't (sym e)))
    ]

below_not : (a x : ℕ) → nat_lt a x ≡ true → (a == x) ≡ false
below_not a x below = let less = ltb-true a x below in ne_eqb a x (λ e. omega (arith, e, less))

-- two ends are those of an entry where both are
both_same : (p q r s : Bool) → (p ≡ true → q ≡ false) → (r ≡ true → s ≡ false) → is_eq (ordering_then (cond p Less (cond q Equal Greater)) (cond r Less (cond s Equal Greater))) ≡ (q && s)
both_same true true r s first second = absurd (let never : true ≡ false = first refl in cc)
both_same true false r s first second = refl
both_same false true true true first second = absurd (let never : true ≡ false = second refl in cc)
both_same false true true false first second = refl
both_same false true false true first second = refl
both_same false true false false first second = refl
both_same false false r s first second = refl

some_cond : {X : Type 0} (test : Bool) (x : X) (other : Option X) → is_some (cond test (Some x) other) ≡ (test || is_some other)
some_cond true x other = refl
some_cond false x other = refl

pub routed_entries : (a b : ℕ) (es : List ((ℕ × ℕ) × ℕ)) → is_some (lookup (is_at (λ k. ordering_then (nat_cmp a k.0) (nat_cmp b k.1))) es) ≡ is_routed (map as_route es) a b
routed_entries a b [] = refl
routed_entries a b (e ∷ es) =
    let here : is_eq (ordering_then (nat_cmp a e.0.0) (nat_cmp b e.0.1)) ≡ ((a == e.0.0) && (b == e.0.1)) = both_same (nat_lt a e.0.0) (a == e.0.0) (nat_lt b e.0.1) (b == e.0.1) (below_not a e.0.0) (below_not b e.0.1) in
    let back : ((a == e.0.0) && (b == e.0.1)) ≡ ((e.0.0 == a) && (e.0.1 == b)) = ap (λ t. t && (b == e.0.1)) (same_sym a e.0.0) ∙ ap (λ t. (e.0.0 == a) && t) (same_sym b e.0.1) in
    some_cond _ e.1 (lookup (is_at (λ k. ordering_then (nat_cmp a k.0) (nat_cmp b k.1))) es)
    ∙ (ap (λ t. t || is_some (lookup (is_at (λ k. ordering_then (nat_cmp a k.0) (nat_cmp b k.1))) es)) (here ∙ back)
    ∙ ap (λ t. ((e.0.0 == a) && (e.0.1 == b)) || t) (routed_entries a b es))

-- which of three lists a comparison takes, where it is not equal
taken : (p q r s : Bool) (A B C : List ((ℕ × ℕ) × ℕ)) (A' C' : List RoutePart) → ((q && s) ≡ true → ⊥) → map as_route A ≡ A' → map as_route C ≡ C' → map as_route (match_ordering (ordering_then (cond p Less (cond q Equal Greater)) (cond r Less (cond s Equal Greater))) A B C) ≡ (if p || (q && r) then A' else C')
taken true q r s A B C A' C' apart a c = a
taken false true true s A B C A' C' apart a c = a
taken false true false true A B C A' C' apart a c = absurd (apart refl)
taken false true false false A B C A' C' apart a c = c
taken false false r s A B C A' C' apart a c = c

or_false : (t u : Bool) → (t || u) ≡ false → (t ≡ false) × (u ≡ false)
or_false true u neither = cc
or_false false u neither = (refl, neither)

true_not : (t u : Bool) → t ≡ u → u ≡ false → t ≡ true → ⊥
true_not t u same is_not is = cc

pub placed_entries : (route : RoutePart) (es : List ((ℕ × ℕ) × ℕ)) → is_routed (map as_route es) route.router route.destination ≡ false → map as_route (insert_entry (λ x y. ordering_then (nat_cmp x.0 y.0) (nat_cmp x.1 y.1)) es (route.router, route.destination) route.link) ≡ placed (map as_route es) route
placed_entries route [] none = refl
placed_entries route (e ∷ es) none =
    let parts = or_false ((e.0.0 == route.router) && (e.0.1 == route.destination)) (is_routed (map as_route es) route.router route.destination) none in
    let back : ((route.router == e.0.0) && (route.destination == e.0.1)) ≡ ((e.0.0 == route.router) && (e.0.1 == route.destination)) = ap (λ t. t && (route.destination == e.0.1)) (same_sym route.router e.0.0) ∙ ap (λ t. (e.0.0 == route.router) && t) (same_sym route.destination e.0.1) in
    taken (nat_lt route.router e.0.0) (route.router == e.0.0) (nat_lt route.destination e.0.1) (route.destination == e.0.1) _ _ _ (route ∷ as_route e ∷ map as_route es) (as_route e ∷ placed (map as_route es) route)
    (true_not _ _ back parts.0) refl (ap (λ l. as_route e ∷ l) (placed_entries route es parts.1))
