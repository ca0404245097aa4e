-- A walk along a path.
use Rattle.std.proofs.lemmas.Option.{same_Some}
use Rattle.std.proofs.Common.{◌≡◌, ◌⊎◌, inl, inr, length-append, add-one, ℕ, zero, suc, ◌+◌, List, [], ◌∷◌, ◌++◌, length, Some, arith, refl, ap, sym, ◌∙◌, subst}
use Rattle.std.specs.List.{slice_get}
use Rattle.std.specs.Option.{option_and_then}
use Rattle.scenario_image.specs.Kinds.{link_target}
use Rattle.scenario_image.specs.Paths.{hop_link, next_node, node_after_hops}
use Rattle.scenario_image.specs.declared.parts.ScenarioParts.{ScenarioParts}
use Rattle.scenario_image.specs.declared.paths.Path.{Path}
use Rattle.explanations.specs.Counterexample.{ArePassed}

-- where the walk is after so many hops, and what it passed before
pub record Walk (parts : ScenarioParts) (path : Path) (hops from : ℕ) (passed : List ℕ) : Type 0 where
  pub at_from : node_after_hops parts path hops ≡ Some from
  pub count : length passed ≡ hops
  pub nodes : ArePassed parts path passed

-- a node at the end of a list
last_or_before : {X : Type 0} (xs : List X) (x y : X) (k : ℕ) → slice_get (xs ++ x ∷ []) k ≡ Some y → (slice_get xs k ≡ Some y) ⊎ ((k ≡ length xs) × (x ≡ y))
last_or_before [] x y zero found = inr (refl, same_Some x y found)
last_or_before [] x y (suc k) found = inl found
last_or_before (z ∷ xs) x y zero found = inl found
last_or_before (z ∷ xs) x y (suc k) found =
    elim (last_or_before xs x y k found) [
      | inl before ↦ inl before
      | inr last ↦ inr (let is = last.0 in omega arith, last.1)
    ]

-- with the node where it is
pub passed_more : (parts : ScenarioParts) (path : Path) (hops from : ℕ) (passed new : List ℕ) → Walk parts path hops from passed → new ≡ passed ++ from ∷ [] → ArePassed parts path new
passed_more parts path hops from passed new walk is k node found =
    let P : List ℕ → Type 0 = λ l. slice_get l k ≡ Some node in
    elim (last_or_before passed from node k (subst P is found)) [
      | inl before ↦ walk.nodes k node before
      | inr last ↦ (let Q : ℕ → Type 0 = λ n. node_after_hops parts path n ≡ Some node in subst Q (sym (last.0 ∙ walk.count)) (walk.at_from ∙ ap (λ n. Some n) last.1))
    ]

-- after one more hop
pub walk_more : (parts : ScenarioParts) (path : Path) (hops from link node : ℕ) (passed new : List ℕ) → Walk parts path hops from passed → new ≡ passed ++ from ∷ [] → hop_link parts path from ≡ Some link → link_target parts.links link ≡ Some node → Walk parts path (hops + 1) node new
walk_more parts path hops from link node passed new walk is over comes =
    let next : next_node parts path from ≡ Some node = ap (option_and_then (link_target parts.links)) over ∙ comes in
    record {
      at_from = ap (λ n. node_after_hops parts path n) (add-one hops) ∙ (ap (option_and_then (next_node parts path)) walk.at_from ∙ next);
      count = ap length is ∙ (length-append passed (from ∷ []) ∙ ap (λ n. n + 1) walk.count);
      nodes = passed_more parts path hops from passed new walk is;
    }
