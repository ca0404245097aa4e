-- Copies of nodes at some places: one more, one less, and the one at a place.
use Rattle.std.proofs.Common.{◌≡◌, ◌≢◌, ℕ, ◌<◌, List, length, set, get_or, sym, ap, ◌∙◌, Some, None, Option, ⊎_elim}
use Rattle.std.specs.Prelude.{IfSome}
use Rattle.std.proofs.lemmas.Bool.{cases_eq}
use Rattle.std.proofs.lemmas.List.{get_or_read, get_or-set_same, get_or-set_other}
use Rattle.tournament.proofs.Maps.{not_some, same_some}
use Rattle.node_core.specs.Node.{NodeState}
use Rattle.net_machine.specs.Nodes.{node_at, AreCopies}

module _ (nodes : List NodeState) (copies : List (Option NodeState)) (are : AreCopies nodes copies) (place : ℕ) (within : place < length copies) where
  pub one_more : (copy : NodeState) → copy ≡ node_at nodes place → (new : Option NodeState) → new ≡ Some copy → AreCopies nodes (set copies place new)
  one_more copy is new new_is i x has = ⊎_elim
      (λ (at : i ≡ place).
      sym (same_some copy x (sym new_is ∙ sym (get_or-set_same copies place new None within) ∙ ap (λ n. get_or (set copies place new) n None) (sym at) ∙ has)) ∙ is ∙ ap (node_at nodes) (sym at))
      (λ (apart : i ≢ place). are i x (sym (get_or-set_other copies place i new None apart) ∙ has))
      (cases_eq i place)

  pub one_less : (new : Option NodeState) → new ≡ None → AreCopies nodes (set copies place new)
  one_less new new_is i x has = ⊎_elim
      (λ (at : i ≡ place). absurd (not_some (sym new_is ∙ sym (get_or-set_same copies place new None within) ∙ ap (λ n. get_or (set copies place new) n None) (sym at) ∙ has)))
      (λ (apart : i ≢ place). are i x (sym (get_or-set_other copies place i new None apart) ∙ has))
      (cases_eq i place)

  pub is_copy : (o : Option NodeState) → o ≡ get_or copies place o → (node : NodeState) → node ≡ node_at nodes place → IfSome o (λ copy. copy ≡ node)
  is_copy None read node is = tt
  is_copy (Some x) read node is = are place x (sym (get_or_read copies place (Some x) within read None)) ∙ sym is
