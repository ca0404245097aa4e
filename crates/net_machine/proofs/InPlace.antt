-- Where the numbers of nodes rise with their places, so do the next keys of one time.
use Rattle.std.proofs.Common.{◌≡◌, ◌≢◌, ℕ, ◌<◌, ◌≤◌, List, length, sym, ap, subst, ◌∙◌, Some, ⊎_elim, arith}
use Rattle.std.proofs.lemmas.Bool.{cases_lt}
use Rattle.std.proofs.Math.ListN.{get_or-eq_default}
use Rattle.std.specs.Cmp.{nat_cmp_is}
use Rattle.std.specs.Ordering.{nat_cmp, ordering_then, is_gt}
use Rattle.std.specs.declared.cmp.Ordering.{Ordering}
use Rattle.std.specs.declared.cmp.Ordering.TheVariants.{Less, Equal, Greater}
use mathlib.Core.Bool.{false≢true}
use Rattle.sim_time.specs.declared.key.Key.{Key}
use Rattle.sim_time.specs.Keys.{key_cmp}
use Rattle.tournament.specs.Leading.{rank_at}
use Rattle.tournament.specs.Timed.{AreInPlace}
use Rattle.tournament.specs.Keyed.{least, next_key, EachKey}
use Rattle.tournament.proofs.Maps.{not_some, least_is, next_some}
use Rattle.tournament.proofs.Gathered.{next_empty}
use Rattle.node_core.specs.declared.event.Event.{Event}
use Rattle.node_core.specs.Node.{NodeState}
use Rattle.net_machine.specs.Nodes.{no_node, node_at, next_keys, IsPlaced}
use Rattle.net_machine.proofs.AtNodes.{pending_at, next_at}

-- of two keys of one time that at the lower node is less
lower_node : (a b : Key) → a.time ≡ b.time → a.node < b.node → key_cmp a b ≡ Less
lower_node a b same less =
    ap (λ o. ordering_then o (ordering_then (nat_cmp a.node b.node) (ordering_then (nat_cmp a.source b.source) (nat_cmp a.number b.number)))) (sym (nat_cmp_is a.time b.time Equal same))
    ∙ ap (λ o. ordering_then o (ordering_then (nat_cmp a.source b.source) (nat_cmp a.number b.number))) (sym (nat_cmp_is a.node b.node Less less))

not_greater : (r : Ordering) → r ≡ Less → r ≢ Greater
not_greater r less greater = absurd (false≢true (ap is_gt (sym less ∙ greater)))

module _ (nodes : List NodeState) where
  -- a node that has a next key is one of them
  pub has_node : (i : ℕ) (key : Key) → rank_at (next_keys nodes) i ≡ Some key → i < length nodes
  has_node i key held = ⊎_elim
      (λ (inside : i < length nodes). inside)
      (λ (past : length nodes ≤ i). absurd (not_some (sym (next_empty Event) ∙ ap (λ (n : NodeState). next_key n.pending) (sym (get_or-eq_default nodes no_node past)) ∙ sym (next_at nodes i) ∙ held)))
      (cases_lt i (length nodes))

  -- each node has its own number, and they rise
  module _ (number : ℕ → ℕ) (named : (i : ℕ) → i < length nodes → EachKey (λ k. k.node ≡ number i) (node_at nodes i).pending) (rising : (i j : ℕ) → i < j → j < length nodes → number i < number j) where
    key_names : (i : ℕ) (key : Key) → rank_at (next_keys nodes) i ≡ Some key → key.node ≡ number i
    key_names i key held =
        let first = next_some (least (node_at nodes i).pending) key (sym (next_at nodes i) ∙ held) in
        named i (has_node i key held) key first.0 (least_is (node_at nodes i).pending key first.0 first.1).pending

    pub rising_in_place : AreInPlace (next_keys nodes)
    rising_in_place i j a b lower at_i at_j same =
        let rises = rising i j lower (has_node j b at_j) in
        let first = key_names i a at_i in
        let second = key_names j b at_j in
        not_greater (key_cmp a b) (lower_node a b same (omega (arith, rises, first, second)))

-- each at its number
module _ (nodes : List NodeState) (placed : IsPlaced nodes) where
  named : (i : ℕ) → i < length nodes → EachKey (λ k. k.node ≡ i) (node_at nodes i).pending
  named i inside = subst (EachKey (λ k. k.node ≡ i)) (pending_at nodes i) (placed.at_home i)

  pub placed_names : (i : ℕ) (key : Key) → rank_at (next_keys nodes) i ≡ Some key → key.node ≡ i
  placed_names = key_names nodes (λ i. i) named (λ i j lower inside. lower)

  pub placed_in_place : AreInPlace (next_keys nodes)
  placed_in_place = rising_in_place nodes (λ i. i) named (λ i j lower inside. lower)
