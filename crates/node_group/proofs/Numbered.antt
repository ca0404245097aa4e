-- What nodes in a row, found by their numbers, have in their seats: who sits where, a change of one, and the least of all.
use Rattle.std.proofs.Common.{◌≡◌, ◌≢◌, ℕ, ◌<◌, ◌≤◌, List, length, set, get_or, refl, sym, ap, subst, ◌∙◌, Some, None, Option, ⊎_elim, arith}
use Rattle.std.proofs.lemmas.Bool.{cases_eq, cases_lt}
use Rattle.std.proofs.lemmas.List.{get_or-set_same, get_or-set_other, get_or-map, get_or_past, length-set, length-map, ext_get_or}
use Rattle.std.proofs.lemmas.Option.{slice_get-get_or, slice_get_past}
use Rattle.std.proofs.Math.ListN.{get_or-eq_default}
use Rattle.std.specs.List.{slice_get}
use Rattle.std.specs.FinMap as fin
use Rattle.std.specs.Option.{unwrap_or}
use Rattle.sim_time.specs.declared.key.Key.{Key}
use Rattle.tournament.specs.Leading.{rank_at, Leads}
use Rattle.tournament.specs.Keyed.{least, next_key, EachKey}
use Rattle.tournament.specs.Timed.{time_of, AreInPlace}
use Rattle.tournament.proofs.Maps.{not_some, least_is, next_some}
use Rattle.tournament.proofs.Gathered.{next_empty}
use Rattle.node_core.specs.declared.event.Event.{Event}
use Rattle.node_core.specs.Pending.{Events}
use Rattle.node_core.specs.Node.{NodeState}
use Rattle.net_machine.specs.Nodes.{no_node, node_at, next_keys, net_pending, IsPlaced, IsFirst, LeadsAt}
use Rattle.net_machine.proofs.AtNodes.{pending_at, next_at, first_node, first_key, net_none}
use Rattle.net_machine.proofs.InPlace.{has_node, rising_in_place}
use Rattle.node_group.specs.Seats.{absent, seated}
use Rattle.node_group.specs.Numbered.{seats_of, AreFound, AreRising, AreNodesByNumber}
use Rattle.node_group.proofs.Seated.{length-seated, seated_at, seated_set, nobody}

slice_get_set_other : {X : Type 0} (xs : List X) (i j : ℕ) (x d : X) → j ≢ i → slice_get (set xs i x) j ≡ slice_get xs j
slice_get_set_other xs i j x d apart = ⊎_elim
    (λ (inside : j < length xs).
    slice_get-get_or (set xs i x) j d (subst (λ n. j < n) (sym (length-set xs i x)) inside)
    ∙ ap (λ y. Some y) (get_or-set_other xs i j x d apart)
    ∙ sym (slice_get-get_or xs j d inside))
    (λ (past : length xs ≤ j). slice_get_past (set xs i x) j (subst (λ n. n ≤ j) (sym (length-set xs i x)) past) ∙ sym (slice_get_past xs j past))
    (cases_lt j (length xs))

module _ (nodes : List NodeState) (index : List ℕ) where
  pub many : length (seats_of nodes index) ≡ length index
  many = length-map index (λ k. slice_get nodes k)

  -- WHO SITS AT A NUMBER

  pub seat_at : (i : ℕ) → i < length index → get_or (seats_of nodes index) i None ≡ slice_get nodes (get_or index i (length nodes))
  seat_at i under = get_or-map (λ k. slice_get nodes k) index i (length nodes) None under

  -- one of the nodes
  pub node_among : (i : ℕ) → i < length index → get_or index i (length nodes) < length nodes → node_at (seated (seats_of nodes index)) i ≡ node_at nodes (get_or index i (length nodes))
  node_among i under inside =
      seated_at (seats_of nodes index) i (subst (λ n. i < n) (sym many) under)
      ∙ ap (λ (o : Option NodeState). unwrap_or o (absent i)) (seat_at i under ∙ slice_get-get_or nodes (get_or index i (length nodes)) no_node inside)

  -- nobody
  pub none_among : (i : ℕ) → i < length index → length nodes ≤ get_or index i (length nodes) → node_at (seated (seats_of nodes index)) i ≡ absent i
  none_among i under past =
      nobody (seats_of nodes index) i (subst (λ n. i < n) (sym many) under) (seat_at i under ∙ slice_get_past nodes (get_or index i (length nodes)) past)

  module _ (placed : IsPlaced (seated (seats_of nodes index))) where
    pub number_among : (i : ℕ) → i < length index → get_or index i (length nodes) < length nodes → (node_at nodes (get_or index i (length nodes))).number ≡ i
    number_among i under inside =
        ap (λ (n : NodeState). n.number) (sym (node_among i under inside))
        ∙ placed.number i (subst (λ n. i < n) (sym (length-seated (seats_of nodes index) ∙ many)) under)

    -- ANOTHER NODE AT A NUMBER

    module _ (i : ℕ) (under : i < length index) (k : ℕ) (at : k ≡ get_or index i (length nodes)) (inside : k < length nodes) (x : NodeState) where
      here : (node_at nodes k).number ≡ i
      here = ap (λ n. (node_at nodes n).number) at ∙ number_among i under (subst (λ n. n < length nodes) at inside)

      apart_of : (j : ℕ) → j < length index → j ≢ i → get_or index j (length nodes) ≢ k
      apart_of j within off same =
          off (sym (number_among j within (subst (λ n. n < length nodes) (sym same) inside)) ∙ ap (λ n. (node_at nodes n).number) same ∙ here)

      pub seats_set : seats_of (set nodes k x) index ≡ set (seats_of nodes index) i (Some x)
      seats_set =
          let size : length (seats_of (set nodes k x) index) ≡ length index = length-map index (λ n. slice_get (set nodes k x) n) in
          ext_get_or None (seats_of (set nodes k x) index) (set (seats_of nodes index) i (Some x))
          (size ∙ sym (length-set (seats_of nodes index) i (Some x) ∙ many))
          (λ j before.
          let within : j < length index = subst (λ n. j < n) size before in
          let read : get_or (seats_of (set nodes k x) index) j None ≡ slice_get (set nodes k x) (get_or index j (length nodes)) = get_or-map (λ n. slice_get (set nodes k x) n) index j (length nodes) None within in
          ⊎_elim
          (λ (same : j ≡ i).
          read
          ∙ ap (slice_get (set nodes k x)) (ap (λ n. get_or index n (length nodes)) same ∙ sym at)
          ∙ slice_get-get_or (set nodes k x) k no_node (subst (λ n. k < n) (sym (length-set nodes k x)) inside)
          ∙ ap (λ (n : NodeState). Some n) (get_or-set_same nodes k x no_node inside)
          ∙ sym (ap (λ n. get_or (set (seats_of nodes index) i (Some x)) n None) same ∙ get_or-set_same (seats_of nodes index) i (Some x) None (subst (λ n. i < n) (sym many) under)))
          (λ (apart : j ≢ i).
          read
          ∙ slice_get_set_other nodes k (get_or index j (length nodes)) x no_node (apart_of j within apart)
          ∙ sym (get_or-set_other (seats_of nodes index) i j (Some x) None apart ∙ seat_at j within))
          (cases_eq j i))

      pub all_set : seated (seats_of (set nodes k x) index) ≡ set (seated (seats_of nodes index)) i x
      all_set = ap seated seats_set ∙ seated_set (seats_of nodes index) i x

      module _ (after : IsPlaced (set (seated (seats_of nodes index)) i x)) where
        number_stays : x.number ≡ (node_at nodes k).number
        number_stays =
            let inside_all : i < length (seated (seats_of nodes index)) = subst (λ n. i < n) (sym (length-seated (seats_of nodes index) ∙ many)) under in
            ap (λ (n : NodeState). n.number) (sym (get_or-set_same (seated (seats_of nodes index)) i x no_node inside_all))
            ∙ after.number i (subst (λ n. i < n) (sym (length-set (seated (seats_of nodes index)) i x)) inside_all)
            ∙ sym here

        numbers_stay : (m : ℕ) → (node_at (set nodes k x) m).number ≡ (node_at nodes m).number
        numbers_stay m = ⊎_elim
            (λ (same : m ≡ k). ap (λ (n : NodeState). n.number) (ap (node_at (set nodes k x)) same ∙ get_or-set_same nodes k x no_node inside) ∙ number_stays ∙ ap (λ n. (node_at nodes n).number) (sym same))
            (λ (apart : m ≢ k). ap (λ (n : NodeState). n.number) (get_or-set_other nodes k m x no_node apart))
            (cases_eq m k)

        pub found_set : AreFound nodes index → AreFound (set nodes k x) index
        found_set found m before =
            let size = length-set nodes k x in
            (λ j. get_or index (numbers_stay m j) (size j)) ∙ found m (subst (λ n. m < n) size before)

        rising_set : AreRising nodes → AreRising (set nodes k x)
        rising_set rising m n lower before =
            let rises = rising m n lower (subst (λ size. n < size) (length-set nodes k x) before) in
            let same_m = numbers_stay m in
            let same_n = numbers_stay n in
            omega (arith, rises, same_m, same_n)

        pub members_set : AreNodesByNumber nodes index → AreNodesByNumber (set nodes k x) index
        members_set is = record { placed = subst IsPlaced (sym all_set) after; found = found_set is.found; rising = rising_set is.rising }

  -- THE LEAST OF ALL

  -- a key that is next at a number is so at one of the nodes
  next_among : (i : ℕ) (key : Key) → next_key (node_at (seated (seats_of nodes index)) i).pending ≡ Some key → (k : ℕ) × (next_key (node_at nodes k).pending ≡ Some key)
  next_among i key next = ⊎_elim
      (λ (under : i < length index). ⊎_elim
      (λ (inside : get_or index i (length nodes) < length nodes). (get_or index i (length nodes), ap (λ (n : NodeState). next_key n.pending) (sym (node_among i under inside)) ∙ next))
      (λ (past : length nodes ≤ get_or index i (length nodes)). absurd (not_some (sym (next_empty Event) ∙ ap (λ (n : NodeState). next_key n.pending) (sym (none_among i under past)) ∙ next)))
      (cases_lt (get_or index i (length nodes)) (length nodes)))
      (λ (past : length index ≤ i).
      absurd (not_some (sym (next_empty Event) ∙ ap (λ (n : NodeState). next_key n.pending) (sym (get_or-eq_default (seated (seats_of nodes index)) no_node (subst (λ n. n ≤ i) (sym (length-seated (seats_of nodes index) ∙ many)) past))) ∙ next)))
      (cases_lt i (length index))

  module _ (is : AreNodesByNumber nodes index) where
    pub number_in : (k : ℕ) → k < length nodes → (node_at nodes k).number < length index
    number_in k inside = ⊎_elim
        (λ (under : (node_at nodes k).number < length index). under)
        (λ (past : length index ≤ (node_at nodes k).number).
        let at = is.found k inside in
        let none = get_or_past index (node_at nodes k).number (length nodes) past in
        absurd (let no : ⊥ = omega (arith, inside, at, none) in no))
        (cases_lt (node_at nodes k).number (length index))

    seated_there : (k : ℕ) → k < length nodes → node_at (seated (seats_of nodes index)) (node_at nodes k).number ≡ node_at nodes k
    seated_there k inside =
        node_among (node_at nodes k).number (number_in k inside) (subst (λ n. n < length nodes) (sym (is.found k inside)) inside) ∙ ap (node_at nodes) (is.found k inside)

    -- its key is at home there
    key_there : (i : ℕ) (key : Key) → next_key (node_at (seated (seats_of nodes index)) i).pending ≡ Some key → key.node ≡ i
    key_there i key next =
        let first = next_some (least (node_at (seated (seats_of nodes index)) i).pending) key next in
        is.placed.at_home i key first.0 (ap (λ (m : Events). fin.get m key) (pending_at (seated (seats_of nodes index)) i) ∙ (least_is (node_at (seated (seats_of nodes index)) i).pending key first.0 first.1).pending)

    held_here : (k : ℕ) (key : Key) → rank_at (next_keys nodes) k ≡ Some key → next_key (node_at nodes k).pending ≡ Some key
    held_here k key held = sym (next_at nodes k) ∙ held

    there : (k : ℕ) (key : Key) → rank_at (next_keys nodes) k ≡ Some key → next_key (node_at (seated (seats_of nodes index)) (node_at nodes k).number).pending ≡ Some key
    there k key held = ap (λ (n : NodeState). next_key n.pending) (seated_there k (has_node nodes k key held)) ∙ held_here k key held

    held_at_home : (k : ℕ) (key : Key) → rank_at (next_keys nodes) k ≡ Some key → next_key (node_at (seated (seats_of nodes index)) key.node).pending ≡ Some key
    held_at_home k key held = ap (λ i. next_key (node_at (seated (seats_of nodes index)) i).pending) (key_there (node_at nodes k).number key (there k key held)) ∙ there k key held

    -- the key that leads leads at its node's number
    leads_there : (k : ℕ) (key : Key) → Leads (next_keys nodes) k key → Leads (next_keys (seated (seats_of nodes index))) key.node key
    leads_there k key leads = record {
      held = next_at (seated (seats_of nodes index)) key.node ∙ held_at_home k key leads.held;
      none_less = λ other q next.
          let among = next_among other q (sym (next_at (seated (seats_of nodes index)) other) ∙ next) in
          leads.none_less among.0 q (next_at nodes among.0 ∙ among.1);
      none_lower = λ other lower next.
          let at = key_there other key (sym (next_at (seated (seats_of nodes index)) other) ∙ next) in
          let no : ⊥ = omega (arith, at, lower) in no;
    }

    -- the keys of the nodes stand in their places
    names : (k : ℕ) → k < length nodes → EachKey (λ q. q.node ≡ (node_at nodes k).number) (node_at nodes k).pending
    names k inside =
        subst (EachKey (λ q. q.node ≡ (node_at nodes k).number)) (pending_at (seated (seats_of nodes index)) (node_at nodes k).number ∙ ap (λ (n : NodeState). n.pending) (seated_there k inside))
        (is.placed.at_home (node_at nodes k).number)

    pub members_in_place : AreInPlace (next_keys nodes)
    members_in_place = rising_in_place nodes (λ k. (node_at nodes k).number) names is.rising

    module _ (k time : ℕ) (first : LeadsAt nodes k time) where
      pub first_within : k < length nodes
      first_within = has_node nodes k first.key first.leads.held

      pub first_member : IsFirst (seated (seats_of nodes index)) (node_at nodes k).number
      first_member = subst (IsFirst (seated (seats_of nodes index))) (key_there (node_at nodes k).number first.key (there k first.key first.leads.held))
          (first_node (seated (seats_of nodes index)) is.placed first.key.node first.key (leads_there k first.key first.leads))

      pub first_time_of : Some time ≡ time_of (next_key (net_pending (seated (seats_of nodes index))))
      first_time_of = ap (λ t. Some t) (sym first.at_time) ∙ ap time_of (first_key (seated (seats_of nodes index)) is.placed first.key.node first.key (leads_there k first.key first.leads))

    pub none_pending : ((k : ℕ) → rank_at (next_keys nodes) k ≡ None) → least (net_pending (seated (seats_of nodes index))) ≡ None
    none_pending none = net_none (seated (seats_of nodes index)) is.placed (λ i.
        elim (next_key (node_at (seated (seats_of nodes index)) i).pending) as (λ o. next_key (node_at (seated (seats_of nodes index)) i).pending ≡ o → rank_at (next_keys (seated (seats_of nodes index))) i ≡ None) [
          | None ↦ λ e. next_at (seated (seats_of nodes index)) i ∙ e
          | Some key ↦ λ e.
              let among = next_among i key e in
              absurd (not_some (sym (none among.0) ∙ next_at nodes among.0 ∙ among.1))
        ] refl)
