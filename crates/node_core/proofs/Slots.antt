-- The slots of an event queue: whose keys are where, in which order, and what a change of one slot does to the whole.
use Rattle.std.proofs.Common.{◌≡◌, ◌≢◌, ℕ, zero, suc, ◌+◌, ◌-◌, ◌<◌, ◌≤◌, ◌==◌, Bool, true, false, cond, ◌∷◌, [], List, ◌++◌, length, get_or, set, map, refl, sym, ap, subst, ◌∙◌, Some, None, Option, ⊎_elim, arith}
use Rattle.std.proofs.lemmas.Bool.{cases_lt, cases_eq, eq-eqb, ne_eqb, eqb-true, eqb-false}
use Rattle.std.proofs.lemmas.List.{get_or-set_same, get_or-set_other, length-set, length-map, map-set, get_or_append_left, get_or-append-add, set-append_left, set-append_right, length-append}
use Rattle.std.proofs.Math.ListN.{get_or-map, get_or-eq_default}
use Rattle.std.proofs.Math.Seq.{map-set_same}
use Rattle.std.specs.Option.{option_map}
use Rattle.std.specs.FinMap as fin
use Rattle.std.specs.FinMap.{get-empty}
use Rattle.std.specs.List.{AllByRecursion}
use Rattle.std.specs.List.Sorted.{IsStrictlyIncreasing}
use Rattle.std.proofs.lemmas.List.Kept.{AllPairs-from_increasing}
use Rattle.std.specs.Ordering.{eq_by_cmp, is_gt, nat_cmp, ordering_then}
use Rattle.std.specs.Cmp.{nat_cmp_is}
use Rattle.std.specs.declared.cmp.Ordering.TheVariants.{Less, Equal, Greater}
use Rattle.std.proofs.lemmas.Cmp.{tied_itself}
use Rattle.sim_time.specs.declared.key.Key.{Key}
use Rattle.sim_time.specs.Keys.{key_cmp}
use Rattle.sim_time.proofs.Order.{keys_total, exact_keys}
use Rattle.tournament.specs.Leading.{rank_at, Leads}
use Rattle.tournament.specs.Timed.{time_at, time_of, times_of, IsSoonest, AreInPlace}
use Rattle.tournament.proofs.Timed.{led, none_led, times_set}
use Rattle.packet_chain.specs.Stamped.{Stamped}
use Rattle.tournament.specs.Keyed.{changed, apply, entering, least, next_key, EachKey, nothing_due}
use Rattle.tournament.specs.Gathered.{gathered, map_at, AtHome}
use Rattle.tournament.proofs.Maps.{not_some, same_some, is_equal, get_here, get-changed, each_changed, each_empty, remove_insert, is_least, next_some, least_is}
use Rattle.tournament.proofs.Gathered.{rank-next, next_empty, ranks_stay, gathered-apply, get-gathered, none_gathered, IsFirst, is_first}
use Rattle.packet_chain.specs.declared.packet.Packet.{Packet}
use Rattle.node_core.specs.declared.event.Event.{Event}
use Rattle.node_core.specs.declared.event.Event.TheVariants.{Start, Rto, DelAck, Free, Arrive}
use Rattle.node_core.specs.Pending.{Events, EventChange}
use Rattle.node_core.specs.Timers.{numbered_key, timer_cleared, timer_set}
use Rattle.node_core.specs.WireState.{WireState, pending_on, came_over, arrivals}
use Rattle.node_core.specs.EventQueueState.{Owner, Incoming, EventQueueState, timer_event, timer_map, timer_maps, slots, index_of, slot_of, no_wire_here, wire_of_link, IsEventQueue, IsTimer, IsDue, IsDueAs, cleared, event_queue_state, incoming_of, incoming_at, come_over}
use Rattle.node_core.proofs.Wires.{increasing_rest, first_below, each_on, each_at, entering_sources, all_arrive}

abbrev nothing : Events
nothing = nothing_due Event

-- the changes of a timer that moves
abbrev pub moved : Owner → ℕ → Option ℕ → Option ℕ → List EventChange
moved owner i old new = timer_cleared (numbered_key owner.node i) old ++ timer_set (numbered_key owner.node i) (timer_event owner i) new

-- a map of one entry
least_one : (k : Key) (v : Event) → least (changed nothing k (Some v)) ≡ Some (k, v)
least_one k v = is_least (changed nothing k (Some v)) k v (record {
  pending = get_here nothing k (Some v);
  none_less = λ q w there. elim (eq_by_cmp key_cmp q k) as (λ b. eq_by_cmp key_cmp q k ≡ b → is_gt (key_cmp k q) ≡ false) [
    | true ↦ λ t. ap is_gt (ap (key_cmp k) (exact_keys q k (is_equal _ t)) ∙ tied_itself keys_total k)
    | false ↦ λ t. absurd (not_some (sym (ap (λ b. cond b (Some v) (fin.get nothing q)) t ∙ get-empty key_cmp q) ∙ sym (get-changed nothing k (Some v) q) ∙ there))
  ] refl;
})

pub next_timer : (owner : Owner) (i : ℕ) (time : Option ℕ) → next_key (timer_map owner i time) ≡ option_map (numbered_key owner.node i) time
next_timer owner i None = next_empty Event
next_timer owner i (Some t) = ap (option_map (λ (entry : Key × Event). entry.0)) (least_one (numbered_key owner.node i t) (timer_event owner i))

pub timer_time : (owner : Owner) (i : ℕ) (time : Option ℕ) → time_of (next_key (timer_map owner i time)) ≡ time
timer_time owner i None = ap time_of (next_timer owner i None)
timer_time owner i (Some t) = ap time_of (next_timer owner i (Some t))

-- a timer that moves, as a map
timer_moves : (owner : Owner) (i : ℕ) (old new : Option ℕ) → timer_map owner i new ≡ apply (moved owner i old new) (timer_map owner i old)
timer_moves owner i None None = refl
timer_moves owner i None (Some t) = refl
timer_moves owner i (Some d) None = sym (remove_insert nothing (numbered_key owner.node i d) (timer_event owner i) (get-empty key_cmp (numbered_key owner.node i d)))
timer_moves owner i (Some d) (Some t) =
    ap (λ (m : Events). changed m (numbered_key owner.node i t) (Some (timer_event owner i))) (sym (remove_insert nothing (numbered_key owner.node i d) (timer_event owner i) (get-empty key_cmp (numbered_key owner.node i d))))

pub moved_home : (P : Key → Type 0) (owner : Owner) (i : ℕ) (old new : Option ℕ) → ((t : ℕ) → P (numbered_key owner.node i t)) → AllByRecursion (λ (c : EventChange). P c.0) (moved owner i old new)
moved_home P owner i None None h = tt
moved_home P owner i None (Some t) h = (h t, tt)
moved_home P owner i (Some d) None h = (h d, tt)
moved_home P owner i (Some d) (Some t) h = (h d, (h t, tt))

each_timer : (owner : Owner) (i : ℕ) (time : Option ℕ) → EachKey (λ k. (k.source ≡ 0) × (k.number ≡ i)) (timer_map owner i time)
each_timer owner i None = each_empty (λ k. (k.source ≡ 0) × (k.number ≡ i))
each_timer owner i (Some t) = each_changed (λ k. (k.source ≡ 0) × (k.number ≡ i)) nothing (numbered_key owner.node i t) (Some (timer_event owner i)) (refl, refl) (each_empty (λ k. (k.source ≡ 0) × (k.number ≡ i)))

-- which slot is where
length-timer_maps : (owner : Owner) (from : ℕ) (timers : List (Option ℕ)) → length (timer_maps owner from timers) ≡ length timers
length-timer_maps owner from [] = refl
length-timer_maps owner from (a ∷ timers) = ap suc (length-timer_maps owner (from + 1) timers)

timer_maps-at : (owner : Owner) (from : ℕ) (timers : List (Option ℕ)) (i : ℕ) → i < length timers → map_at (timer_maps owner from timers) i ≡ timer_map owner (from + i) (get_or timers i None)
timer_maps-at owner from [] i within = absurd (omega (arith, within))
timer_maps-at owner from (a ∷ timers) zero within = ap (λ n. timer_map owner n a) {x = from} {y = from + 0} (omega arith)
timer_maps-at owner from (a ∷ timers) (suc i) within =
    timer_maps-at owner (from + 1) timers i (omega (arith, within)) ∙ ap (λ n. timer_map owner n (get_or timers i None)) {x = (from + 1) + i} {y = from + suc i} (omega arith)

timer_maps-set : (owner : Owner) (from : ℕ) (timers : List (Option ℕ)) (i : ℕ) (time : Option ℕ) → timer_maps owner from (set timers i time) ≡ set (timer_maps owner from timers) i (timer_map owner (from + i) time)
timer_maps-set owner from [] i time = refl
timer_maps-set owner from (a ∷ timers) zero time = ap (λ n. timer_map owner n time ∷ timer_maps owner (from + 1) timers) {x = from} {y = from + 0} (omega arith)
timer_maps-set owner from (a ∷ timers) (suc i) time =
    ap (λ l. timer_map owner from a ∷ l)
    (timer_maps-set owner (from + 1) timers i time ∙ ap (λ n. set (timer_maps owner (from + 1) timers) i (timer_map owner n time)) {x = (from + 1) + i} {y = from + suc i} (omega arith))

module _ (owner : Owner) (timers : List (Option ℕ)) (wires : List WireState) where
  pub length-slots : length (slots owner timers wires) ≡ length timers + length wires
  length-slots = length-append (timer_maps owner 0 timers) (map pending_on wires) ∙ omega (arith, length-timer_maps owner 0 timers, length-map wires pending_on)

  pub slots_at_timer : (i : ℕ) → i < length timers → map_at (slots owner timers wires) i ≡ timer_map owner i (get_or timers i None)
  slots_at_timer i within =
      get_or_append_left (timer_maps owner 0 timers) (map pending_on wires) nothing i (omega (arith, length-timer_maps owner 0 timers, within))
      ∙ timer_maps-at owner 0 timers i within ∙ ap (λ n. timer_map owner n (get_or timers i None)) {x = 0 + i} {y = i} (omega arith)

  pub slots_at_wire : (j : ℕ) → map_at (slots owner timers wires) (length timers + j) ≡ pending_on (wire_of_link wires j)
  slots_at_wire j =
      ap (λ n. map_at (slots owner timers wires) (n + j)) (sym (length-timer_maps owner 0 timers))
      ∙ get_or-append-add (timer_maps owner 0 timers) (map pending_on wires) j nothing
      ∙ get_or-map pending_on wires j no_wire_here

  pub slots_set_timer : (i : ℕ) → i < length timers → (time : Option ℕ) → slots owner (set timers i time) wires ≡ set (slots owner timers wires) i (timer_map owner i time)
  slots_set_timer i within time =
      ap (λ l. l ++ map pending_on wires)
      (timer_maps-set owner 0 timers i time ∙ ap (λ n. set (timer_maps owner 0 timers) i (timer_map owner n time)) {x = 0 + i} {y = i} (omega arith))
      ∙ sym (set-append_left (timer_maps owner 0 timers) (map pending_on wires) i (timer_map owner i time) (omega (arith, length-timer_maps owner 0 timers, within)))

  pub slots_set_wire : (j : ℕ) (w : WireState) → slots owner timers (set wires j w) ≡ set (slots owner timers wires) (length timers + j) (pending_on w)
  slots_set_wire j w =
      ap (λ l. timer_maps owner 0 timers ++ l) (map-set pending_on wires j w)
      ∙ ap (λ i. timer_maps owner 0 timers ++ set (map pending_on wires) i (pending_on w)) {x = j} {y = (length timers + j) - length timers} (omega arith)
      ∙ sym (set-append_right (timer_maps owner 0 timers) (map pending_on wires) (length timers) (length timers + j) (pending_on w) (length-timer_maps owner 0 timers) (omega arith))

-- where keys are at home
pub slot_timer : (timers : ℕ) (links : List ℕ) (k : Key) → k.source ≡ 0 → slot_of timers links k ≡ k.number
slot_timer timers links k is = ap (λ s. cond (s == 0) k.number (timers + index_of links (s - 1))) is

pub slot_wire : (timers : ℕ) (links : List ℕ) (k : Key) (link : ℕ) → k.source ≡ link + 1 → slot_of timers links k ≡ timers + index_of links link
slot_wire timers links k link is =
    ap (λ s. cond (s == 0) k.number (timers + index_of links (s - 1))) is
    ∙ ap (λ b. cond b k.number (timers + index_of links ((link + 1) - 1))) (ne_eqb (link + 1) 0 (λ e. omega (arith, e)))
    ∙ ap (λ l. timers + index_of links l) {x = (link + 1) - 1} {y = link} (omega arith)

abbrev pub links_of : List WireState → List ℕ
links_of = map (λ (w : WireState). w.link)

abbrev pub home_of : List (Option ℕ) → List WireState → Key → ℕ
home_of timers wires = slot_of (length timers) (links_of wires)

-- in rising numbers each stands first at its own place
rising_apart : (links : List ℕ) → IsStrictlyIncreasing links → (j : ℕ) → j < length links → index_of links (get_or links j 0) ≡ j
rising_apart [] rising j under = absurd (omega (arith, under))
rising_apart (l ∷ links) rising zero under = ap (λ b. cond b 0 (index_of links l + 1)) (eq-eqb l l refl)
rising_apart (l ∷ links) rising (suc j) under =
    let inside : j < length links = omega (arith, under) in
    let less : l < get_or links j 0 = first_below l links rising j inside in
    let rest : index_of links (get_or links j 0) ≡ j = rising_apart links (increasing_rest l links rising) j inside in
    ap (λ b. cond b 0 (index_of links (get_or links j 0) + 1)) (ne_eqb l (get_or links j 0) (λ same. omega (arith, same, less))) ∙ omega (arith, rest)

-- of two keys of one time and node the one of the lesser source is less, and of one source the one of the lesser number
same_part : (a b : Key) → a.time ≡ b.time → a.node ≡ b.node → key_cmp a b ≡ ordering_then (nat_cmp a.source b.source) (nat_cmp a.number b.number)
same_part a b time node =
    ap (λ o. ordering_then o (ordering_then (nat_cmp a.node b.node) (ordering_then (nat_cmp a.source b.source) (nat_cmp a.number b.number)))) (sym (nat_cmp_is a.time b.time Equal time))
    ∙ ap (λ o. ordering_then o (ordering_then (nat_cmp a.source b.source) (nat_cmp a.number b.number))) (sym (nat_cmp_is a.node b.node Equal node))

less_source : (a b : Key) → a.time ≡ b.time → a.node ≡ b.node → a.source < b.source → key_cmp a b ≡ Less
less_source a b time node less = same_part a b time node ∙ ap (λ o. ordering_then o (nat_cmp a.number b.number)) (sym (nat_cmp_is a.source b.source Less less))

less_number : (a b : Key) → a.time ≡ b.time → a.node ≡ b.node → a.source ≡ b.source → a.number < b.number → key_cmp a b ≡ Less
less_number a b time node source less =
    same_part a b time node ∙ ap (λ o. ordering_then o (nat_cmp a.number b.number)) (sym (nat_cmp_is a.source b.source Equal source))
    ∙ sym (nat_cmp_is a.number b.number Less less)

no_greater : Less ≡ Greater → ⊥
no_greater e = cc

-- the key of a timer's slot, and of a link's
record IsTimerKey (owner : Owner) (i : ℕ) (k : Key) : Type 0 where
  pub at_node : k.node ≡ owner.node
  pub source : k.source ≡ 0
  pub number : k.number ≡ i

record IsWireKey (owner : Owner) (wires : List WireState) (j : ℕ) (k : Key) : Type 0 where
  pub within : j < length wires
  pub at_node : k.node ≡ owner.node
  pub source : k.source ≡ (wire_of_link wires j).link + 1

module _ (owner : Owner) (timers : List (Option ℕ)) (wires : List WireState) (times : List (Option ℕ)) (is : IsEventQueue owner timers wires times) where
  abbrev ranks : List (Option Key)
  ranks = map next_key (slots owner timers wires)

  link_at : (j : ℕ) → get_or (links_of wires) j 0 ≡ (wire_of_link wires j).link
  link_at j = get_or-map (λ (w : WireState). w.link) wires j no_wire_here

  -- each link stands once
  link_index : (j : ℕ) → j < length wires → index_of (links_of wires) (wire_of_link wires j).link ≡ j
  link_index j within = ap (index_of (links_of wires)) (sym (link_at j)) ∙ rising_apart (links_of wires) is.rising j (omega (arith, within, length-map wires (λ (w : WireState). w.link)))

  timer_key_at : (i : ℕ) → i < length timers → (k : Key) → rank_at ranks i ≡ Some k → IsTimerKey owner i k
  timer_key_at i within k there =
      at (get_or timers i None) (sym (next_timer owner i (get_or timers i None)) ∙ ap next_key (sym (slots_at_timer owner timers wires i within)) ∙ sym (rank-next (slots owner timers wires) i) ∙ there)
    where
      at : (time : Option ℕ) → option_map (numbered_key owner.node i) time ≡ Some k → IsTimerKey owner i k
      at None e = absurd (not_some e)
      at (Some t) e = let same = same_some (numbered_key owner.node i t) k e in record { at_node = ap (λ (q : Key). q.node) (sym same); source = ap (λ (q : Key). q.source) (sym same); number = ap (λ (q : Key). q.number) (sym same) }

  wire_key_at : (j : ℕ) (k : Key) → rank_at ranks (length timers + j) ≡ Some k → IsWireKey owner wires j k
  wire_key_at j k there =
      let next : next_key (pending_on (wire_of_link wires j)) ≡ Some k = ap next_key (sym (slots_at_wire owner timers wires j)) ∙ sym (rank-next (slots owner timers wires) (length timers + j)) ∙ there in
      let found = next_some (least (pending_on (wire_of_link wires j))) k next in
      let pending = (least_is (pending_on (wire_of_link wires j)) k found.0 found.1).pending in
      let within : j < length wires =
      ⊎_elim
      (λ (inside : j < length wires). inside)
      (λ (past : length wires ≤ j). absurd (not_some (sym (get-empty key_cmp k) ∙ ap (λ (w : WireState). fin.get (pending_on w) k) (sym (get_or-eq_default wires no_wire_here past)) ∙ pending)))
      (cases_lt j (length wires)) in
      record { within = within; at_node = each_at (wire_of_link wires j) k found.0 pending ∙ is.at_node j within; source = each_on (wire_of_link wires j) k found.0 pending }

  wire_key_past : (i : ℕ) → length timers ≤ i → (k : Key) → rank_at ranks i ≡ Some k → IsWireKey owner wires (i - length timers) k
  wire_key_past i past k there = wire_key_at (i - length timers) k (ap (rank_at ranks) {x = length timers + (i - length timers)} {y = i} (omega (arith, past)) ∙ there)

  key_node : (i : ℕ) (k : Key) → rank_at ranks i ≡ Some k → k.node ≡ owner.node
  key_node i k there =
      ⊎_elim
      (λ (timer : i < length timers). (timer_key_at i timer k there).at_node)
      (λ (past : length timers ≤ i). (wire_key_past i past k there).at_node)
      (cases_lt i (length timers))

  -- slots that are due at one time stand in the order of their keys
  in_place : AreInPlace ranks
  in_place i j a b before at_i at_j same greater =
      ⊎_elim
      (λ (timer : j < length timers).
      let first = timer_key_at i (omega (arith, before, timer)) a at_i in
      let second = timer_key_at j timer b at_j in
      no_greater (sym (less_number a b same nodes (first.source ∙ sym second.source) (omega (arith, first.number, second.number, before))) ∙ greater))
      (λ (past : length timers ≤ j). no_greater (sym (less_source a b same nodes (lesser past (wire_key_past j past b at_j))) ∙ greater))
      (cases_lt j (length timers))
    where
      nodes : a.node ≡ b.node
      nodes = key_node i a at_i ∙ sym (key_node j b at_j)

      lesser : length timers ≤ j → IsWireKey owner wires (j - length timers) b → a.source < b.source
      lesser past second =
          ⊎_elim
          (λ (timer : i < length timers). let first = timer_key_at i timer a at_i in omega (arith, first.source, second.source))
          (λ (both : length timers ≤ i).
          let first = wire_key_past i both a at_i in
          let rise : get_or (links_of wires) (i - length timers) 0 < get_or (links_of wires) (j - length timers) 0 =
          AllPairs-from_increasing (links_of wires) is.rising (i - length timers) (j - length timers) 0 (omega (arith, before, both)) (omega (arith, second.within, length-map wires (λ (w : WireState). w.link))) in
          omega (arith, rise, link_at (i - length timers), link_at (j - length timers), first.source, second.source))
          (cases_lt i (length timers))

  -- the slot that is due first has the least key
  lead : (slot time : ℕ) → IsSoonest times slot time → (key : Key) × ((Leads ranks slot key) × (key.time ≡ time))
  lead slot time soonest = led ranks in_place slot time (subst (λ (r : List (Option ℕ)). IsSoonest r slot time) is.ranked soonest)

  pub slots_home : AtHome (home_of timers wires) (slots owner timers wires)
  slots_home i k v there =
      ⊎_elim
      (λ (timer : i < length timers).
      let own = each_timer owner i (get_or timers i None) k v (ap (λ (m : Events). fin.get m k) (sym (slots_at_timer owner timers wires i timer)) ∙ there) in
      slot_timer (length timers) (links_of wires) k own.0 ∙ own.1)
      (λ (wire : length timers ≤ i). at_wire (i - length timers) (omega (arith, wire)))
      (cases_lt i (length timers))
    where
      at_wire : (j : ℕ) → length timers + j ≡ i → home_of timers wires k ≡ i
      at_wire j at =
          let here : fin.get (pending_on (wire_of_link wires j)) k ≡ Some v = ap (λ (m : Events). fin.get m k) (sym (slots_at_wire owner timers wires j) ∙ ap (map_at (slots owner timers wires)) at) ∙ there in
          ⊎_elim
          (λ (within : j < length wires).
          slot_wire (length timers) (links_of wires) k (wire_of_link wires j).link (each_on (wire_of_link wires j) k v here)
          ∙ ap (λ n. length timers + n) (link_index j within) ∙ at)
          (λ (past : length wires ≤ j). absurd (not_some (sym (none_there k) ∙ ap (λ (w : WireState). fin.get (pending_on w) k) (sym (get_or-eq_default wires no_wire_here past)) ∙ here)))
          (cases_lt j (length wires))
        where
          none_there : (q : Key) → fin.get (pending_on no_wire_here) q ≡ None
          none_there q = get-empty key_cmp q

  pub length_timed : length times ≡ length timers + length wires
  length_timed = ap length is.ranked ∙ length-map ranks time_of ∙ length-map (slots owner timers wires) next_key ∙ length-slots owner timers wires

  -- a slot has another map
  slot_timed : (i : ℕ) (m : Events) (new : List Events) → new ≡ set (slots owner timers wires) i m → set times i (time_of (next_key m)) ≡ times_of (map next_key new)
  slot_timed i m new same =
      ap (λ r. set r i (time_of (next_key m))) is.ranked ∙ sym (times_set ranks i (next_key m))
      ∙ ap times_of (sym (map-set next_key (slots owner timers wires) i m) ∙ ap (map next_key) (sym same))

  -- a timer is set or cleared
  pub set_ranked : (i : ℕ) → i < length timers → (time : Option ℕ) → IsEventQueue owner (set timers i time) wires (set times i time)
  set_ranked i within time = record {
    ranked = ap (set times i) (sym (timer_time owner i time)) ∙ slot_timed i (timer_map owner i time) (slots owner (set timers i time) wires) (slots_set_timer owner timers wires i within time);
    rising = is.rising;
    at_node = is.at_node;
  }

  pub set_pending : (i : ℕ) → i < length timers → (time : Option ℕ)
      → gathered (slots owner (set timers i time) wires) ≡ apply (moved owner i (get_or timers i None) time) (gathered (slots owner timers wires))
  set_pending i within time =
      let changes = moved owner i (get_or timers i None) time in
      ap gathered (slots_set_timer owner timers wires i within time)
      ∙ ap (λ (m : Events). gathered (set (slots owner timers wires) i m)) (timer_moves owner i (get_or timers i None) time ∙ ap (apply changes) (sym (slots_at_timer owner timers wires i within)))
      ∙ gathered-apply (home_of timers wires) changes (slots owner timers wires) slots_home i (omega (arith, within, length-slots owner timers wires))
      (moved_home (λ k. home_of timers wires k ≡ i) owner i (get_or timers i None) time (λ t. slot_timer (length timers) (links_of wires) (numbered_key owner.node i t) refl))

  -- what comes over a link changes at its own keys
  module _ (j : ℕ) (within : j < length wires) (w : WireState) (same_node : w.node ≡ (wire_of_link wires j).node) (same_link : w.link ≡ (wire_of_link wires j).link) where
    same_links : links_of (set wires j w) ≡ links_of wires
    same_links = map-set_same (λ (x : WireState). x.link) wires j w no_wire_here same_link

    pub wire_ranked : IsEventQueue owner timers (set wires j w) (set times (length timers + j) (time_of (next_key (pending_on w))))
    wire_ranked = record {
      ranked = slot_timed (length timers + j) (pending_on w) (slots owner timers (set wires j w)) (slots_set_wire owner timers wires j w);
      rising = subst IsStrictlyIncreasing (sym same_links) is.rising;
      at_node = λ i under.
          let inside : i < length wires = subst (λ n. i < n) (length-set wires j w) under in
          ⊎_elim
          (λ (at : i ≡ j). ap (λ (x : WireState). x.node) (ap (wire_of_link (set wires j w)) at ∙ get_or-set_same wires j w no_wire_here within) ∙ same_node ∙ is.at_node j within)
          (λ (apart : i ≢ j). ap (λ (x : WireState). x.node) (get_or-set_other wires j i w no_wire_here apart) ∙ is.at_node i inside)
          (cases_eq i j);
    }

    pub wire_pending : (cs : List EventChange) → AllByRecursion (λ (c : EventChange). c.0.source ≡ (wire_of_link wires j).link + 1) cs → pending_on w ≡ apply cs (pending_on (wire_of_link wires j))
        → gathered (slots owner timers (set wires j w)) ≡ apply cs (gathered (slots owner timers wires))
    wire_pending cs sources change =
        ap gathered (slots_set_wire owner timers wires j w)
        ∙ ap (λ (m : Events). gathered (set (slots owner timers wires) (length timers + j) m)) (change ∙ ap (apply cs) (sym (slots_at_wire owner timers wires j)))
        ∙ gathered-apply (home_of timers wires) cs (slots owner timers wires) slots_home (length timers + j) (omega (arith, within, length-slots owner timers wires)) (at_slot cs sources)
      where
        at_slot : (cs : List EventChange) → AllByRecursion (λ (c : EventChange). c.0.source ≡ (wire_of_link wires j).link + 1) cs → AllByRecursion (λ (c : EventChange). home_of timers wires c.0 ≡ length timers + j) cs
        at_slot [] all = tt
        at_slot (c ∷ cs) all = (slot_wire (length timers) (links_of wires) c.0 (wire_of_link wires j).link all.0 ∙ ap (λ n. length timers + n) (link_index j within), at_slot cs all.1)

    -- a slot whose next key stays leaves all next keys, and needs no new time
    pub same_ranks : next_key (pending_on w) ≡ next_key (pending_on (wire_of_link wires j)) → map next_key (slots owner timers (set wires j w)) ≡ ranks
    same_ranks same =
        ap (map next_key) (slots_set_wire owner timers wires j w)
        ∙ ranks_stay (slots owner timers wires) (length timers + j) (pending_on w) (same ∙ ap next_key (sym (slots_at_wire owner timers wires j)))

    pub still_ranked : next_key (pending_on w) ≡ next_key (pending_on (wire_of_link wires j)) → IsEventQueue owner timers (set wires j w) times
    still_ranked same = record { ranked = is.ranked ∙ ap times_of (sym (same_ranks same)); rising = wire_ranked.rising; at_node = wire_ranked.at_node }

  pub none_first : ((slot : ℕ) → time_at times slot ≡ None) → least (gathered (slots owner timers wires)) ≡ None
  none_first none =
      none_gathered (home_of timers wires) (slots owner timers wires) slots_home
      (none_led ranks (subst (λ (r : List (Option ℕ)). (slot : ℕ) → time_at r slot ≡ None) is.ranked none))

  first_slot : (slot : ℕ) (key : Key) → Leads ranks slot key → IsFirst (home_of timers wires) (slots owner timers wires) slot key
  first_slot slot key leads = is_first (home_of timers wires) (slots owner timers wires) slots_home slot key leads

  -- each key of what comes over a link is pending, with the link's source
  pub wire_keys : (j : ℕ) → j < length wires → (k : Key) (v : Event) → fin.get (pending_on (wire_of_link wires j)) k ≡ Some v → (fin.get (gathered (slots owner timers wires)) k ≡ Some v) × (k.source ≡ (wire_of_link wires j).link + 1)
  wire_keys j within k v there =
      let source = each_on (wire_of_link wires j) k v there in (
        get-gathered (home_of timers wires) (slots owner timers wires) slots_home k
            ∙ ap (λ (m : Events). fin.get m k)
            (ap (map_at (slots owner timers wires)) (slot_wire (length timers) (links_of wires) k (wire_of_link wires j).link source ∙ ap (λ n. length timers + n) (link_index j within)) ∙ slots_at_wire owner timers wires j)
            ∙ there,
        source,
      )

  -- the time at which a slot is due first is that of the least key of all
  pub first_time : (slot time : ℕ) → IsSoonest times slot time → time_of (next_key (gathered (slots owner timers wires))) ≡ Some time
  first_time slot time soonest =
      let found = lead slot time soonest in
      let first = first_slot slot found.0 found.1.0 in
      ap time_of (ap (option_map (λ (entry : Key × Event). entry.0)) first.same ∙ first.next) ∙ ap (λ t. Some t) found.1.1

  pub none_time : ((slot : ℕ) → time_at times slot ≡ None) → time_of (next_key (gathered (slots owner timers wires))) ≡ None
  none_time none = ap (λ (o : Option (Key × Event)). time_of (option_map (λ (entry : Key × Event). entry.0) o)) (none_first none)

pub same_event_queue : (owner : Owner) {timers timers' : List (Option ℕ)} {incoming incoming' : List Incoming} {pending pending' : Events} → timers ≡ timers' → incoming ≡ incoming' → pending ≡ pending'
    → ◌≡◌ {A = EventQueueState} (record { owner = owner; timers = timers; incoming = incoming; pending = pending }) (record { owner = owner; timers = timers'; incoming = incoming'; pending = pending' })
same_event_queue owner e f g i = record { owner = owner; timers = e i; incoming = f i; pending = g i }

pub cleared_timer : (key : Key) (timers : List (Option ℕ)) (slot : ℕ) → key.source ≡ 0 → key.number ≡ slot → cleared key timers ≡ set timers slot None
cleared_timer key timers slot source number = ap (λ s. cond (s == 0) (set timers key.number None) timers) source ∙ ap (λ n. set timers n None) number

pub cleared_wire : (key : Key) (timers : List (Option ℕ)) (link : ℕ) → key.source ≡ link + 1 → cleared key timers ≡ timers
cleared_wire key timers link source =
    ap (λ s. cond (s == 0) (set timers key.number None) timers) source ∙ ap (λ b. cond b (set timers key.number None) timers) (ne_eqb (link + 1) 0 (λ e. omega (arith, e)))

-- a timer's slot is due first
pub record FirstTimer (owner : Owner) (timers : List (Option ℕ)) (wires : List WireState) (slot time : ℕ) : Type 0 where
  pub least_is : least (gathered (slots owner timers wires)) ≡ Some (numbered_key owner.node slot time, timer_event owner slot)
  pub set_for : get_or timers slot None ≡ Some time
  pub rest : gathered (slots owner (set timers slot None) wires) ≡ fin.remove (gathered (slots owner timers wires)) (numbered_key owner.node slot time)

-- an incoming link's slot is
pub record FirstWire (owner : Owner) (timers : List (Option ℕ)) (wires : List WireState) (j : ℕ) : Type 0 where
  pub within : j < length wires
  pub key : Key
  pub event : Event
  pub least_is : least (gathered (slots owner timers wires)) ≡ least (pending_on (wire_of_link wires j))
  pub entry : least (pending_on (wire_of_link wires j)) ≡ Some (key, event)
  pub source : key.source ≡ (wire_of_link wires j).link + 1
  pub node_is : key.node ≡ owner.node

module _ (owner : Owner) (timers : List (Option ℕ)) (wires : List WireState) (times : List (Option ℕ)) (is : IsEventQueue owner timers wires times) (slot time : ℕ) (soonest : IsSoonest times slot time) where
  abbrev found : (key : Key) × ((Leads (map next_key (slots owner timers wires)) slot key) × (key.time ≡ time))
  found = lead owner timers wires times is slot time soonest

  first_here : IsFirst (home_of timers wires) (slots owner timers wires) slot found.0
  first_here = first_slot owner timers wires times is slot found.0 found.1.0

  pub first_within : slot < length timers + length wires
  first_within = let h = first_here.within in omega (arith, h, length-slots owner timers wires)

  pub first_timer : slot < length timers → FirstTimer owner timers wires slot time
  first_timer within =
      at_time (get_or timers slot None) refl (sym (next_timer owner slot (get_or timers slot None)) ∙ ap next_key (sym (slots_at_timer owner timers wires slot within)) ∙ first_here.next)
    where
      at_time : (due : Option ℕ) → get_or timers slot None ≡ due → option_map (numbered_key owner.node slot) due ≡ Some found.0 → FirstTimer owner timers wires slot time
      at_time None set_at e = absurd (not_some e)
      at_time (Some t) set_at e =
          let same : t ≡ time = ap (λ (k : Key). k.time) (same_some (numbered_key owner.node slot t) found.0 e) ∙ found.1.1 in
          let set_for : get_or timers slot None ≡ Some time = set_at ∙ ap (λ n. Some n) same in
          record {
            least_is = first_here.same ∙ ap least (slots_at_timer owner timers wires slot within ∙ ap (timer_map owner slot) set_for) ∙ least_one (numbered_key owner.node slot time) (timer_event owner slot);
            set_for = set_for;
            rest = set_pending owner timers wires times is slot within None ∙ ap (λ (old : Option ℕ). apply (moved owner slot old None) (gathered (slots owner timers wires))) set_for;
          }

  pub first_wire : (j : ℕ) → length timers + j ≡ slot → FirstWire owner timers wires j
  first_wire j at =
      let there : map_at (slots owner timers wires) slot ≡ pending_on (wire_of_link wires j) = ap (map_at (slots owner timers wires)) (sym at) ∙ slots_at_wire owner timers wires j in
      let entry = next_some (least (pending_on (wire_of_link wires j))) found.0 (ap next_key (sym there) ∙ first_here.next) in
      let is_key = wire_key_at owner timers wires times is j found.0 (ap (rank_at (map next_key (slots owner timers wires))) at ∙ found.1.0.held) in
      record {
        within = is_key.within;
        key = found.0;
        event = entry.0;
        least_is = first_here.same ∙ ap least there;
        entry = entry.1;
        source = is_key.source;
        node_is = is_key.at_node;
      }

-- then the least key of all is the link's first
pub wire_key : (owner : Owner) (timers : List (Option ℕ)) (wires : List WireState) (j : ℕ) (first : FirstWire owner timers wires j) (key : Key) → next_key (gathered (slots owner timers wires)) ≡ Some key
    → (next_key (pending_on (wire_of_link wires j)) ≡ Some key) × (key.source ≡ (wire_of_link wires j).link + 1)
wire_key owner timers wires j first key next =
    let there : next_key (pending_on (wire_of_link wires j)) ≡ Some key = ap (option_map (λ (entry : Key × Event). entry.0)) (sym first.least_is) ∙ next in
    (there, ap (λ (k : Key). k.source) (sym (same_some first.key key (ap (option_map (λ (entry : Key × Event). entry.0)) (sym first.entry) ∙ there))) ∙ first.source)

-- a timer announces no arrival
pub timer_is_no_arrival : (owner : Owner) (i : ℕ) (packet : Packet) → timer_event owner i ≡ Arrive packet → ⊥
timer_is_no_arrival owner i packet = at (i == 0) (i == 1) (i == 2)
  where
    at : (a b c : Bool) → cond a (Start owner.flow) (cond b (Rto owner.flow) (cond c (DelAck owner.flow) (Free (get_or owner.exits (i - 3) 0)))) ≡ Arrive packet → ⊥
    at true b c e = cc
    at false true c e = cc
    at false false true e = cc
    at false false false e = cc

pub same_incoming : {link link' came came' : ℕ} → link ≡ link' → came ≡ came' → ◌≡◌ {A = Incoming} (record { link = link; came = came }) (record { link = link'; came = came' })
same_incoming e f i = record { link = e i; came = f i }

-- packets that join behind the others of a link join what is pending
pub joined_state : (owner : Owner) (timers : List (Option ℕ)) (wires : List WireState) (times : List (Option ℕ)) → IsEventQueue owner timers wires times → (j : ℕ) → j < length wires → (sent : List Stamped) (w : WireState)
    → w ≡ record (wire_of_link wires j) { under_way = (wire_of_link wires j).under_way ++ sent }
    → pending_on w ≡ apply (entering (arrivals (wire_of_link wires j).node (wire_of_link wires j).link (came_over (wire_of_link wires j)) sent)) (pending_on (wire_of_link wires j))
    → event_queue_state owner timers (set wires j w) ≡ come_over (event_queue_state owner timers wires) j sent
joined_state owner timers wires times is j within sent w same entered =
    let old = wire_of_link wires j in
    let over_is : incoming_at (map incoming_of wires) j ≡ incoming_of old = get_or-map incoming_of wires j no_wire_here in
    let longer : incoming_of w ≡ record { link = old.link; came = came_over old + length sent } =
    ap incoming_of same ∙ same_incoming refl (omega (arith, length-append old.under_way sent)) in
    same_event_queue owner refl
    (map-set incoming_of wires j w ∙ ap (set (map incoming_of wires) j) longer ∙ ap (λ (over : Incoming). set (map incoming_of wires) j (record over { came = over.came + length sent })) (sym over_is))
    (wire_pending owner timers wires times is j within w (ap (λ (x : WireState). x.node) same) (ap (λ (x : WireState). x.link) same) (entering (arrivals old.node old.link (came_over old) sent)) (entering_sources old.node old.link (came_over old) sent) entered
    ∙ ap (λ n. apply (entering (arrivals n old.link (came_over old) sent)) (gathered (slots owner timers wires))) (is.at_node j within)
    ∙ ap (λ (over : Incoming). apply (entering (arrivals owner.node over.link over.came sent)) (gathered (slots owner timers wires))) (sym over_is))

-- the timer of a slot that is due first is due, by its number
due_timer : (owner : Owner) (timers : List (Option ℕ)) (wires : List WireState) (slot time : ℕ) → slot < length timers → FirstTimer owner timers wires slot time → (a b c : Bool) → slot == 0 ≡ a → slot == 1 ≡ b → slot == 2 ≡ c
    → IsDueAs (event_queue_state owner timers wires) (numbered_key owner.node slot time) (cond a (Start owner.flow) (cond b (Rto owner.flow) (cond c (DelAck owner.flow) (Free (get_or owner.exits (slot - 3) 0)))))
due_timer owner timers wires slot time within first a b c is0 is1 is2 = go a b c is0 is1 is2
  where
    timer : (n : ℕ) → slot ≡ n → IsTimer (event_queue_state owner timers wires) (numbered_key owner.node slot time) n
    timer n same = record { source = refl; number_is = same; within = omega (arith, within, same); set_for = ap (λ i. get_or timers i None) (sym same) ∙ first.set_for }

    go : (a b c : Bool) → slot == 0 ≡ a → slot == 1 ≡ b → slot == 2 ≡ c
        → IsDueAs (event_queue_state owner timers wires) (numbered_key owner.node slot time) (cond a (Start owner.flow) (cond b (Rto owner.flow) (cond c (DelAck owner.flow) (Free (get_or owner.exits (slot - 3) 0)))))
    go true b c is0 is1 is2 = timer 0 (eqb-true slot 0 is0)
    go false true c is0 is1 is2 = timer 1 (eqb-true slot 1 is1)
    go false false true is0 is1 is2 = timer 2 (eqb-true slot 2 is2)
    go false false false is0 is1 is2 = (omega (arith, eqb-false slot 0 is0, eqb-false slot 1 is1, eqb-false slot 2 is2), timer slot refl)

pub timer_is_due : (owner : Owner) (timers : List (Option ℕ)) (wires : List WireState) (slot time : ℕ) → slot < length timers → FirstTimer owner timers wires slot time
    → IsDue (event_queue_state owner timers wires) (numbered_key owner.node slot time) (timer_event owner slot)
timer_is_due owner timers wires slot time within first = record { at_node = refl; due = due_timer owner timers wires slot time within first (slot == 0) (slot == 1) (slot == 2) refl refl refl }

pub wire_is_due : (owner : Owner) (timers : List (Option ℕ)) (wires : List WireState) (j : ℕ) (first : FirstWire owner timers wires j) → IsDue (event_queue_state owner timers wires) first.key first.event
wire_is_due owner timers wires j first = record {
  at_node = first.node_is;
  due = subst (IsDueAs (event_queue_state owner timers wires) first.key) (sym (all_arrive (wire_of_link wires j) first.key first.event (least_is (pending_on (wire_of_link wires j)) first.key first.event first.entry).pending).1)
      (λ zero. omega (arith, zero, first.source));
}
