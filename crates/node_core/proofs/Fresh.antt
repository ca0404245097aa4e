-- An event queue with nothing pending.
use Rattle.std.proofs.Common.{◌≡◌, ℕ, ◌+◌, ◌-◌, ◌<◌, ◌≤◌, ◌∷◌, [], List, length, map, replicate, refl, sym, ap, subst, ◌∙◌, None, Option, ⊎_elim, arith}
use Rattle.std.proofs.lemmas.Bool.{cases_lt}
use Rattle.std.proofs.lemmas.List.{get_or-replicate, length-replicate, length-map, get_or-map, ext_get_or}
use Rattle.std.proofs.Math.ListN.{get_or-eq_default}
use Rattle.std.specs.List.Sorted.{IsStrictlyIncreasing}
use Rattle.sim_time.specs.declared.key.Key.{Key}
use Rattle.tournament.specs.Keyed.{next_key, nothing_due}
use Rattle.tournament.specs.Gathered.{map_at}
use Rattle.tournament.specs.Timed.{time_of, times_of}
use Rattle.tournament.proofs.Timed.{time-at}
use Rattle.tournament.proofs.Gathered.{none-gathered, rank-next, next_empty}
use Rattle.node_core.specs.declared.event.Event.{Event}
use Rattle.node_core.specs.WireState.{WireState, pending_on}
use Rattle.node_core.specs.EventQueueState.{Owner, timer_map, slots, event_queue_state, no_wire_here, wire_of_link, fresh_wire, fresh_event_queue, incoming_of, IsEventQueue}
use Rattle.node_core.proofs.Slots.{length-slots, slots_at_timer, slots_at_wire, same_event_queue}

fresh_links : (node : ℕ) (links : List ℕ) → map (λ (w : WireState). w.link) (map (fresh_wire node) links) ≡ links
fresh_links node [] = refl
fresh_links node (l ∷ links) = ap (λ ls. l ∷ ls) (fresh_links node links)

fresh_incoming : (node : ℕ) (links : List ℕ) → map incoming_of (map (fresh_wire node) links) ≡ map (λ (link : ℕ). record { link = link; came = 0 }) links
fresh_incoming node [] = refl
fresh_incoming node (l ∷ links) = ap (λ ls. record { link = l; came = 0 } ∷ ls) (fresh_incoming node links)

module _ (owner : Owner) (links : List ℕ) where
  abbrev timers : ℕ
  timers = 3 + length owner.exits

  abbrev none_set : List (Option ℕ)
  none_set = replicate timers None

  abbrev wires : List WireState
  wires = map (fresh_wire owner.node) links

  none_on : (j : ℕ) → pending_on (wire_of_link wires j) ≡ nothing_due Event
  none_on j =
      ⊎_elim
      (λ (within : j < length links). ap pending_on (get_or-map (fresh_wire owner.node) links j 0 no_wire_here within))
      (λ (past : length links ≤ j). ap pending_on (get_or-eq_default wires no_wire_here (omega (arith, past, length-map links (fresh_wire owner.node)))))
      (cases_lt j (length links))

  none_at : (i : ℕ) → map_at (slots owner none_set wires) i ≡ nothing_due Event
  none_at i =
      ⊎_elim
      (λ (timer : i < timers).
      slots_at_timer owner none_set wires i (omega (arith, timer, length-replicate {A = Option ℕ} timers None))
      ∙ ap (timer_map owner i) (get_or-replicate {A = Option ℕ} timers i None None timer))
      (λ (wire : timers ≤ i).
      ap (map_at (slots owner none_set wires)) {x = i} {y = length none_set + (i - timers)} (omega (arith, wire, length-replicate {A = Option ℕ} timers None))
      ∙ slots_at_wire owner none_set wires (i - timers) ∙ none_on (i - timers))
      (cases_lt i timers)

  length_all : length (slots owner none_set wires) ≡ timers + length links
  length_all = length-slots owner none_set wires ∙ omega (arith, length-replicate {A = Option ℕ} timers None, length-map links (fresh_wire owner.node))

  abbrev ranks : List (Option Key)
  ranks = map next_key (slots owner none_set wires)

  pub fresh_state : event_queue_state owner none_set wires ≡ fresh_event_queue owner links
  fresh_state = same_event_queue owner refl (fresh_incoming owner.node links) (none-gathered (slots owner none_set wires) none_at)

  pub fresh_is : IsStrictlyIncreasing links → IsEventQueue owner none_set wires (replicate (timers + length links) None)
  fresh_is rising = record {
    ranked = ext_get_or None (replicate (timers + length links) None) (times_of ranks)
        (length-replicate {A = Option ℕ} (timers + length links) None ∙ sym (length-map ranks time_of ∙ length-map (slots owner none_set wires) next_key ∙ length_all))
        (λ i under. get_or-replicate {A = Option ℕ} (timers + length links) i None None (omega (arith, under, length-replicate {A = Option ℕ} (timers + length links) None))
        ∙ sym (time-at ranks i ∙ ap time_of (rank-next (slots owner none_set wires) i ∙ ap next_key (none_at i) ∙ next_empty Event)));
    rising = subst IsStrictlyIncreasing (sym (fresh_links owner.node links)) rising;
    at_node = λ j under. ap (λ (w : WireState). w.node) (get_or-map (fresh_wire owner.node) links j 0 no_wire_here (omega (arith, under, length-map links (fresh_wire owner.node))));
  }
