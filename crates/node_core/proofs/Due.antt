-- What is known of a node's least event.
use Rattle.std.proofs.Common.{◌≡◌, ℕ, ◌<◌, ◌≤◌, List, ◌∷◌, get_or, length, Option, Some, None, refl, sym, ap, subst, ◌∙◌, arith}
use Rattle.std.specs.Prelude.{All, IsSome}
use Rattle.std.specs.Option.{option_map}
use Rattle.std.proofs.lemmas.List.{length-map}
use Rattle.sim_time.specs.declared.key.Key.{Key}
use Rattle.sim_time.specs.declared.limits.TheConstants.{MOST_EVENTS}
use Rattle.packet_chain.specs.Stamped.{Stamped}
use Rattle.tournament.specs.Keyed.{least}
use Rattle.node_core.specs.declared.event.Event.{Event}
use Rattle.node_core.specs.declared.event.Event.TheVariants.{Start, Rto, DelAck, Free, Arrive}
use Rattle.node_core.specs.declared.role.Role.{Role}
use Rattle.node_core.specs.EventQueueState.{EventQueueState, IsDue, IsDueAs}
use Rattle.node_core.specs.CarriedOut.{IsNextEvent}
use Rattle.node_core.specs.InStep.{IsInStep, rto_deadline, delayed_of, frees_of}
use Rattle.node_core.specs.Part.{LinkState}
use Rattle.node_core.specs.Ready.{IsRunnable, IsOfLink, IsSetBy}
use Rattle.node_core.specs.Running.{part}

pub is_next : (role : Role) (links : List LinkState) (event_queue : EventQueueState) (chains : List (List Stamped)) (key : Key) (event : Event) → IsInStep role links event_queue → IsDue event_queue key event → IsRunnable (part role links) key event
    → least event_queue.pending ≡ Some (key, event) → length links ≤ length chains → All (λ chain. length chain < MOST_EVENTS) chains → IsNextEvent key event links event_queue chains
is_next role links event_queue chains key event is due can least_is chained room = record {
  moment = can.moment;
  is_least = least_is;
  next = ap (option_map (λ (entry : Key × Event). entry.0)) least_is;
  at_node = due.at_node;
  due = due.due;
  timers = is.timers
      ∙ ap (λ t. get_or event_queue.timers 0 None ∷ t ∷ delayed_of role ∷ frees_of links) (sym (ap (λ (a : List (Option ℕ)). get_or a 1 None) is.timers))
      ∙ ap (λ t. get_or event_queue.timers 0 None ∷ get_or event_queue.timers 1 None ∷ t ∷ frees_of links) (sym (ap (λ (a : List (Option ℕ)). get_or a 2 None) is.timers));
  exits = is.exits;
  few = is.few;
  can = can.links;
  chained = chained;
  room = room;
}

some_time : (o : Option ℕ) (time : ℕ) → o ≡ Some time → IsSome o
some_time o time is = subst (λ (q : Option ℕ). IsSome q) (sym is) refl

pub set_by : (role : Role) (links : List LinkState) (event_queue : EventQueueState) (key : Key) (event : Event) → IsInStep role links event_queue → IsDueAs event_queue key event → IsSetBy role event
set_by role links event_queue key (Start flow) is due = tt
set_by role links event_queue key (Rto flow) is due = some_time (rto_deadline role) key.time (sym (ap (λ (a : List (Option ℕ)). get_or a 1 None) is.timers) ∙ due.set_for)
set_by role links event_queue key (DelAck flow) is due = some_time (delayed_of role) key.time (sym (ap (λ (a : List (Option ℕ)). get_or a 2 None) is.timers) ∙ due.set_for)
set_by role links event_queue key (Free link) is due = tt
set_by role links event_queue key (Arrive packet) is due = tt

pub of_link : (role : Role) (links : List LinkState) (event_queue : EventQueueState) (key : Key) (event : Event) → IsInStep role links event_queue → IsDueAs event_queue key event → IsOfLink key.number (length links) event
of_link role links event_queue key (Start flow) is due = tt
of_link role links event_queue key (Rto flow) is due = tt
of_link role links event_queue key (DelAck flow) is due = tt
of_link role links event_queue key (Free link) is due = (due.0, omega (arith, due.1.within, ap length is.timers, length-map links (λ (l : LinkState). l.port.next_free)))
of_link role links event_queue key (Arrive packet) is due = tt
