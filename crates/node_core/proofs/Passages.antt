-- What passing a link does to the event queue.
use Rattle.std.proofs.Common.{◌≡◌, ℕ, ◌+◌, ◌-◌, ◌==◌, Bool, true, false, cond, List, [], ◌∷◌, ◌++◌, get_or, set, Option, Some, None, refl, sym, ap, ◌∙◌, arith}
use Rattle.std.specs.Option.{option_map, option_or}
use Rattle.std.proofs.lemmas.Bool.{ne_eqb}
use Rattle.std.proofs.lemmas.List.{set-get_or}
use Rattle.packet_chain.specs.declared.packet.Packet.{Packet}
use Rattle.packet_chain.specs.Stamped.{Stamped}
use Rattle.tournament.specs.Keyed.{apply}
use Rattle.aqm.specs.Queue.{taken_from}
use Rattle.port.specs.Port.{PortState, PortStep, Departure, begun, taken, with_packet, offered_one, offered_all}
use Rattle.port.proofs.Cases.{counted_one, after_tests, offered_by_case}
use Rattle.port.proofs.StepLaws.{one_counts, taken_counts, busy_link_begins_nothing}
use Rattle.node_core.specs.declared.event.Event.{Event}
use Rattle.node_core.specs.declared.event.Event.TheVariants.{Start, Rto, DelAck, Free}
use Rattle.node_core.specs.Pending.{EventChange}
use Rattle.node_core.specs.Timers.{numbered_key, timer_cleared, timer_set}
use Rattle.node_core.specs.Passing.{busied, passed}
use Rattle.node_core.specs.EventQueueState.{Owner, EventQueueState, timer_event}
use Rattle.node_core.proofs.Slots.{same_event_queue}

abbrev pub free_of : Option Departure → Option ℕ
free_of = option_map (λ (d : Departure). d.free)

begun_free : (now : ℕ) (port : PortState) (given : Option Stamped) → (begun now port given).port.next_free ≡ free_of (begun now port given).departure
begun_free now port None = refl
begun_free now port (Some cell) = refl

-- a link that has taken is free when what departs is out
pub taken_free : (now : ℕ) (port : PortState) → (taken now port).port.next_free ≡ free_of (taken now port).departure
taken_free now port = let take = taken_from port.queue now in begun_free now (record port { queue = take.queue }) take.given

one_free : (now : ℕ) (port : PortState) (packet : Packet) → port.next_free ≡ None → (offered_one now port packet).port.next_free ≡ free_of (offered_one now port packet).departure
one_free now port packet none = offered_by_case (λ step. step.port.next_free ≡ free_of step.departure) now port packet (λ idle is lost full _. go idle lost full)
  where
    go : (idle lost full : Bool) → let step = after_tests now (counted_one port) packet lost full idle in step.port.next_free ≡ free_of step.departure
    go idle true full = none
    go idle false true = none
    go false false false = none
    go true false false = taken_free now (with_packet now (counted_one port) packet)

-- so is an idle link to which packets were offered
pub all_free : (now : ℕ) (port : PortState) (packets : List Packet) → port.next_free ≡ None → (offered_all now port packets).port.next_free ≡ free_of (offered_all now port packets).departure
all_free now port [] none = none
all_free now port (packet ∷ packets) none =
    let first = offered_one now port packet in
    let others = offered_all now first.port packets in
    let free = one_free now port packet none in
    let rest : first.port.next_free ≡ None → others.port.next_free ≡ free_of others.departure = λ idle. all_free now first.port packets idle in
    elim first.departure as (λ d. first.departure ≡ d → others.port.next_free ≡ free_of (option_or d others.departure)) [
      | None ↦ λ e. rest (free ∙ ap free_of e)
      | Some d ↦ λ e. (busy_link_begins_nothing now d.free first.port packets (free ∙ ap free_of e)).1
    ] refl

pub all_link : (now : ℕ) (port : PortState) (packets : List Packet) → (offered_all now port packets).port.link ≡ port.link
all_link now port [] = refl
all_link now port (packet ∷ packets) = all_link now (offered_one now port packet).port packets ∙ (one_counts now port packet).link

pub taken_link : (now : ℕ) (port : PortState) → (taken now port).port.link ≡ port.link
taken_link now port = (taken_counts now port).link

-- a link that stays as long busy leaves the event queue as it was
pub passed_busy : (event_queue : EventQueueState) (index : ℕ) (step : PortStep) → get_or event_queue.timers (3 + index) None ≡ step.port.next_free → step.departure ≡ None → event_queue ≡ passed event_queue index step
passed_busy event_queue index step timer none =
    same_event_queue event_queue.owner (sym (ap (set event_queue.timers (3 + index)) (sym timer) ∙ set-get_or event_queue.timers (3 + index) None)) refl (ap (λ d. apply (busied event_queue.owner.node index step.port.link d) event_queue.pending) (sym none))

free_event : (owner : Owner) (index : ℕ) → timer_event owner (3 + index) ≡ Free (get_or owner.exits index 0)
free_event owner index =
    let n = 3 + index in
    ap (λ b. cond b (Start owner.flow) (cond (n == 1) (Rto owner.flow) (cond (n == 2) (DelAck owner.flow) (Free (get_or owner.exits (n - 3) 0))))) (ne_eqb n 0 (λ e. omega (arith, e)))
    ∙ ap (λ b. cond b (Rto owner.flow) (cond (n == 2) (DelAck owner.flow) (Free (get_or owner.exits (n - 3) 0)))) (ne_eqb n 1 (λ e. omega (arith, e)))
    ∙ ap (λ b. cond b (DelAck owner.flow) (Free (get_or owner.exits (n - 3) 0))) (ne_eqb n 2 (λ e. omega (arith, e)))
    ∙ ap (λ i. Free (get_or owner.exits i 0)) {x = n - 3} {y = index} (omega arith)

set_is_busied : (owner : Owner) (index link : ℕ) (d : Option Departure) → get_or owner.exits index 0 ≡ link → timer_set (numbered_key owner.node (3 + index)) (timer_event owner (3 + index)) (free_of d) ≡ busied owner.node index link d
set_is_busied owner index link None exit = refl
set_is_busied owner index link (Some d) exit = ap (λ (event : Event). (numbered_key owner.node (3 + index) d.free, Some event) ∷ []) (free_event owner index ∙ ap (λ l. Free l) exit)

-- an idle link's timer is set to when it is free
pub passed_idle : (event_queue : EventQueueState) (index : ℕ) (step : PortStep) → get_or event_queue.timers (3 + index) None ≡ None → get_or event_queue.owner.exits index 0 ≡ step.port.link → step.port.next_free ≡ free_of step.departure → (time : Option ℕ) → time ≡ step.port.next_free
    → record event_queue {
      timers = set event_queue.timers (3 + index) time;
      pending = apply (timer_cleared (numbered_key event_queue.owner.node (3 + index)) (get_or event_queue.timers (3 + index) None) ++ timer_set (numbered_key event_queue.owner.node (3 + index)) (timer_event event_queue.owner (3 + index)) time) event_queue.pending;
    } ≡ passed event_queue index step
passed_idle event_queue index step timer exit free time is =
    same_event_queue event_queue.owner (ap (set event_queue.timers (3 + index)) is) refl
    (ap (λ old. apply (timer_cleared (numbered_key event_queue.owner.node (3 + index)) old ++ timer_set (numbered_key event_queue.owner.node (3 + index)) (timer_event event_queue.owner (3 + index)) time) event_queue.pending) timer
    ∙ ap (λ t. apply (timer_set (numbered_key event_queue.owner.node (3 + index)) (timer_event event_queue.owner (3 + index)) t) event_queue.pending) (is ∙ free)
    ∙ ap (λ (cs : List EventChange). apply cs event_queue.pending) (set_is_busied event_queue.owner index step.port.link step.departure exit))
