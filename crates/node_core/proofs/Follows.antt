-- What follows at the event queue and outside once packets have passed a link.
use Rattle.std.proofs.Common.{◌≡◌, ℕ, suc, ◌+◌, ◌<◌, Bool, cond, List, [], ◌∷◌, ◌++◌, get_or, set, length, Option, Some, None, refl, sym, ap, ◌∙◌, arith}
use Rattle.std.specs.Prelude.{is_some}
use Rattle.std.specs.Option.{option_map}
use Rattle.std.proofs.lemmas.List.{get_or-set_same, get_or-set_other, length-map}
use Rattle.std.proofs.Math.ListN.{get_or-map}
use Rattle.sim_time.specs.declared.key.Key.{Key}
use Rattle.packet_chain.specs.declared.packet.Packet.{Packet}
use Rattle.packet_chain.specs.Stamped.{Stamped}
use Rattle.port.specs.declared.acts.Act.{Act}
use Rattle.port.specs.Port.{PortState, PortStep, Departure, departed, offered_all, taken}
use Rattle.port.proofs.StepLaws.{busy_link_begins_nothing}
use Rattle.node_core.specs.declared.timer.Timer.{Timer}
use Rattle.node_core.specs.declared.event.Event.{Event}
use Rattle.node_core.specs.declared.event.Event.TheVariants.{Start, Rto, DelAck, Free, Arrive}
use Rattle.node_core.specs.Decided.{CanMove}
use Rattle.node_core.specs.EventQueueState.{EventQueueState, IsTimer, IsDueAs, cleared}
use Rattle.node_core.specs.CarriedOut.{IsNextEvent, HasPassed}
use Rattle.node_core.specs.InStep.{frees_of}
use Rattle.node_core.specs.Part.{LinkState, link_at, no_link}
use Rattle.node_core.specs.Passing.{passed, after_take, moved_to}
use Rattle.node_core.specs.Row.{Leaving, leaving_over}
use Rattle.node_core.proofs.Passages.{free_of, taken_free, taken_link, all_free, all_link, passed_busy, passed_idle}
use Rattle.node_core.proofs.Slots.{cleared_timer}
use Rattle.node_core.proofs.Steps.{put_is, cleared_other}

abbrev pub index_left : ℕ → Option Departure → Option ℕ
index_left index departure = option_map (λ (leaving : Leaving). leaving.index) (leaving_over index departure)

over_free : (index : ℕ) (d : Option Departure) → option_map (λ (time : ℕ). index) (free_of d) ≡ index_left index d
over_free index None = refl
over_free index (Some d) = refl

-- packets were offered: the link's timer is set where it was idle
pub offered_follows : (event_queue after : EventQueueState) (index now : ℕ) (old : PortState) (packets : List Packet) (was : Bool) (free : Option ℕ)
    → get_or event_queue.timers (3 + index) None ≡ old.next_free → get_or event_queue.owner.exits index 0 ≡ old.link → was ≡ is_some old.next_free → free ≡ (offered_all now old packets).port.next_free
    → after ≡ cond was event_queue (moved_to event_queue (3 + index) free) → after ≡ passed event_queue index (offered_all now old packets)
offered_follows event_queue after index now old packets was free timer exit was_is free_is after_is =
    elim old.next_free as (λ o. old.next_free ≡ o → after ≡ passed event_queue index (offered_all now old packets)) [
      | None ↦ λ idle.
          after_is ∙ ap (λ b. cond b event_queue (moved_to event_queue (3 + index) free)) (was_is ∙ ap is_some idle)
          ∙ passed_idle event_queue index (offered_all now old packets) (timer ∙ idle) (exit ∙ sym (all_link now old packets)) (all_free now old packets idle) free free_is
      | Some t ↦ λ busy.
          after_is ∙ ap (λ b. cond b event_queue (moved_to event_queue (3 + index) free)) (was_is ∙ ap is_some busy)
          ∙ passed_busy event_queue index (offered_all now old packets) (timer ∙ busy ∙ sym (busy_link_begins_nothing now t old packets busy).1) (busy_link_begins_nothing now t old packets busy).0
    ] refl

pub offered_left : (index now : ℕ) (old : PortState) (packets : List Packet) (was : Bool) (free left : Option ℕ)
    → was ≡ is_some old.next_free → free ≡ (offered_all now old packets).port.next_free
    → left ≡ cond was None (option_map (λ (time : ℕ). index) free) → left ≡ index_left index (offered_all now old packets).departure
offered_left index now old packets was free left was_is free_is left_is =
    elim old.next_free as (λ o. old.next_free ≡ o → left ≡ index_left index (offered_all now old packets).departure) [
      | None ↦ λ idle.
          left_is ∙ ap (λ b. cond b None (option_map (λ (time : ℕ). index) free)) (was_is ∙ ap is_some idle)
          ∙ ap (option_map (λ (time : ℕ). index)) (free_is ∙ all_free now old packets idle) ∙ over_free index (offered_all now old packets).departure
      | Some t ↦ λ busy.
          left_is ∙ ap (λ b. cond b None (option_map (λ (time : ℕ). index) free)) (was_is ∙ ap is_some busy) ∙ ap (index_left index) (sym (busy_link_begins_nothing now t old packets busy).0)
    ] refl

-- the link took from its queue, and its timer is set anew
pub taken_follows : (event_queue after : EventQueueState) (key : Key) (index : ℕ) (old : PortState) (free : Option ℕ)
    → IsTimer event_queue key (3 + index) → get_or event_queue.owner.exits index 0 ≡ old.link → free ≡ (taken key.time old).port.next_free
    → after ≡ moved_to (after_take event_queue key) (3 + index) free → after ≡ passed (after_take event_queue key) index (taken key.time old)
taken_follows event_queue after key index old free own exit free_is after_is =
    let gone : get_or (cleared key event_queue.timers) (3 + index) None ≡ None =
    ap (λ a. get_or a (3 + index) None) (cleared_timer key event_queue.timers (3 + index) own.source own.number_is) ∙ get_or-set_same event_queue.timers (3 + index) None None own.within in
    after_is ∙ passed_idle (after_take event_queue key) index (taken key.time old) gone (exit ∙ sym (taken_link key.time old)) (taken_free key.time old) free free_is

pub taken_left : (index now : ℕ) (old : PortState) (free left : Option ℕ) → free ≡ (taken now old).port.next_free → left ≡ option_map (λ (time : ℕ). index) free → left ≡ index_left index (taken now old).departure
taken_left index now old free left free_is left_is = left_is ∙ ap (option_map (λ (time : ℕ). index)) (free_is ∙ taken_free now old) ∙ over_free index (taken now old).departure

-- what was done to a link, its chain and the event queue, as packets that have passed
pub has_passed : (index : ℕ) (step_at : PortState → PortStep) (links : List LinkState) (link new : LinkState) (middle after : EventQueueState) (chains : List (List Stamped)) (chain filled : List Stamped) (before done : List Act) (left : Option ℕ)
    → link ≡ link_at links index → new ≡ record link { port = (step_at link.port).port } → chain ≡ get_or chains index [] → filled ≡ chain ++ departed (step_at link.port).departure → done ≡ before ++ (step_at link.port).acts
    → after ≡ passed middle index (step_at link.port) → left ≡ index_left index (step_at link.port).departure
    → HasPassed index (step_at (link_at links index).port) links (set links index new) middle after chains (set chains index filled) before done left
has_passed index step_at links link new middle after chains chain filled before done left link_is new_is chain_is filled_is done_is after_is left_is = record {
  links_are = ap (set links index) (new_is ∙ ap (λ (l : LinkState). record l { port = (step_at l.port).port }) link_is);
  event_queue_is = after_is ∙ ap (λ (l : LinkState). passed middle index (step_at l.port)) link_is;
  out_is = ap (set chains index) (filled_is ∙ ap (λ (c : List Stamped). c ++ departed (step_at link.port).departure) chain_is ∙ ap (λ (l : LinkState). get_or chains index [] ++ departed (step_at l.port).departure) link_is)
      ∙ put_is chains index (step_at (link_at links index).port).departure;
  acts_are = done_is ∙ ap (λ (l : LinkState). before ++ (step_at l.port).acts) link_is;
  left_is = left_is ∙ ap (λ (l : LinkState). index_left index (step_at l.port).departure) link_is;
}

-- as an end's event leaves, the timer of its link stays
pub link_timer_stays : (event_queue : EventQueueState) (key : Key) (event : Event) (timer : Timer) → IsDueAs event_queue key event → CanMove timer event → get_or (cleared key event_queue.timers) 3 None ≡ get_or event_queue.timers 3 None
link_timer_stays event_queue key (Start flow) timer due can = ap (λ a. get_or a 3 None) (cleared_timer key event_queue.timers 0 due.source due.number_is) ∙ get_or-set_other event_queue.timers 0 3 None None (λ e. omega (arith, e))
link_timer_stays event_queue key (Rto flow) timer due can = ap (λ a. get_or a 3 None) (cleared_timer key event_queue.timers 1 due.source due.number_is) ∙ get_or-set_other event_queue.timers 1 3 None None (λ e. omega (arith, e))
link_timer_stays event_queue key (DelAck flow) timer due can = ap (λ a. get_or a 3 None) (cleared_timer key event_queue.timers 2 due.source due.number_is) ∙ get_or-set_other event_queue.timers 2 3 None None (λ e. omega (arith, e))
link_timer_stays event_queue key (Free link) timer due can = absurd can
link_timer_stays event_queue key (Arrive packet) timer due can = ap (λ a. get_or a 3 None) (cleared_other key event_queue.timers due)

-- and so it does as its timer moves
pub rto_timer_apart : (event_queue : EventQueueState) (timer : ℕ) (time : Option ℕ) → timer < 3 → get_or (moved_to event_queue timer time).timers 3 None ≡ get_or event_queue.timers 3 None
rto_timer_apart event_queue timer time less = get_or-set_other event_queue.timers timer 3 time None (λ e. omega (arith, e, less))

-- the timer of a link is when it is free
pub next_timer : (key : Key) (event : Event) (links : List LinkState) (event_queue : EventQueueState) (chains : List (List Stamped)) → IsNextEvent key event links event_queue chains → (index : ℕ) → get_or event_queue.timers (3 + index) None ≡ (link_at links index).port.next_free
next_timer key event links event_queue chains next index =
    ap (λ (a : List (Option ℕ)). get_or a (3 + index) None) next.timers
    ∙ ap (λ n. get_or (get_or event_queue.timers 0 None ∷ get_or event_queue.timers 1 None ∷ get_or event_queue.timers 2 None ∷ frees_of links) n None) {x = 3 + index} {y = suc (suc (suc index))} (omega arith)
    ∙ get_or-map (λ (l : LinkState). l.port.next_free) links index no_link

-- and each link has one
pub next_within : (key : Key) (event : Event) (links : List LinkState) (event_queue : EventQueueState) (chains : List (List Stamped)) → IsNextEvent key event links event_queue chains → (index : ℕ) → index < length links → 3 + index < length event_queue.timers
next_within key event links event_queue chains next index within = omega (arith, ap length next.timers, length-map links (λ (l : LinkState). l.port.next_free), within)

pub next_exit : (key : Key) (event : Event) (links : List LinkState) (event_queue : EventQueueState) (chains : List (List Stamped)) → IsNextEvent key event links event_queue chains → (index : ℕ) → get_or event_queue.owner.exits index 0 ≡ (link_at links index).port.link
next_exit key event links event_queue chains next index = ap (λ (e : List ℕ). get_or e index 0) next.exits ∙ get_or-map (λ (l : LinkState). l.port.link) links index no_link
