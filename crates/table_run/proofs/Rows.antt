-- What every row keeps: what is to be known of a row, so that a sound state stays sound.
use Rattle.std.proofs.Common.{◌≡◌, ◌≢◌, ℕ, ◌+◌, ◌*◌, ◌<◌, ◌≤◌, length, sym, ap, ◌∙◌, Option, Some, None, arith, inl, inr, ◌⊎◌, ⊎_elim}
use Rattle.std.specs.List.{slice_get}
use Rattle.std.specs.Option.{unwrap_or}
use Rattle.sim_time.specs.declared.key.Key.{Key}
use Rattle.packet_chain.specs.declared.packet.Packet.{Packet}
use Rattle.packet_chain.specs.declared.packet.Kind.{Kind}
use Rattle.packet_chain.specs.declared.packet.Kind.TheVariants.{Data, Ack}
use Rattle.scenario_image.specs.declared.parts.NodeKind.TheVariants.{Router}
use Rattle.scenario_image.specs.declared.parts.FlowPart.{FlowPart}
use Rattle.scenario_image.specs.declared.parts.ScenarioParts.{ScenarioParts}
use Rattle.port.specs.Port.{PortState, Departure}
use Rattle.node_core.specs.declared.timer.Timer.{Timer}
use Rattle.node_core.specs.declared.timer.Timer.TheVariants.{Retransmission, DelayedAcknowledgement, Free as BecomesFree}
use Rattle.node_core.specs.declared.event.Event.{Event}
use Rattle.node_core.specs.declared.event.Event.TheVariants.{Start, Rto, DelAck, Arrive}
use Rattle.node_core.specs.Timers.{timer_key, timer_number}
use Rattle.table_run.specs.State.{State, part_at}
use Rattle.table_run.specs.Flow.{sent_high, received_next, deadline_of, timer_of, IsAnswerable, Carries, IsUnderWay, IsSoundFlow}
use Rattle.table_run.specs.Sound.{Belongs}
use Rattle.table_run.specs.Laws.{IsDueSoon, RoleRises}
use Rattle.tournament.proofs.Maps.{not_some}
use Rattle.table_run.proofs.PortMoves.{Outcome, PortMoves}
use Rattle.table_run.proofs.Moved.{Shape, link_before}

-- what holds of each flow with its number
abbrev pub EachFlow : ScenarioParts → (ℕ → FlowPart → Type 0) → Type 0
EachFlow p P = (number : ℕ) (flow : FlowPart) → slice_get p.flows number ≡ Some flow → P number flow

-- a flow's numbers don't fall
pub record FlowRises (s t : State) (flow : FlowPart) : Type 0 where
  pub high : sent_high s flow ≤ sent_high t flow
  pub next : received_next s flow ≤ received_next t flow

-- a link to which a packet is offered: the event isn't that of a link
pub record IsOffered (s : State) (k : Key) (r : Shape) (before : Option ℕ) : Type 0 where
  pub same : before ≡ (link_before s k r).port.next_free
  pub not_free : (node index time : ℕ) → timer_key node (BecomesFree index) time ≢ k

-- a link that becomes free by the event
pub record IsFreed (s : State) (k : Key) (r : Shape) (before : Option ℕ) : Type 0 where
  pub idle : before ≡ None
  pub was : (link_before s k r).port.next_free ≡ Some k.time
  pub is_key : k ≡ timer_key k.node (BecomesFree r.index) k.time

-- a timer that the event has nothing to do with
pub record RtoTimerStays (k : Key) (r : Shape) (node : ℕ) (timer : Timer) (before after : Option ℕ) : Type 0 where
  pub same : after ≡ before
  pub not_due : (time : ℕ) → timer_key node timer time ≢ k
  pub not_old : (time u : ℕ) → r.old ≡ Some u → timer_key node timer time ≢ timer_key k.node r.timer u
  pub not_new : (time u : ℕ) → r.new ≡ Some u → timer_key node timer time ≢ timer_key k.node r.timer u

-- the timer that the event moves
pub record RtoTimerMoves (k : Key) (r : Shape) (node : ℕ) (timer : Timer) (event : Event) (before after : Option ℕ) : Type 0 where
  pub at_node : node ≡ k.node
  pub is_timer : timer ≡ r.timer
  pub is_event : event ≡ r.event
  pub was : before ≡ r.old
  pub is_now : after ≡ r.new

abbrev pub TimerChanges : Key → Shape → ℕ → Timer → Event → Option ℕ → Option ℕ → Type 0
TimerChanges k r node timer event before after = RtoTimerStays k r node timer before after ⊎ RtoTimerMoves k r node timer event before after

-- what is known of a row, done at a moment: what the flows are after it, what was done at the link, which timer moved
pub record IsRow (p : ScenarioParts) (s : State) (k : Key) (v : Event) (r : Shape) (t : State) : Type 0 where
  pub within : r.index < length (part_at s k.node).links
  pub timer_least : 1 ≤ timer_number r.timer
  pub timer_most : timer_number r.timer ≤ 2
  pub not_arrival : (x : Packet) → r.event ≢ Arrive x
  pub count : ℕ
  pub few : count ≤ 2147483648
  pub before : Option ℕ
  pub entered : IsOffered s k r before ⊎ IsFreed s k r before
  pub moves : PortMoves (IsUnderWay p t (link_before s k r).port.link) k.time count before (link_before s k r).port r.step
  pub flows : EachFlow p (λ number flow. IsSoundFlow t k.time number flow)
  pub rises : EachFlow p (λ _ flow. FlowRises s t flow)
  pub unsent : EachFlow p (λ number flow. sent_high s flow ≡ 0 → v ≢ Start number → sent_high t flow ≡ 0)
  pub routers : (node : ℕ) → slice_get p.nodes node ≡ Some Router → (part_at t node).role ≡ (part_at s node).role
  pub role_rises : RoleRises (part_at s k.node).role r.role
  pub rto_timers : EachFlow p (λ number flow. TimerChanges k r flow.sender Retransmission (Rto number) (deadline_of (part_at s flow.sender).role) (deadline_of (part_at t flow.sender).role))
  pub delayed : EachFlow p (λ number flow. TimerChanges k r flow.receiver DelayedAcknowledgement (DelAck number) (timer_of (part_at s flow.receiver).role) (timer_of (part_at t flow.receiver).role))
  pub new_soon : (u : ℕ) → r.new ≡ Some u → IsDueSoon k.time (timer_key k.node r.timer u)
  pub new_belongs : (u : ℕ) → r.new ≡ Some u → Belongs p t k.time (timer_key k.node r.timer u) r.event

-- a packet stays right as its flow goes on
pub answers_on : (mss high more next : ℕ) → high ≤ more → IsAnswerable mss high next → IsAnswerable mss more next
answers_on mss high more next rises h = ⊎_elim (λ (a : mss ≤ next). inl a) (λ (b : 2 * mss ≤ high). inr (omega (arith, b, rises))) h

pub carries_on : (flow : FlowPart) (high more next later : ℕ) (kind : Kind) (x : Packet) → high ≤ more → next ≤ later → Carries flow high next kind x → Carries flow more later kind x
carries_on flow high more next later Data x up on h = record { bytes_are = h.bytes_are; multiple = h.multiple; by_high = (let by = h.by_high in omega (arith, by, up)) }
carries_on flow high more next later Ack x up on h = record { bytes_are = h.bytes_are; multiple = h.multiple; by_next = (let by = h.by_next in omega (arith, by, on)); early = answers_on flow.mss high more x.number up h.early }

pub under_way_on : (p : ScenarioParts) (s t : State) → EachFlow p (λ _ flow. FlowRises s t flow) → (link : ℕ) (x : Packet) → IsUnderWay p s link x → IsUnderWay p t link x
under_way_on p s t rises link x h =
    let up = rises x.flow h.flow h.its_flow in
    record { flow = h.flow; its_flow = h.its_flow; carries = carries_on h.flow (sent_high s h.flow) (sent_high t h.flow) (received_next s h.flow) (received_next t h.flow) x.kind x up.high up.next h.carries; on_way = h.on_way }

module _ (D : Packet → Type 0) (now : ℕ) (before : Option ℕ) (old new : PortState) where
  -- a busy link stays busy as long
  pub busy_stays : (d : Option Departure) (u : ℕ) → Outcome D now before old new d → before ≡ Some u → new.next_free ≡ Some u
  busy_stays None u h is = h.0 ∙ is
  busy_stays (Some d) u h is = absurd (not_some (sym h.was_idle ∙ is))

  pub sent_least : (d : Option Departure) → Outcome D now before old new d → old.sent ≤ new.sent
  sent_least None h = let same = h.1 in omega (arith, same)
  sent_least (Some d) h = let same = h.sent_once in omega (arith, same)

  pub sent_most : (d : Option Departure) → Outcome D now before old new d → new.sent ≤ old.sent + 1
  sent_most None h = let same = h.1 in omega (arith, same)
  sent_most (Some d) h = let same = h.sent_once in omega (arith, same)

  -- a link is free no earlier than before
  pub free_rises : (d : Option Departure) → Outcome D now before old new d → unwrap_or before now ≤ unwrap_or new.next_free now
  free_rises None h = let same = ap (λ o. unwrap_or o now) h.0 in omega (arith, same)
  free_rises (Some d) h = let idle = ap (λ o. unwrap_or o now) h.was_idle in let busy = ap (λ o. unwrap_or o now) h.busy in let later = h.later in omega (arith, idle, busy, later)

-- when the link was free, if it is busy, or the moment of the last event
pub entered_upto : (s : State) (k : Key) (r : Shape) (before : Option ℕ) (now : ℕ) → now ≤ k.time → IsOffered s k r before ⊎ IsFreed s k r before → unwrap_or (link_before s k r).port.next_free now ≤ unwrap_or before k.time
entered_upto s k r before now upto h =
    ⊎_elim
    (λ (o : IsOffered s k r before). let same = ap (λ x. unwrap_or x k.time) o.same in let more = either (link_before s k r).port.next_free in omega (arith, same, more))
    (λ (f : IsFreed s k r before). let was = ap (λ x. unwrap_or x now) f.was in let idle = ap (λ x. unwrap_or x k.time) f.idle in omega (arith, was, idle))
    h
  where
    either : (o : Option ℕ) → unwrap_or o now ≤ unwrap_or o k.time
    either None = upto
    either (Some u) = omega arith
