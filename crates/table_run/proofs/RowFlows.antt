-- How flows and their timers go on where a row leaves each role as it is.
use Rattle.std.proofs.Common.{◌≡◌, ◌≢◌, ℕ, ◌+◌, ◌≤◌, refl, sym, ap, ◌∙◌, Option, Some, None, arith, ⊎_elim}
use Rattle.std.proofs.lemmas.Bool.{cases_eq}
use Rattle.std.specs.Option.{IfSome}
use Rattle.sim_time.specs.declared.key.Key.{Key}
use Rattle.reno_sender.specs.declared.fields.Timing.{Timing}
use Rattle.scenario_image.specs.declared.parts.FlowPart.{FlowPart}
use Rattle.scenario_image.specs.declared.parts.ScenarioParts.{ScenarioParts}
use Rattle.node_core.specs.declared.timer.Timer.{Timer}
use Rattle.node_core.specs.declared.role.Role.{Role}
use Rattle.node_core.specs.declared.role.Role.TheVariants.{Sends, Receives, Routes}
use Rattle.node_core.specs.Timers.{timer_key}
use Rattle.node_core.specs.Part.{PartState}
use Rattle.table_run.specs.State.{State, part_at}
use Rattle.table_run.specs.Flow.{high_of, next_at, IsSoundFlow}
use Rattle.table_run.specs.Laws.{RoleRises}
use Rattle.tournament.proofs.Maps.{not_some}
use Rattle.table_run.proofs.Moved.{Shape, IsMoved}
use Rattle.table_run.proofs.Rows.{EachFlow, FlowRises, RtoTimerStays}

pub timed_later : (now later : ℕ) (o : Option Timing) → now ≤ later → IfSome o (λ t. t.sent_at ≤ now) → IfSome o (λ t. t.sent_at ≤ later)
timed_later now later None upto h = tt
timed_later now later (Some t) upto h = omega (arith, h, upto)

pub deadline_later : (now later : ℕ) (o : Option ℕ) → now ≤ later → IfSome o (λ t. t ≤ now + 60000000000) → IfSome o (λ t. t ≤ later + 60000000000)
deadline_later now later None upto h = tt
deadline_later now later (Some t) upto h = omega (arith, h, upto)

-- a flow both of whose ends stay as they are
pub flow_stays : (s t : State) (now later number : ℕ) (flow : FlowPart) → now ≤ later → (part_at t flow.sender).role ≡ (part_at s flow.sender).role → (part_at t flow.receiver).role ≡ (part_at s flow.receiver).role → IsSoundFlow s now number flow → IsSoundFlow t later number flow
flow_stays s t now later number flow upto same_sender same_receiver h = record {
  fields = h.fields;
  received = h.received;
  sender_role = same_sender ∙ h.sender_role;
  receiver_role = same_receiver ∙ h.receiver_role;
  sound = h.sound;
  its_mss = h.its_mss;
  its_segments = h.its_segments;
  its_rwnd = h.its_rwnd;
  its_variant = h.its_variant;
  timed_before = timed_later now later h.fields.timing upto h.timed_before;
  deadline_soon = deadline_later now later h.fields.deadline upto h.deadline_soon;
  well_formed = h.well_formed;
  same_mss = h.same_mss;
  its_delack = h.its_delack;
  received_sent = h.received_sent;
  next_sent = h.next_sent;
  answer_waits = h.answer_waits;
}

pub role_rises_itself : (r : Role) → RoleRises r r
role_rises_itself (Sends flow f) = (refl, record { una_rises = omega arith; high_rises = omega arith })
role_rises_itself (Receives flow a) = (refl, omega arith)
role_rises_itself (Routes table) = refl

module _ (p : ScenarioParts) (s t : State) (k : Key) (r : Shape) (M : IsMoved s k r t) (same : r.role ≡ (part_at s k.node).role) where
  pub same_roles : (node : ℕ) → (part_at t node).role ≡ (part_at s node).role
  same_roles node =
      ⊎_elim
      (λ (here : node ≡ k.node). ap (λ n. (part_at t n).role) here ∙ M.here_role ∙ same ∙ ap (λ n. (part_at s n).role) (sym here))
      (λ (other : node ≢ k.node). ap (λ (x : PartState). x.role) (M.elsewhere node other))
      (cases_eq node k.node)

  pub rises_same : EachFlow p (λ _ flow. FlowRises s t flow)
  rises_same number flow its =
      let a = ap high_of (same_roles flow.sender) in
      let b = ap next_at (same_roles flow.receiver) in
      record { high = omega (arith, a); next = omega (arith, b) }

  -- no timer moves
  pub rto_timer_same : (f : Role → Option ℕ) (timer : Timer) (node : ℕ) → r.old ≡ None → r.new ≡ None → ((time : ℕ) → timer_key node timer time ≢ k) → RtoTimerStays k r node timer (f (part_at s node).role) (f (part_at t node).role)
  rto_timer_same f timer node old new apart = record {
    same = ap f (same_roles node);
    not_due = apart;
    not_old = λ time u is. absurd (not_some (sym old ∙ is));
    not_new = λ time u is. absurd (not_some (sym new ∙ is));
  }
