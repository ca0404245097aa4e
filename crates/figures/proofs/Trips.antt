-- The samples that are counted are those that the sender's table takes.
use Rattle.std.proofs.Common.{◌≡◌, ◌≢◌, ℕ, zero, suc, ◌<◌, ◌≤◌, ◌-◌, Bool, true, false, cond, leb, List, [], ◌∷◌, ◌++◌, length, get_or, refl, sym, ap, subst, ◌∙◌, Option, Some, None, IfSome, arith, eq-eqb, ⊎_elim}
use Rattle.std.specs.Prelude.{option_to_list}
use Rattle.std.specs.List.{fold, slice_get}
use Rattle.std.specs.Option.{option_map}
use Rattle.std.proofs.lemmas.Bool.{cases_eq, cases_lt, lt-ltb, lt-leb}
use Rattle.std.proofs.lemmas.List.Elements.{filter_map-append}
use Rattle.std.proofs.lemmas.List.Sums.{fold-append}
use Rattle.std.proofs.lemmas.Option.{option_and_then_some, slice_get-get_or}
use Rattle.std.proofs.Math.ListN.{get_or-eq_default}
use Rattle.scenario_image.specs.declared.parts.FlowPart.{FlowPart}
use Rattle.scenario_image.specs.declared.parts.NodeKind.{NodeKind}
use Rattle.scenario_image.specs.declared.parts.NodeKind.TheVariants.{Sender, Receiver, Router}
use Rattle.scenario_image.specs.declared.parts.ScenarioParts.{ScenarioParts}
use Rattle.scenario_image.specs.Scenario.{IsScenario}
use Rattle.reno_sender.specs.declared.fields.SenderFields.{SenderFields}
use Rattle.reno_sender.specs.declared.fields.Timing.{Timing}
use Rattle.reno_sender.specs.Fields.{IsTimedWithin}
use Rattle.reno_sender.specs.Sending.{Planned}
use Rattle.reno_sender.specs.Table.{started, acknowledged, timed_out, measured_by, with_sample, is_partial, new_acknowledgement, partial_acknowledgement}
use Rattle.reno_sender.proofs.RowLaws.{by_rows}
use Rattle.node_core.specs.Initial.{initial_role}
use Rattle.node_core.specs.Part.{PartState, sender_in}
use Rattle.node_core.specs.TraceLine.{TraceLine}
use Rattle.tournament.proofs.Maps.{same_some}
use Rattle.table_run.specs.State.{State, no_part, part_at, step, one_step_more, run, initial}
use Rattle.table_run.specs.Laws.{ComesTo}
use Rattle.table_run.proofs.Initial.{opened_part}
use Rattle.table_run.proofs.RunLaws.{sound_run}
use Rattle.table_run.proofs.Runs.{of_one_more}
use Rattle.figures.specs.declared.turn.Cause.{Cause}
use Rattle.figures.specs.declared.turn.Cause.TheVariants.{Starts, Acknowledged, TimesOut}
use Rattle.figures.specs.Moments.{Moment, moments, cause_of, turn_by, turn_at, turns_at}
use Rattle.figures.specs.Turns.{Turn, planned_by, trip_of, sample_by, sample_in}
use Rattle.figures.specs.Senders.{trips_of}
use Rattle.figures.specs.Laws.{trip_kept, smoothed, TripsAreTakenByTheTable}
use Rattle.figures.proofs.Counts.{test_no}
use Rattle.figures.proofs.LinkLaws.{moments_more}
use Rattle.figures.proofs.Rows.{kept_by, after_event}
use Rattle.figures.proofs.Steps.{is_step, sender_here, sender_elsewhere}
use Rattle.figures.proofs.Turns.{given_more}

-- what samples leave
abbrev left_by : Option ℕ × ℕ → List ℕ → Option ℕ × ℕ
left_by kept trips = fold smoothed kept trips

-- what a sample leaves, where the timed number is acknowledged
measured : (o : Option Timing) (f : SenderFields) (ack now : ℕ) → trip_kept (measured_by o f ack now) ≡ left_by (trip_kept f) (option_to_list (trip_of o ack now))
measured None f ack now = refl
measured (Some t) f ack now =
    elim (leb t.number ack) as (λ b. trip_kept (cond b (with_sample f (now - t.sent_at)) f) ≡ left_by (trip_kept f) (option_to_list (cond b (Some (now - t.sent_at)) None))) [ true ↦ refl | false ↦ refl ]

-- a number that is not past una is below the timed one
none_taken : (o : Option Timing) (una high ack now : ℕ) → IfSome o (IsTimedWithin una high) → ack ≤ una → trip_of o ack now ≡ None
none_taken None una high ack now timed old = refl
none_taken (Some t) una high ack now timed old = ap (λ b. cond b (Some (now - t.sent_at)) None) (lt-leb t.number ack (omega (arith, timed.above, old)))

either : (P : Planned → Type 0) (b : Bool) (p q : Planned) → P p → P q → P (cond b p q)
either P true p q x y = x
either P false p q x y = y

new_row : (f : SenderFields) (ack now : ℕ) → f.una < ack → acknowledged f ack now ≡ cond (is_partial f ack) (partial_acknowledgement f ack now) (new_acknowledgement f ack now)
unfolding acknowledged
new_row f ack now new = rw (lt-ltb f.una ack new) refl

on_new : (f : SenderFields) (ack now : ℕ) → f.una < ack → trip_kept (acknowledged f ack now).fields ≡ left_by (trip_kept f) (option_to_list (trip_of f.timing ack now))
on_new f ack now new =
    let taken = measured f.timing f ack now in
    let P : Planned → Type 0 = λ p. trip_kept p.fields ≡ left_by (trip_kept f) (option_to_list (trip_of f.timing ack now)) in
    subst P (sym (new_row f ack now new)) (either P (is_partial f ack) (partial_acknowledgement f ack now) (new_acknowledgement f ack now) (either P _ _ _ taken taken) taken)

-- nothing else that an acknowledgement does changes what is kept of the round trip
on_old : (f : SenderFields) (ack now : ℕ) → ack ≤ f.una → trip_kept (acknowledged f ack now).fields ≡ trip_kept f
on_old f ack now old =
    let P : Planned → Type 0 = λ p. trip_kept p.fields ≡ trip_kept f in
    by_rows P f ack now (λ new _. absurd (omega (arith, new, old))) (λ new _. absurd (omega (arith, new, old))) refl
    (λ _. either P _ _ _ refl refl) (λ _ _ _. refl) (λ _ _. refl) (λ _ _. either P _ _ _ refl refl) (λ _ _. refl)

on_start : (f : SenderFields) (now : ℕ) → trip_kept (started f now).fields ≡ trip_kept f
unfolding started
on_start f now = refl

on_timeout : (f : SenderFields) (now : ℕ) → trip_kept (timed_out f now).fields ≡ trip_kept f
unfolding timed_out
on_timeout f now = refl

-- a turn takes the sample that is counted of it
takes : (f : SenderFields) (cause : Cause) (now : ℕ) → IfSome f.timing (IsTimedWithin f.una f.high) → trip_kept (planned_by f cause now).fields ≡ left_by (trip_kept f) (option_to_list (sample_by f.timing cause now))
takes f Starts now timed = on_start f now
takes f TimesOut now timed = on_timeout f now
takes f (Acknowledged ack) now timed =
    ⊎_elim
    (λ (new : f.una < ack). on_new f ack now new)
    (λ (old : ack ≤ f.una). on_old f ack now old ∙ ap (λ o. left_by (trip_kept f) (option_to_list o)) (sym (none_taken f.timing f.una f.high ack now timed old)))
    (cases_lt f.una ack)

-- the turn of an event with such a cause, if it has one
abbrev turn_of : SenderFields → Option Cause → ℕ → Option Turn
turn_of f o now = option_map (λ (cause : Cause). record { old = f; cause = cause; now = now }) o

by_cause : (f : SenderFields) (o : Option Cause) (now : ℕ) → IfSome f.timing (IsTimedWithin f.una f.high) → trip_kept (kept_by o f now) ≡ left_by (trip_kept f) (trips_of (option_to_list (turn_of f o now)))
by_cause f None now timed = refl
by_cause f (Some cause) now timed = takes f cause now timed ∙ ap (left_by (trip_kept f)) (sym (given_more sample_in [] (record { old = f; cause = cause; now = now })))

-- one event more
with_event : (ms : List Moment) (m : Moment) (node : ℕ) (o : Option Turn) (old new : Option ℕ × ℕ) → turn_at node m ≡ o → new ≡ left_by old (trips_of (option_to_list o)) → old ≡ left_by (None, 0) (trips_of (turns_at node ms)) →
    new ≡ left_by (None, 0) (trips_of (turns_at node (ms ++ m ∷ [])))
with_event ms m node o old new turn taken so_far =
    taken ∙ ap (λ kept. left_by kept (trips_of (option_to_list o))) so_far
    ∙ sym (fold-append smoothed (None, 0) (trips_of (turns_at node ms)) (trips_of (option_to_list o)))
    ∙ ap (left_by (None, 0)) (sym (filter_map-append sample_in (turns_at node ms) (option_to_list o)))
    ∙ ap (λ ts. left_by (None, 0) (trips_of ts)) (ap (λ x. turns_at node ms ++ option_to_list x) (sym turn) ∙ sym (given_more (turn_at node) ms m))

-- what a node's sender keeps, if there is one, is what these samples leave
abbrev Has : Option (ℕ × SenderFields) → List ℕ → Type 0
Has o trips = IfSome o (λ found. trip_kept found.1 ≡ left_by (None, 0) trips)

opened_role : (p : ScenarioParts) (node : ℕ) (kind : NodeKind) → Has (sender_in (initial_role p node kind)) []
opened_role p node Sender = refl
opened_role p node Receiver = tt
opened_role p node Router = tt

opened : (p : ScenarioParts) → IsScenario p → (node : ℕ) → Has (sender_in (part_at (initial p) node).role) []
opened p is_scenario node =
    let nodes_are = (sound_run p 0 [] (initial p) is_scenario refl).sound.nodes_are in
    ⊎_elim
    (λ (within : node < length p.nodes). subst (λ (x : PartState). Has (sender_in x.role) []) (sym (opened_part p node _ (slice_get-get_or p.nodes node Router within))) (opened_role p node (get_or p.nodes node Router)))
    (λ (past : length p.nodes ≤ node). subst (λ (x : PartState). Has (sender_in x.role) []) (sym (get_or-eq_default (initial p).parts no_part (omega (arith, past, nodes_are)))) tt)
    (cases_lt node (length p.nodes))

module _ (p : ScenarioParts) (is_scenario : IsScenario p) (n : ℕ) (lines : List TraceLine) (s : State) (comes : ComesTo p n lines s) (line : TraceLine) (t : State) (next : step s ≡ Some (line, t)) (number : ℕ) (flow : FlowPart) (its : slice_get p.flows number ≡ Some flow) where
  abbrev m : Moment
  m = record { before = s; line = line; after = t }

  abbrev node : ℕ
  node = flow.sender

  abbrev fields : SenderFields
  fields = ((sound_run p n lines s is_scenario comes).sound.each_flow number flow its).fields

  timed : IfSome fields.timing (IsTimedWithin fields.una fields.high)
  timed = ((sound_run p n lines s is_scenario comes).sound.each_flow number flow its).sound.timed

  was : sender_in (part_at s node).role ≡ Some (number, fields)
  was = ap sender_in ((sound_run p n lines s is_scenario comes).sound.each_flow number flow its).sender_role

  abbrev trips : List ℕ
  trips = trips_of (turns_at node (moments (initial p) n))

  abbrev more : List ℕ
  more = trips_of (turns_at node (moments (initial p) n ++ m ∷ []))

  here : line.key.node ≡ node → trip_kept fields ≡ left_by (None, 0) trips → Has (sender_in (part_at t node).role) more
  here at so_far =
      let now = line.key.time in
      let role : sender_in (part_at t node).role ≡ Some (number, kept_by (cause_of line.event) fields now) =
      ap (λ k. sender_in (part_at t k).role) (sym at) ∙ sender_here s line t (is_step s line t next) ∙ ap (λ k. after_event (sender_in (part_at s k).role) (cause_of line.event) now) at ∙ ap (λ o. after_event o (cause_of line.event) now) was in
      let turn : turn_at node m ≡ turn_of fields (cause_of line.event) now =
      ap (λ b. cond b (turn_by (sender_in (part_at s node).role) line.event now) None) (eq-eqb line.key.node node at) ∙ ap (λ o. turn_by o line.event now) was in
      subst (λ o. Has o more) (sym role)
      (with_event (moments (initial p) n) m node (turn_of fields (cause_of line.event) now) (trip_kept fields) (trip_kept (kept_by (cause_of line.event) fields now)) turn (by_cause fields (cause_of line.event) now timed) so_far)

  there : line.key.node ≢ node → trip_kept fields ≡ left_by (None, 0) trips → Has (sender_in (part_at t node).role) more
  there apart so_far =
      let role : sender_in (part_at t node).role ≡ Some (number, fields) = sender_elsewhere s line t (is_step s line t next) node (λ same. apart (sym same)) ∙ was in
      let turn : turn_at node m ≡ None = ap (λ b. cond b (turn_by (sender_in (part_at s node).role) line.event line.key.time) None) (test_no line.key.node node apart) in
      subst (λ o. Has o more) (sym role) (with_event (moments (initial p) n) m node None (trip_kept fields) (trip_kept fields) turn refl so_far)

  one_event : Has (sender_in (part_at s node).role) trips → Has (sender_in (part_at t node).role) more
  one_event has =
      let so_far : trip_kept fields ≡ left_by (None, 0) trips = subst (λ o. Has o trips) was has in
      ⊎_elim (λ (at : line.key.node ≡ node). here at so_far) (λ (apart : line.key.node ≢ node). there apart so_far) (cases_eq line.key.node node)

all_taken : (p : ScenarioParts) (n : ℕ) (lines : List TraceLine) (s : State) → IsScenario p → ComesTo p n lines s → (number : ℕ) (flow : FlowPart) → slice_get p.flows number ≡ Some flow →
    Has (sender_in (part_at s flow.sender).role) (trips_of (turns_at flow.sender (moments (initial p) n)))
all_taken p zero lines s is_scenario comes number flow its =
    let same : s ≡ initial p = ap (λ (x : List TraceLine × State). x.1) (sym (same_some ([], initial p) (lines, s) comes)) in
    subst (λ u. Has (sender_in (part_at u flow.sender).role) []) (sym same) (opened p is_scenario flow.sender)
all_taken p (suc n) lines s is_scenario comes number flow its =
    option_and_then_some one_step_more (run (initial p) n) (lines, s) comes (λ so_far was now.
    of_one_more so_far lines s now (λ line next lines_are.
    subst (λ ms. Has (sender_in (part_at s flow.sender).role) (trips_of (turns_at flow.sender ms))) (sym (moments_more p is_scenario n so_far.0 so_far.1 was line s next))
    (one_event p is_scenario n so_far.0 so_far.1 was line s next number flow its (all_taken p n so_far.0 so_far.1 is_scenario was number flow its))))

pub trips_are_taken : TripsAreTakenByTheTable
trips_are_taken p n lines s is_scenario comes number flow its f role =
    subst (λ o. Has o (trips_of (turns_at flow.sender (moments (initial p) n)))) (ap sender_in role) (all_taken p n lines s is_scenario comes number flow its)
