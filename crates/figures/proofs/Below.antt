-- Every value that is counted in a run is below 2^50.
use Rattle.std.proofs.Common.{◌≡◌, ◌==◌, ◌<◌, ◌-◌, ◌^◌, ℕ, zero, suc, Bool, true, false, cond, nat_lt, nat_le, List, [], ◌∷◌, ◌++◌, sym, ap, subst, ◌∙◌, Option, Some, None, IfSome, All, arith}
use Rattle.std.specs.Prelude.{option_to_list}
use Rattle.std.specs.List.{filter_map}
use Rattle.std.specs.Option.{option_map}
use Rattle.std.proofs.lemmas.Option.{option_and_then_some}
use Rattle.std.proofs.lemmas.List.Elements.{All-nil, All-cons, All-head, All-tail, All-same, All-append, All-push, filter_map-append}
use Rattle.sim_time.specs.Moment.{IsMoment}
use Rattle.packet_chain.specs.Stamped.{Stamped}
use Rattle.aqm.specs.Queue.{taken_from}
use Rattle.reno_sender.specs.declared.fields.SenderFields.{SenderFields}
use Rattle.reno_sender.specs.declared.fields.Timing.{Timing}
use Rattle.scenario_image.specs.declared.parts.ScenarioParts.{ScenarioParts}
use Rattle.scenario_image.specs.Scenario.{IsScenario}
use Rattle.node_core.specs.declared.event.Event.{Event}
use Rattle.node_core.specs.Part.{sender_in}
use Rattle.node_core.specs.TraceLine.{TraceLine}
use Rattle.table_run.specs.State.{State, part_at, due, step, one_step_more, run, initial}
use Rattle.table_run.specs.Laws.{ComesTo}
use Rattle.table_run.proofs.Due.{is_due}
use Rattle.table_run.proofs.RunLaws.{sound_run}
use Rattle.table_run.proofs.Runs.{of_one_more}
use Rattle.figures.specs.declared.turn.Cause.{Cause}
use Rattle.figures.specs.declared.turn.Cause.TheVariants.{Starts, Acknowledged, TimesOut}
use Rattle.figures.specs.Moments.{Moment, moments, cause_of, turn_by, turn_at, turns_at}
use Rattle.figures.specs.Turns.{Turn, trip_of, sample_by, sample_in}
use Rattle.figures.specs.Links.{port_at, frees, tx_in, acts_between, wait_of_given, wait_in, wait_at}
use Rattle.figures.specs.Laws.{CountedLieBelow}
use Rattle.figures.proofs.Along.{of_due}
use Rattle.figures.proofs.LinkLaws.{moments_more}
use Rattle.figures.proofs.Turns.{given_more}

abbrev Small : ℕ → Type 0
Small x = x < 2 ^ 50

abbrev InTime : Moment → Type 0
InTime m = IsMoment m.line.key.time

listed : {B : Type 0} (P : B → Type 0) (o : Option B) → IfSome o P → All P (option_to_list o)
listed P None is = All-nil P
listed P (Some x) is = All-cons P x [] is (All-nil P)

-- what is given of entries of a sort is of a sort
all_given : {A B : Type 0} (f : A → Option B) (M : A → Type 0) (P : B → Type 0) → ((x : A) → M x → IfSome (f x) P) → (xs : List A) → All M xs → All P (filter_map f xs)
all_given f M P each [] all = All-nil P
all_given f M P each (x ∷ xs) all =
    All-same P (filter_map f (x ∷ xs)) (option_to_list (f x) ++ filter_map f xs) (filter_map-append f (x ∷ []) xs ∙ ap (λ ys. ys ++ filter_map f xs) (given_more f [] x))
    (All-append P (option_to_list (f x)) (filter_map f xs) (listed P (f x) (each x (All-head M x xs all))) (all_given f M P each xs (All-tail M x xs all)))

either : {B : Type 0} (P : B → Type 0) (b : Bool) (x y : Option B) → IfSome x P → IfSome y P → IfSome (cond b x y) P
either P true x y one other = one
either P false x y one other = other

-- a wait
since_stamp : (now : ℕ) (o : Option Stamped) → IsMoment now → IfSome (option_map {U = ℕ} (λ (cell : Stamped). now - cell.1) o) Small
since_stamp now None moment = tt
since_stamp now (Some cell) moment = omega (arith, moment)

wait_small : (node index : ℕ) (m : Moment) → InTime m → IfSome (wait_at node index m) Small
wait_small node index m moment =
    let before = port_at m.before node index in
    let after = port_at m.after node index in
    let sent : Option ℕ = cond (nat_lt 0 (tx_in (acts_between before.offered after m.line))) (Some 0) None in
    either Small (m.line.key.node == node) (wait_in before.offered after m.line (wait_of_given m.line.key.time before)) None
    (either Small (frees after.link m.line.event) (wait_of_given m.line.key.time before) sent (since_stamp m.line.key.time (taken_from before.queue m.line.key.time).given moment)
    (either Small (nat_lt 0 (tx_in (acts_between before.offered after m.line))) (Some 0) None (omega arith) tt)) tt

-- a sample of the round trip
trip_small : (timing : Option Timing) (ack now : ℕ) → IsMoment now → IfSome (trip_of timing ack now) Small
trip_small None ack now moment = tt
trip_small (Some t) ack now moment = either Small (nat_le t.number ack) (Some (now - t.sent_at)) None (omega (arith, moment)) tt

sample_small : (timing : Option Timing) (cause : Cause) (now : ℕ) → IsMoment now → IfSome (sample_by timing cause now) Small
sample_small timing Starts now moment = tt
sample_small timing (Acknowledged ack) now moment = trip_small timing ack now moment
sample_small timing TimesOut now moment = tt

abbrev TurnsInTime : Turn → Type 0
TurnsInTime t = IsMoment t.now

turn_of : (f : SenderFields) (o : Option Cause) (now : ℕ) → IsMoment now → IfSome (option_map {U = Turn} (λ (cause : Cause). record { old = f; cause = cause; now = now }) o) TurnsInTime
turn_of f None now moment = tt
turn_of f (Some cause) now moment = moment

turn_by_time : (o : Option (ℕ × SenderFields)) (event : Event) (now : ℕ) → IsMoment now → IfSome (turn_by o event now) TurnsInTime
turn_by_time None event now moment = tt
turn_by_time (Some found) event now moment = turn_of found.1 (cause_of event) now moment

turn_in_time : (node : ℕ) (m : Moment) → InTime m → IfSome (turn_at node m) TurnsInTime
turn_in_time node m moment =
    either TurnsInTime (m.line.key.node == node) (turn_by (sender_in (part_at m.before node).role) m.line.event m.line.key.time) None
    (turn_by_time (sender_in (part_at m.before node).role) m.line.event m.line.key.time moment) tt

-- the events of a run are at moments
its_moment : (p : ScenarioParts) → IsScenario p → (n : ℕ) (lines : List TraceLine) (s : State) → ComesTo p n lines s → (line : TraceLine) (t : State) → step s ≡ Some (line, t) → IsMoment line.key.time
its_moment p is_scenario n lines s comes line t next =
    let sound = sound_run p n lines s is_scenario comes in
    let less = (is_due s line.key line.event (of_due s (due s) line t next)).in_time in
    let most = is_scenario.in_limits.end_range in
    let end_is = sound.sound.end_is in
    omega (arith, less, end_is, most)

all_in_time : (p : ScenarioParts) (n : ℕ) (lines : List TraceLine) (s : State) → IsScenario p → ComesTo p n lines s → All InTime (moments (initial p) n)
all_in_time p zero lines s is_scenario comes = All-nil InTime
all_in_time p (suc n) lines s is_scenario comes =
    option_and_then_some one_step_more (run (initial p) n) (lines, s) comes (λ so_far was now.
    of_one_more so_far lines s now (λ line next lines_are.
    subst (All InTime) (sym (moments_more p is_scenario n so_far.0 so_far.1 was line s next))
    (All-push InTime (moments (initial p) n) (record { before = so_far.1; line = line; after = s }) (all_in_time p n so_far.0 so_far.1 is_scenario was)
    (its_moment p is_scenario n so_far.0 so_far.1 was line s next))))

pub counted_lie_below : CountedLieBelow
counted_lie_below p n lines s is_scenario comes =
    let ms = moments (initial p) n in
    let all = all_in_time p n lines s is_scenario comes in (
      λ node index. all_given (wait_at node index) InTime Small (wait_small node index) ms all,
      λ node. all_given sample_in TurnsInTime Small (λ t moment. sample_small t.old.timing t.cause t.now moment) (turns_at node ms)
          (all_given (turn_at node) InTime TurnsInTime (turn_in_time node) ms all),
    )
