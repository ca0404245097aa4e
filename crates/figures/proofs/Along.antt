-- The figures along a run.
use Rattle.std.proofs.Common.{◌≡◌, ℕ, zero, suc, ◌+◌, ◌<◌, ◌≤◌, List, [], ◌∷◌, ◌++◌, length, length-append, get_or, refl, sym, ap, subst, ◌∙◌, Option, Some, None, arith}
use Rattle.std.proofs.lemmas.List.{append-nil, append_assoc}
use Rattle.std.proofs.lemmas.List.Elements.{filter_map-append}
use Rattle.std.proofs.lemmas.Option.{option_and_then_some, slice_get-get_or}
use Rattle.std.specs.Prelude.{option_to_list}
use Rattle.std.specs.Option.{option_map, option_and_then}
use Rattle.std.specs.List.{AllByRecursion}
use Rattle.sim_time.specs.declared.key.Key.{Key}
use Rattle.sim_time.specs.Moment.{IsMoment}
use Rattle.scenario_image.specs.declared.parts.ScenarioParts.{ScenarioParts}
use Rattle.scenario_image.specs.Scenario.{IsScenario}
use Rattle.node_core.specs.declared.event.Event.{Event}
use Rattle.node_core.specs.TraceLine.{TraceLine}
use Rattle.tournament.proofs.Maps.{not_some, same_some}
use Rattle.table_run.specs.State.{State, due, step_at, step, one_step_more, run, initial}
use Rattle.table_run.specs.Laws.{ComesTo, IsSoundRun}
use Rattle.table_run.proofs.RunLaws.{sound_run}
use Rattle.table_run.proofs.Runs.{run_add}
use Rattle.net_machine.specs.Run.{Reached, Stepped}
use Rattle.figures.specs.declared.figures.Figures.{Figures}
use Rattle.figures.specs.Moments.{Moment, Base, moments, following, turn_at, turns_at}
use Rattle.figures.specs.Senders.{completed_of, completed_in}
use Rattle.figures.specs.declared.sender.SenderFigures.{SenderFigures}
use Rattle.figures.specs.Figures.{AreAfter, AreOfLinks, AreFigures, last_line, NoneBefore, base_at, whole, AreOfRun, AreOfSomeRun}
use Rattle.figures.proofs.OfLinks.{last_more}
use Rattle.table_run.proofs.Due.{IsDue, is_due}

line_more : (since : ℕ) (lines : List TraceLine) (line : TraceLine) → last_line since (lines ++ line ∷ []) ≡ line.key.time
line_more since [] line = refl
line_more since (first ∷ lines) line = line_more first.key.time lines line

line_most : (since moment : ℕ) (lines : List TraceLine) → since ≤ moment → AllByRecursion (λ (line : TraceLine). line.key.time ≤ moment) lines → last_line since lines ≤ moment
line_most since moment [] before all = before
line_most since moment (line ∷ lines) before all = line_most line.key.time moment lines all.0 all.1

-- all figures, from the parts of them
pub together : (b : Base) (ms : List Moment) (s : State) (line : TraceLine) (t : State) (f g : Figures) → AreFigures b ms s f → AreAfter b (ms ++ record { before = s; line = line; after = t } ∷ []) t g
    → AreOfLinks b (ms ++ record { before = s; line = line; after = t } ∷ []) t g.links.items → g.received.items ≡ f.received.items → g.events ≡ f.events + 1 → g.last ≡ line.key.time
    → AreFigures b (ms ++ record { before = s; line = line; after = t } ∷ []) t g
together b ms s line t f g is senders links received count last = record {
  senders = senders;
  links = links;
  received = λ node. ap (λ xs. get_or xs node 0) received ∙ is.received node;
  events = let more = length-append ms (record { before = s; line = line; after = t } ∷ []) in let before = is.events in omega (arith, count, before, more);
  last = last ∙ sym (last_more b.since ms (record { before = s; line = line; after = t }));
}

-- the events of a run that goes on are those up to there and those from there on
pub moments_add : (s t u : State) (n m : ℕ) (first rest : List TraceLine) → run s n ≡ Some (first, t) → run t m ≡ Some (rest, u) → moments s (n + m) ≡ moments s n ++ moments t m
moments_add s t u n zero first rest is on = ap (moments s) {x = n + zero} {y = n} (omega arith) ∙ sym (append-nil (moments s n))
moments_add s t u n (suc m) first rest is on =
    option_and_then_some one_step_more (run t m) (rest, u) on
    (λ so_far here later.
    ap (moments s) {x = n + suc m} {y = suc (n + m)} (omega arith)
    ∙ ap (λ o. moments s (n + m) ++ following o) (run_add s t so_far.1 n m first so_far.0 is here)
    ∙ ap (λ ms. ms ++ following (Some so_far)) (moments_add s t so_far.1 n m first so_far.0 is here)
    ∙ append_assoc (moments s n) (moments t m) (following (Some so_far))
    ∙ ap (λ o. moments s n ++ (moments t m ++ following o)) (sym here))

-- nothing is counted yet from a moment on
pub begun_run : (p : ScenarioParts) (since : ℕ) (r : Reached) (lines : List TraceLine) (f : Figures) → ComesTo p r.position lines r.state → since ≤ p.end → AreFigures (base_at p since r) [] r.state f → AreOfRun p (base_at p since r) f r
begun_run p since r lines f comes in_time is = record {
  base = record { lines = lines; comes = comes; earlier = refl; in_time = in_time };
  lines = lines;
  comes = comes;
  count = 0;
  position = omega arith;
  counted = [];
  goes_on = refl;
  figures = is;
  events = is.events;
  last = is.last;
}

-- and so it is from a run's initial state on
pub opened_run : (p : ScenarioParts) (r : Reached) (f : Figures) → r ≡ record { state = initial p; position = 0 } → AreFigures (record { since = 0; state = r.state; before = r.position; earlier = [] }) [] r.state f → AreOfRun p (whole p) f r
opened_run p r f at is =
    let comes : ComesTo p r.position [] r.state = subst (λ (x : Reached). ComesTo p x.position [] x.state) (sym at) refl in
    let none : moments (initial p) r.position ≡ [] = ap (λ (x : Reached). moments (initial p) x.position) at in
    let base : base_at p 0 r ≡ whole p = ap (base_at p 0) at in
    let figures : AreFigures (base_at p 0 r) [] r.state f = subst (λ (ms : List Moment). AreFigures (record { since = 0; state = r.state; before = r.position; earlier = ms }) [] r.state f) (sym none) is in
    subst (λ b. AreOfRun p b f r) base (begun_run p 0 r [] f comes (omega arith) figures)

-- a list that has a place has an element
with_one : {A G : Type 0} (xs : List A) (i : ℕ) → i < length xs → (A → G) → G
with_one [] i inside use_it = absurd (omega (arith, inside))
with_one (x ∷ xs) i inside use_it = use_it x

-- when all bytes of a node's sender were acknowledged, by all events up to here
pub completed_now : (p : ScenarioParts) (b : Base) (f : Figures) (r : Reached) → AreOfRun p b f r → (node : ℕ) → node < length r.state.parts → completed_in f.senders.items node ≡ completed_of (turns_at node (moments (initial p) r.position))
completed_now p b f r of node within =
    let inside : node < length f.senders.items = omega (arith, within, of.figures.senders.size) in
    let at : b.before + of.count ≡ r.position = (let is = of.position in omega (arith, is)) in
    with_one f.senders.items node inside
    (λ other.
    ap (option_and_then (λ (x : SenderFigures). x.completed)) (slice_get-get_or f.senders.items node other inside)
    ∙ (of.figures.senders.each node other within).counted.completed
    ∙ ap completed_of (sym (filter_map-append (turn_at node) b.earlier (moments b.state of.count)))
    ∙ ap (λ ms. completed_of (turns_at node (ms ++ moments b.state of.count))) of.base.earlier
    ∙ ap (λ ms. completed_of (turns_at node ms)) (sym (moments_add (initial p) b.state r.state b.before of.count of.base.lines of.counted of.base.comes of.goes_on))
    ∙ ap (λ n. completed_of (turns_at node (moments (initial p) n))) at)

-- a run that has come one event further
comes_on : (p : ScenarioParts) (old new : Reached) (line : TraceLine) (lines : List TraceLine) → ComesTo p old.position lines old.state → Stepped old (Some line) new → ComesTo p new.position (lines ++ line ∷ []) new.state
comes_on p old new line lines comes stepped =
    let next : suc old.position ≡ new.position = omega (arith, stepped.1) in
    subst (λ n. run (initial p) n ≡ Some (lines ++ line ∷ [], new.state)) next
    (ap (option_and_then one_step_more) comes ∙ ap (option_map {U = List TraceLine × State} (λ (x : TraceLine × State). (lines ++ x.0 ∷ [], x.1))) stepped.0)

pub step_run : (p : ScenarioParts) (b : Base) (old new : Reached) (line : TraceLine) (f g : Figures) → AreOfRun p b f old → Stepped old (Some line) new → g.events ≡ f.events + 1 → g.last ≡ line.key.time →
    ((ms : List Moment) → AreFigures b ms old.state f → step old.state ≡ Some (line, new.state) → AreFigures b (ms ++ record { before = old.state; line = line; after = new.state } ∷ []) new.state g) → AreOfRun p b g new
step_run p b old new line f g of stepped count last more = record {
  base = of.base;
  lines = of.lines ++ line ∷ [];
  comes = comes_on p old new line of.lines of.comes stepped;
  count = suc of.count;
  position = (let at = of.position in omega (arith, at, stepped.1));
  counted = of.counted ++ line ∷ [];
  goes_on = ap (option_and_then one_step_more) of.goes_on ∙ ap (option_map {U = List TraceLine × State} (λ (x : TraceLine × State). (of.counted ++ x.0 ∷ [], x.1))) stepped.0;
  figures = subst (λ ms. AreFigures b ms new.state g)
      (sym (ap (λ o. moments b.state of.count ++ following o) of.goes_on
      ∙ ap (λ o. moments b.state of.count ++ option_to_list (option_map {U = Moment} (λ (x : TraceLine × State). record { before = old.state; line = x.0; after = x.1 }) o)) stepped.0))
      (more (moments b.state of.count) of.figures stepped.0);
  events = (let before = of.events in omega (arith, count, before));
  last = last ∙ sym (line_more b.since of.counted line);
}

-- the event of a step is the one that is due
pub of_due : (s : State) (o : Option (Key × Event)) (line : TraceLine) (t : State) → option_map (step_at s) o ≡ Some (line, t) → o ≡ Some (line.key, line.event)
of_due s None line t is = absurd (not_some is)
of_due s (Some e) line t is = ap (λ (x : TraceLine × State). Some (x.0.key, x.0.event)) (same_some (step_at s e) (line, t) is)

module _ (f : Figures) (r : Reached) (line : TraceLine) (t : State) (some : AreOfSomeRun f r) (is : step r.state ≡ Some (line, t)) where
  abbrev sound : IsSoundRun some.scenario some.of.lines r.state
  sound = sound_run some.scenario r.position some.of.lines r.state some.is_scenario some.of.comes

  abbrev its : IsDue r.state line.key line.event
  its = is_due r.state line.key line.event (of_due r.state (due r.state) line t is)

  -- an event of a run is at a moment
  pub is_moment : IsMoment line.key.time
  is_moment = let less = its.in_time in let most = some.is_scenario.in_limits.end_range in let end_is = sound.sound.end_is in omega (arith, less, end_is, most)

  -- and not before the last
  pub is_later : f.last ≤ line.key.time
  is_later = some.in_order line.key line.event (of_due r.state (due r.state) line t is)

-- what is due behind an event is not before it
pub none_earlier : (p : ScenarioParts) (old new : Reached) (line : TraceLine) (lines : List TraceLine) → IsScenario p → ComesTo p old.position lines old.state → Stepped old (Some line) new → NoneBefore line.key.time new.state
none_earlier p old new line lines is_scenario comes stepped k v is =
    let sound = sound_run p new.position (lines ++ line ∷ []) new.state is_scenario (comes_on p old new line lines comes stepped) in
    let most = line_most 0 sound.moment (lines ++ line ∷ []) (omega arith) sound.none_later in
    let last = line_more 0 lines line in
    let later = sound.sound.not_past k v (is_due new.state k v is).pending in
    omega (arith, most, last, later)
