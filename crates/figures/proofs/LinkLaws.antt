-- What is counted of each link over every run.
use Rattle.std.proofs.Common.{◌≡◌, ◌≢◌, ℕ, zero, suc, ◌+◌, ◌<◌, ◌≤◌, Bool, cond, List, [], ◌∷◌, ◌++◌, map, length, length-append, refl, sym, ap, subst, ◌∙◌, Option, Some, None, arith, eq-eqb, ⊎_elim, inl, inr}
use Rattle.std.specs.Prelude.{option_to_list, nat_lt}
use Rattle.std.specs.List.{AllByRecursion}
use Rattle.std.specs.Option.{option_map}
use Rattle.std.proofs.lemmas.Bool.{cases_eq, cases_lt, lt-ltb, le-ltb}
use Rattle.std.proofs.lemmas.Option.{option_and_then_some, slice_get-get_or}
use Rattle.aqm.specs.Queue.{take_reason, taken_from}
use Rattle.aqm.proofs.Stays.{queues_open_empty}
use Rattle.port.specs.declared.acts.Act.{Act}
use Rattle.port.specs.Port.{PortState, taken, offered_all}
use Rattle.scenario_image.specs.declared.parts.LinkPart.{LinkPart}
use Rattle.scenario_image.specs.declared.parts.NodeKind.TheVariants.{Router}
use Rattle.scenario_image.specs.declared.parts.ScenarioParts.{ScenarioParts}
use Rattle.scenario_image.specs.Scenario.{IsScenario}
use Rattle.node_core.specs.Initial.{initial_link, leaving_links}
use Rattle.node_core.specs.Part.{LinkState, PartState, no_link, link_at}
use Rattle.node_core.specs.TraceLine.{TraceLine}
use Rattle.tournament.proofs.Maps.{same_some}
use Rattle.table_run.specs.State.{State, part_at, step, one_step_more, run, initial}
use Rattle.table_run.specs.Laws.{ComesTo}
use Rattle.table_run.proofs.Lists.{all_here}
use Rattle.table_run.proofs.Moved.{node_there}
use Rattle.table_run.proofs.Initial.{opened_part}
use Rattle.table_run.proofs.RunLaws.{sound_run}
use Rattle.table_run.proofs.Runs.{of_one_more}
use Rattle.figures.specs.Moments.{Moment, moments, following}
use Rattle.figures.specs.Links.{port_at, waiting_at, frees, acts_between, acts_at, tx_in, all_dropped_of, tx_of, wait_of_given, wait_in, wait_at, waits_of, EachFreedOrOffered}
use Rattle.net_machine.specs.Run.{Reached}
use Rattle.figures.specs.declared.figures.Figures.{Figures}
use Rattle.figures.specs.Figures.{AreOfSomeRun}
use Rattle.figures.specs.Laws.{OfferedArePlaced, EachSentHasItsWait}
use Rattle.figures.proofs.Counts.{test_no}
use Rattle.figures.proofs.ByReason.{all_drops_more}
use Rattle.figures.proofs.Turns.{sum_more, given_more}
use Rattle.figures.proofs.Steps.{IsStep, is_step, size_stays, part_elsewhere, links_stay}
use Rattle.figures.proofs.Passages.{Passage, passage}
use Rattle.figures.proofs.Kept.{none_offered_where}
use Rattle.figures.proofs.Balance.{reported_once, Balanced, taken_balances, all_balance, offerings_send_one, taken_sends_given}

-- what an event counts of a link
record IsCounted (old new : PortState) (acts : List Act) (wait : Option ℕ) : Type 0 where
  balance : Balanced old new acts
  waits : length (option_to_list wait) ≡ tx_in acts

sent_or_not : (n : ℕ) → n ≤ 1 → length {A = ℕ} (option_to_list (cond (nat_lt 0 n) (Some 0) None)) ≡ n
sent_or_not n most =
    ⊎_elim
    (λ (some : 0 < n). ap (λ b. length {A = ℕ} (option_to_list (cond b (Some 0) None))) (lt-ltb 0 n some) ∙ omega (arith, some, most))
    (λ (none : n ≤ 0). ap (λ b. length {A = ℕ} (option_to_list (cond b (Some 0) None))) (le-ltb 0 n none) ∙ omega (arith, none))
    (cases_lt 0 n)

passes : (now : ℕ) (old new : PortState) (freed : Bool) (acts : List Act) → Passage now old new freed acts → IsCounted old new acts (cond freed (wait_of_given now old) (cond (nat_lt 0 (tx_in acts)) (Some 0) None))
passes now old new freed acts (inl is) = record {
  balance = subst (λ (q : PortState). Balanced old q acts) (sym is.port_is) (subst (Balanced old (taken now old).port) (sym is.acts_are) (taken_balances now old));
  waits = ap (λ b. length (option_to_list (cond b (wait_of_given now old) (cond (nat_lt 0 (tx_in acts)) (Some 0) None)))) is.test
      ∙ taken_sends_given now (record old { queue = (taken_from old.queue now).queue }) (take_reason old.queue) (taken_from old.queue now).dropped (taken_from old.queue now).given ∙ ap tx_in (sym is.acts_are);
}
passes now old new freed acts (inr is) = record {
  balance = subst (λ (q : PortState). Balanced old q acts) (sym is.port_is) (subst (Balanced old (offered_all now old is.packets).port) (sym is.acts_are) (all_balance now old is.packets));
  waits = ap (λ b. length (option_to_list (cond b (wait_of_given now old) (cond (nat_lt 0 (tx_in acts)) (Some 0) None)))) is.test
      ∙ sent_or_not (tx_in acts) (subst (λ (xs : List Act). tx_in xs ≤ 1) (sym is.acts_are) (offerings_send_one now old is.packets));
}

-- what is counted of a link so far
record IsCountedUpto (ms : List Moment) (s : State) (node index : ℕ) : Type 0 where
  placed : (port_at s node index).offered ≡ all_dropped_of node index ms + tx_of node index ms + waiting_at (port_at s node index)
  waits : length (waits_of node index ms) ≡ tx_of node index ms

counted_more : (ms : List Moment) (m : Moment) (node index : ℕ) → IsCountedUpto ms m.before node index → IsCounted (port_at m.before node index) (port_at m.after node index) (acts_at node index m) (wait_at node index m) → IsCountedUpto (ms ++ m ∷ []) m.after node index
counted_more ms m node index upto is = record {
  placed =
      let dropped = all_drops_more node index ms m in
      let sent = sum_more (λ (n : Moment). tx_in (acts_at node index n)) ms m in
      let once = reported_once (acts_at node index m) in
      omega (arith, dropped, sent, once, upto.placed, is.balance);
  waits =
      let sent = sum_more (λ (n : Moment). tx_in (acts_at node index n)) ms m in
      let all = ap length (given_more (wait_at node index) ms m) in
      let both = length-append (waits_of node index ms) (option_to_list (wait_at node index m)) in
      omega (arith, sent, all, both, upto.waits, is.waits);
}

module _ (p : ScenarioParts) (is_scenario : IsScenario p) (n : ℕ) (lines : List TraceLine) (s : State) (comes : ComesTo p n lines s) (line : TraceLine) (t : State) (next : step s ≡ Some (line, t)) where
  abbrev m : Moment
  m = record { before = s; line = line; after = t }

  abbrev is : IsStep s line t
  is = is_step s line t next

  here : (node index : ℕ) → line.key.node ≡ node → index < length (part_at s node).links → IsCounted (port_at s node index) (port_at t node index) (acts_at node index m) (wait_at node index m)
  here node index at inside =
      let acts = acts_between (port_at s node index).offered (port_at t node index) line in
      let wait = wait_in (port_at s node index).offered (port_at t node index) line (wait_of_given line.key.time (port_at s node index)) in
      let counted : IsCounted (port_at s node index) (port_at t node index) acts wait =
      subst (λ k. IsCounted (port_at s k index) (port_at t k index) (acts_between (port_at s k index).offered (port_at t k index) line) (wait_in (port_at s k index).offered (port_at t k index) line (wait_of_given line.key.time (port_at s k index)))) at
      (passes line.key.time (port_at s line.key.node index) (port_at t line.key.node index) (frees (port_at t line.key.node index).link line.event) _
      (passage p is_scenario n lines s comes line t next index (subst (λ k. index < length (part_at s k).links) (sym at) inside))) in
      let test = sym (eq-eqb line.key.node node at) in
      subst (λ b. IsCounted (port_at s node index) (port_at t node index) (cond b acts []) (cond b wait None)) test counted

  there : (node index : ℕ) → line.key.node ≢ node → IsCounted (port_at s node index) (port_at t node index) (acts_at node index m) (wait_at node index m)
  there node index apart =
      let acts = acts_between (port_at s node index).offered (port_at t node index) line in
      let wait = wait_in (port_at s node index).offered (port_at t node index) line (wait_of_given line.key.time (port_at s node index)) in
      let same : port_at t node index ≡ port_at s node index = ap (λ (x : PartState). (link_at x.links index).port) (part_elsewhere s line t is node (λ at. apart (sym at))) in
      let offered = ap (λ (q : PortState). q.offered) same in
      let waiting = ap (λ (q : PortState). waiting_at q) same in
      subst (λ b. IsCounted (port_at s node index) (port_at t node index) (cond b acts []) (cond b wait None)) (sym (test_no line.key.node node apart))
      (record { balance = omega (arith, offered, waiting); waits = refl })

  counted : (ms : List Moment) (node index : ℕ) → index < length (part_at s node).links → IsCountedUpto ms s node index → IsCountedUpto (ms ++ m ∷ []) t node index
  counted ms node index inside upto =
      counted_more ms m node index upto
      (⊎_elim (λ (at : line.key.node ≡ node). here node index at inside) (λ (apart : line.key.node ≢ node). there node index apart) (cases_eq line.key.node node))

  pub moments_more : moments (initial p) (suc n) ≡ moments (initial p) n ++ m ∷ []
  moments_more =
      ap (λ o. moments (initial p) n ++ following o) comes
      ∙ ap (λ o. moments (initial p) n ++ option_to_list (option_map {U = Moment} (λ (x : TraceLine × State). record { before = s; line = x.0; after = x.1 }) o)) next

  -- a link of the state after a step was one of the state before
  was_inside : (node index : ℕ) → index < length (part_at t node).links → index < length (part_at s node).links
  was_inside node index inside =
      let within = node_there t node index inside in
      let same = links_stay s line t is node (omega (arith, within, size_stays s line t is)) in
      omega (arith, inside, same)

-- before any event
abbrev IsFresh : LinkState → Type 0
IsFresh link = (link.port.offered ≡ 0) × (waiting_at link.port ≡ 0)

all_fresh : (xs : List (ℕ × LinkPart)) → AllByRecursion IsFresh (map initial_link xs)
all_fresh [] = tt
all_fresh (x ∷ xs) = ((refl, ap length (queues_open_empty x.1.queue x.1.capacity).empty), all_fresh xs)

opened : (p : ScenarioParts) → IsScenario p → (node index : ℕ) → index < length (part_at (initial p) node).links → IsCountedUpto [] (initial p) node index
opened p is_scenario node index inside =
    let sound = (sound_run p 0 [] (initial p) is_scenario refl).sound in
    let within : node < length p.nodes = (let there = node_there (initial p) node index inside in omega (arith, there, sound.nodes_are)) in
    let part = opened_part p node _ (slice_get-get_or p.nodes node Router within) in
    let links : (part_at (initial p) node).links ≡ map initial_link (leaving_links p.links node) = ap (λ (x : PartState). x.links) part in
    let fresh : IsFresh (link_at (part_at (initial p) node).links index) =
    all_here IsFresh (part_at (initial p) node).links index no_link inside (subst (AllByRecursion IsFresh) (sym links) (all_fresh (leaving_links p.links node))) in
    let none : all_dropped_of node index [] ≡ 0 = refl in
    record { placed = omega (arith, fresh.0, fresh.1, none); waits = refl }

all_counted : (p : ScenarioParts) (n : ℕ) (lines : List TraceLine) (s : State) → IsScenario p → ComesTo p n lines s → (node index : ℕ) → index < length (part_at s node).links → IsCountedUpto (moments (initial p) n) s node index
all_counted p zero lines s is_scenario comes node index inside =
    let same : s ≡ initial p = ap (λ (x : List TraceLine × State). x.1) (sym (same_some ([], initial p) (lines, s) comes)) in
    subst (λ u. index < length (part_at u node).links → IsCountedUpto [] u node index) (sym same) (opened p is_scenario node index) inside
all_counted p (suc n) lines s is_scenario comes node index inside =
    option_and_then_some one_step_more (run (initial p) n) (lines, s) comes (λ so_far was now.
    of_one_more so_far lines s now (λ line next lines_are.
    let before : index < length (part_at so_far.1 node).links = was_inside p is_scenario n so_far.0 so_far.1 was line s next node index inside in
    subst (λ ms. IsCountedUpto ms s node index) (sym (moments_more p is_scenario n so_far.0 so_far.1 was line s next))
    (counted p is_scenario n so_far.0 so_far.1 was line s next (moments (initial p) n) node index before (all_counted p n so_far.0 so_far.1 is_scenario was node index before))))

pub offered_are_placed : OfferedArePlaced
offered_are_placed p n lines s is_scenario comes node index inside = (all_counted p n lines s is_scenario comes node index inside).placed

pub each_sent_has_its_wait : EachSentHasItsWait
each_sent_has_its_wait p n lines s is_scenario comes node index inside = (all_counted p n lines s is_scenario comes node index inside).waits

-- so at most one packet begins to be sent at each link
at_most_one : (wait : Option ℕ) (n : ℕ) → length (option_to_list wait) ≡ n → n ≤ 1
at_most_one None n is = omega (arith, is)
at_most_one (Some wait) n is = omega (arith, is)

freed_or_offered : (p : ScenarioParts) (n : ℕ) (lines : List TraceLine) (s : State) → IsScenario p → ComesTo p n lines s → (line : TraceLine) (t : State) → step s ≡ Some (line, t) → EachFreedOrOffered s line t
freed_or_offered p n lines s is_scenario comes line t next i inside =
    let was = port_at s line.key.node i in
    let now_is = port_at t line.key.node i in
    let freed = frees now_is.link line.event in
    let acts = acts_between was.offered now_is line in
    record {
      sends = at_most_one (cond freed (wait_of_given line.key.time was) (cond (nat_lt 0 (tx_in acts)) (Some 0) None)) (tx_in acts)
          (passes line.key.time was now_is freed acts (passage p is_scenario n lines s comes line t next i inside)).waits;
      offers = none_offered_where p is_scenario n lines s comes line t next i inside line.event refl;
    }

pub freed_or_offered_in_run : (f : Figures) (r : Reached) (line : TraceLine) (t : State) → AreOfSomeRun f r → step r.state ≡ Some (line, t) → EachFreedOrOffered r.state line t
freed_or_offered_in_run f r line t some next = freed_or_offered some.scenario r.position some.of.lines r.state some.is_scenario some.of.comes line t next
