-- What each thing that is done at a link keeps holds of it in every state, with what the lines tell of it.
use Rattle.std.proofs.Common.{◌≡◌, ℕ, zero, suc, ◌<◌, ◌≤◌, List, [], ◌∷◌, ◌++◌, length, get_or, map, append-nil, refl, sym, ap, subst, ◌∙◌, Some, arith, ⊎_elim}
use Rattle.std.specs.List.{AllByRecursion}
use Rattle.std.proofs.lemmas.Option.{option_and_then_some, slice_get-get_or}
use Rattle.sim_time.specs.declared.key.Key.{Key}
use Rattle.scenario_image.specs.declared.parts.LinkPart.{LinkPart}
use Rattle.scenario_image.specs.declared.parts.NodeKind.TheVariants.{Router}
use Rattle.scenario_image.specs.declared.parts.ScenarioParts.{ScenarioParts}
use Rattle.scenario_image.specs.Scenario.{IsScenario}
use Rattle.port.specs.declared.acts.Act.{Act}
use Rattle.port.specs.Port.{PortState, PortStep}
use Rattle.node_core.specs.declared.event.Event.{Event}
use Rattle.node_core.specs.Initial.{leaving_links, initial_link, initial_part}
use Rattle.node_core.specs.Part.{LinkState, PartState, no_link}
use Rattle.node_core.specs.TraceLine.{TraceLine}
use Rattle.tournament.proofs.Maps.{same_some}
use Rattle.table_run.specs.State.{State, initial, part_at, due, effect_of, stepped, line_of, one_step_more, run}
use Rattle.table_run.specs.Sound.{EachEvent}
use Rattle.table_run.specs.Laws.{IsSoundRun}
use Rattle.table_run.proofs.Due.{is_due}
use Rattle.table_run.proofs.Lists.{all_here, all_right}
use Rattle.table_run.proofs.Moved.{node_there}
use Rattle.table_run.proofs.Initial.{opened_part}
use Rattle.table_run.proofs.PortMoves.{IsLink}
use Rattle.table_run.proofs.RowLinks.{is_link}
use Rattle.table_run.proofs.Runs.{of_step, of_one_more}
use Rattle.table_run.proofs.RunLaws.{sound_run, kept_by}
use Rattle.run_laws.specs.Links.{port_of_link, acts_at}
use Rattle.run_laws.proofs.Events.{its_own, acts_more, IsLeft, IsDone, AtLink, nodes_there, at_link}
use Rattle.run_laws.proofs.Touched.{Touches}

-- what holds of a link at a moment, by what was told of it
abbrev pub LinkFact : Type 1
LinkFact = ℕ → List Act → PortState → Type 0

-- it holds at first, as time goes on, and after whatever is done at the link
pub record IsKeptBy (P : LinkFact) : Type 0 where
  pub first : (x : ℕ × LinkPart) → P 0 [] (initial_link x).port
  pub later : (now then : ℕ) (acts : List Act) (port : PortState) → now ≤ then → P now acts port → P then acts port
  pub done : (now : ℕ) (acts : List Act) (old : PortState) (step : PortStep) → IsLink old → Touches now old step → P now acts old → P now (acts ++ step.acts) step.port

module _ (P : LinkFact) (kept : IsKeptBy P) where
  -- the facts of all links at a moment before which nothing is pending
  pub record HoldsNow (lines : List TraceLine) (s : State) : Type 0 where
    pub moment : ℕ
    pub upto : (now : ℕ) → AllByRecursion (λ (line : TraceLine). line.key.time ≤ now) lines → moment ≤ now
    pub none_past : EachEvent (λ k v. moment ≤ k.time) s.pending
    pub holds : (node index : ℕ) → index < length (part_at s node).links → P moment (acts_at (port_of_link s node index).link lines) (port_of_link s node index)

  after_event : (now : ℕ) (lines : List TraceLine) (line : TraceLine) (s t : State) (node index : ℕ) (a : AtLink s t now line node index) → IsLink (port_of_link s node index) → P now (acts_at (port_of_link s node index).link lines) (port_of_link s node index)
      → P now (acts_at (port_of_link t node index).link (lines ++ line ∷ [])) (port_of_link t node index)
  after_event now lines line s t node index a link was =
      let old = port_of_link s node index in
      let new = port_of_link t node index in
      ⊎_elim
      (λ (l : IsLeft old new (its_own old.link line.acts)).
      let same : acts_at old.link lines ≡ acts_at old.link (lines ++ line ∷ []) = sym (append-nil (acts_at old.link lines)) ∙ ap (λ ls. acts_at old.link lines ++ ls) (sym l.none) ∙ sym (acts_more old.link lines line) in
      subst (λ (q : PortState). P now (acts_at q.link (lines ++ line ∷ [])) q) (sym l.same) (subst (λ ls. P now ls old) same was))
      (λ (d : IsDone now old new (its_own old.link line.acts)).
      let more : acts_at old.link lines ++ d.step.acts ≡ acts_at new.link (lines ++ line ∷ []) = ap (λ ls. acts_at old.link lines ++ ls) (sym d.acts_are) ∙ sym (acts_more old.link lines line) ∙ ap (λ n. acts_at n (lines ++ line ∷ [])) (sym d.same_number) in
      subst (λ ls. P now ls new) more (subst (P now (acts_at old.link lines ++ d.step.acts)) (sym d.new_is) (kept.done now (acts_at old.link lines) old d.step link d.touches was)))
      a.does

  after : (p : ScenarioParts) (lines : List TraceLine) (s : State) (k : Key) (v : Event) → IsScenario p → IsSoundRun p lines s → due s ≡ Some (k, v) → HoldsNow lines s → HoldsNow (lines ++ line_of (k, v) (effect_of s (k, v)) ∷ []) (stepped s k (effect_of s (k, v)))
  after p lines s k v is_scenario sound is before = record {
    moment = k.time;
    upto = λ now all. (all_right (λ (l : TraceLine). l.key.time ≤ now) lines (line_of (k, v) (effect_of s (k, v)) ∷ []) all).0;
    none_past = (kept_by p lines s k v is_scenario sound is).sound.not_past;
    holds = λ node index within.
        let a = at_link p is_scenario lines s k v sound is node index within in
        let port = port_of_link s node index in
        let link = is_link p is_scenario lines sound.moment s sound.sound node index (nodes_there p is_scenario lines s k v sound is node index a.within) a.within in
        after_event k.time lines (line_of (k, v) (effect_of s (k, v))) s (stepped s k (effect_of s (k, v))) node index a link
        (kept.later before.moment k.time (acts_at port.link lines) port (before.none_past k v (is_due s k v is).pending) (before.holds node index a.within));
  }

  all_first : (xs : List (ℕ × LinkPart)) → AllByRecursion (λ (l : LinkState). P 0 [] l.port) (map initial_link xs)
  all_first [] = tt
  all_first (x ∷ xs) = (kept.first x, all_first xs)

  at_first : (p : ScenarioParts) → IsScenario p → HoldsNow [] (initial p)
  at_first p is_scenario =
      let sound = (sound_run p zero [] (initial p) is_scenario refl).sound in
      record {
        moment = 0;
        upto = λ now _. omega arith;
        none_past = λ k v _. omega arith;
        holds = λ node index within.
            let nodes : node < length p.nodes = subst (λ n. node < n) sound.nodes_are (node_there (initial p) node index within) in
            let kind = get_or p.nodes node Router in
            let links : (part_at (initial p) node).links ≡ (initial_part p (node, kind)).links = ap (λ (x : PartState). x.links) (opened_part p node kind (slice_get-get_or p.nodes node Router nodes)) in
            all_here (λ (l : LinkState). P 0 [] l.port) (part_at (initial p) node).links index no_link within (subst (AllByRecursion (λ (l : LinkState). P 0 [] l.port)) (sym links) (all_first (leaving_links p.links node)));
      }

  pub in_every_state : (p : ScenarioParts) (n : ℕ) (lines : List TraceLine) (s : State) → IsScenario p → run (initial p) n ≡ Some (lines, s) → HoldsNow lines s
  in_every_state p zero lines s is e = subst (λ (q : List TraceLine × State). HoldsNow q.0 q.1) (same_some ([], initial p) (lines, s) e) (at_first p is)
  in_every_state p (suc n) lines s is e =
      option_and_then_some one_step_more (run (initial p) n) (lines, s) e (λ so_far was now.
      of_one_more so_far lines s now (λ line step_is lines_are.
      of_step so_far.1 line s step_is (λ k v due_is new_is line_is.
      let next = after p so_far.0 so_far.1 k v is (sound_run p n so_far.0 so_far.1 is was) due_is (in_every_state p n so_far.0 so_far.1 is was) in
      subst (λ ls. HoldsNow ls s) (sym lines_are) (subst (λ (q : TraceLine × State). HoldsNow (so_far.0 ++ q.0 ∷ []) q.1) (λ i. (sym line_is i, sym new_is i)) next))))
