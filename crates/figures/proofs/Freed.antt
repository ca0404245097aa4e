-- An event that frees a link of its node is the timer of that link.
use Rattle.std.proofs.Common.{◌≡◌, ℕ, suc, ◌+◌, ◌<◌, true, List, ◌∷◌, [], ◌++◌, length, map, get_or, sym, ap, ◌∙◌, Some, arith, eqb-true, true≢false}
use Rattle.std.proofs.Math.ListN.{get_or-map}
use Rattle.std.specs.Option.{option_map, option_and_then}
use Rattle.sim_time.specs.declared.key.Key.{Key}
use Rattle.scenario_image.specs.declared.parts.ScenarioParts.{ScenarioParts}
use Rattle.scenario_image.specs.Scenario.{IsScenario}
use Rattle.node_core.specs.declared.event.Event.{Event}
use Rattle.node_core.specs.declared.event.Event.TheVariants.{Start, Rto, DelAck, Free, Arrive}
use Rattle.node_core.specs.Part.{LinkState, no_link, link_at}
use Rattle.node_core.specs.TraceLine.{TraceLine}
use Rattle.table_run.specs.State.{State, part_at, due, step, one_step_more}
use Rattle.table_run.specs.Laws.{ComesTo, IsSoundRun}
use Rattle.table_run.specs.Sound.{afresh, Belongs}
use Rattle.table_run.proofs.Due.{IsDue, is_due}
use Rattle.table_run.proofs.Links.{one_index}
use Rattle.table_run.proofs.Moved.{node_there}
use Rattle.table_run.proofs.RunLaws.{sound_run}
use Rattle.figures.specs.Links.{port_at, frees}
use Rattle.figures.proofs.Along.{of_due}

-- the run goes on
pub goes_on : (p : ScenarioParts) (n : ℕ) (lines : List TraceLine) (s : State) (line : TraceLine) (t : State) → ComesTo p n lines s → step s ≡ Some (line, t) → ComesTo p (suc n) (lines ++ line ∷ []) t
goes_on p n lines s line t comes next = ap (option_and_then one_step_more) comes ∙ ap (option_map {U = List TraceLine × State} (λ (x : TraceLine × State). (lines ++ x.0 ∷ [], x.1))) next

-- two nodes whose links are the same before anything was offered have links of the same numbers
same_number : (ls ms : List LinkState) (i : ℕ) → map afresh ls ≡ map afresh ms → (link_at ls i).port.link ≡ (link_at ms i).port.link
same_number ls ms i same =
    ap (λ (l : LinkState). l.port.link) (sym (get_or-map afresh ls i no_link) ∙ ap (λ xs. get_or xs i (afresh no_link)) same ∙ get_or-map afresh ms i no_link)

module _ (p : ScenarioParts) (is_scenario : IsScenario p) (n : ℕ) (lines : List TraceLine) (s : State) (comes : ComesTo p n lines s) (line : TraceLine) (t : State) (next : step s ≡ Some (line, t)) where
  abbrev pub before : IsSoundRun p lines s
  before = sound_run p n lines s is_scenario comes

  abbrev after : IsSoundRun p (lines ++ line ∷ []) t
  after = sound_run p (suc n) (lines ++ line ∷ []) t is_scenario (goes_on p n lines s line t comes next)

  abbrev pub its : IsDue s line.key line.event
  its = is_due s line.key line.event (of_due s (due s) line t next)

  abbrev pub belongs : Belongs p s before.moment line.key line.event
  belongs = before.sound.belongs line.key line.event its.pending

  -- a link keeps its number
  pub number_stays : (node i : ℕ) → node < length s.parts → (port_at t node i).link ≡ (port_at s node i).link
  number_stays node i within =
      let nodes : node < length p.nodes = omega (arith, within, before.sound.nodes_are) in
      same_number (part_at t node).links (part_at s node).links i ((after.sound.each_node node nodes).its_links ∙ sym (before.sound.each_node node nodes).its_links)

  -- the link that the event frees is that of its timer, and is free when it comes
  record IsFreed (i : ℕ) : Type 0 where
    source : line.key.source ≡ 0
    number : line.key.number ≡ 3 + i
    in_time : (port_at s line.key.node i).next_free ≡ Some line.key.time

  freed_one : (event : Event) (i : ℕ) → i < length (part_at s line.key.node).links → Belongs p s before.moment line.key event → frees (port_at t line.key.node i).link event ≡ true → IsFreed i
  freed_one (Start flow) i inside of is = absurd (true≢false (sym is))
  freed_one (Rto flow) i inside of is = absurd (true≢false (sym is))
  freed_one (DelAck flow) i inside of is = absurd (true≢false (sym is))
  freed_one (Arrive packet) i inside of is = absurd (true≢false (sym is))
  freed_one (Free number) i inside of is =
      let within = node_there s line.key.node i inside in
      let nodes : line.key.node < length p.nodes = omega (arith, within, before.sound.nodes_are) in
      let same : (link_at (part_at s line.key.node).links i).port.link ≡ (link_at (part_at s line.key.node).links of.index).port.link =
      sym (number_stays line.key.node i within) ∙ sym (eqb-true number (port_at t line.key.node i).link is) ∙ sym of.link.its_number in
      let one : i ≡ of.index = one_index p line.key.node (part_at s line.key.node).links (before.sound.each_node line.key.node nodes).its_links i of.index inside of.link.within same in
      record {
        source = ap (λ (k : Key). k.source) of.timer.is_key;
        number = ap (λ (k : Key). k.number) of.timer.is_key ∙ ap (λ j. 3 + j) (sym one);
        in_time = ap (λ j. (port_at s line.key.node j).next_free) one ∙ of.timer.is_set;
      }

  pub freed : (i : ℕ) → i < length (part_at s line.key.node).links → frees (port_at t line.key.node i).link line.event ≡ true → (line.key.source ≡ 0) × (line.key.number ≡ 3 + i)
  freed i inside is = (let one = freed_one line.event i inside belongs is in (one.source, one.number))

  pub in_time : (i : ℕ) → i < length (part_at s line.key.node).links → frees (port_at t line.key.node i).link line.event ≡ true → (port_at s line.key.node i).next_free ≡ Some line.key.time
  in_time i inside is = (freed_one line.event i inside belongs is).in_time
