-- What was counted of each flow and each link of a run.
use Rattle.std.proofs.Common.{◌≡◌, ℕ, zero, suc, ◌+◌, ◌<◌, ◌≤◌, ◌==◌, Bool, true, false, cond, List, [], ◌∷◌, length, take, get_or, refl, sym, ap, subst, ◌∙◌, Some, arith, rules}
use Rattle.std.specs.List.{count_by, enumerate_from, AllByRecursion}
use Rattle.std.proofs.lemmas.List.{length-map, get_or-map}
use Rattle.std.proofs.lemmas.List.FromFn.{get_or-enumerate_from, length-enumerate_from}
use Rattle.std.proofs.lemmas.Option.{slice_get-get_or}
use Rattle.sim_time.specs.declared.limits.TheConstants.{LATEST_END}
use Rattle.reno_sender.specs.declared.fields.SenderFields.{SenderFields}
use Rattle.scenario_image.specs.declared.parts.FlowPart.{FlowPart}
use Rattle.scenario_image.specs.declared.parts.LinkPart.{LinkPart}
use Rattle.scenario_image.specs.declared.parts.ScenarioParts.{ScenarioParts}
use Rattle.scenario_image.specs.Scenario.{IsScenario}
use Rattle.sim_time.specs.declared.variant.TheConstants.{RENO}
use Rattle.node_core.specs.declared.role.Role.TheVariants.{Sends}
use Rattle.node_core.specs.Initial.{leaving_links, initial_link}
use Rattle.node_core.specs.Part.{PartState, LinkState}
use Rattle.node_core.specs.TraceLine.{TraceLine}
use Rattle.tournament.proofs.Maps.{same_some}
use Rattle.table_run.specs.Laws.{IsSoundRun}
use Rattle.table_run.specs.Sound.{afresh}
use Rattle.table_run.specs.State.{State, part_at, no_part, initial, run, step}
use Rattle.table_run.proofs.Due.{is_due}
use Rattle.table_run.proofs.RunLaws.{sound_run}
use Rattle.table_run.proofs.Runs.{of_run, of_step, run_end, step_end}
use Rattle.net_machine.specs.Run.{Reached}
use Rattle.net_machine.specs.Wiring.{from_of, exit_of, no_link_part}
use Rattle.net_machine.proofs.Counting.{passing, count-cons}
use Rattle.figures.specs.Moments.{Moment, Base, moments, turns_at}
use Rattle.figures.specs.Senders.{AreOfTurns}
use Rattle.figures.specs.Links.{AreOfLink}
use Rattle.figures.specs.Figures.{last_line, AreOfRun}
use Rattle.figures.specs.declared.figures.Figures.{Figures}
use Rattle.figures.specs.declared.sender.SenderFigures.{SenderFigures}
use Rattle.figures.specs.declared.links.NodeLinks.{NodeLinks}
use Rattle.figures.specs.declared.link.LinkFigures.{LinkFigures}
use Rattle.figures_text.specs.declared.summary.FlowSummary.{FlowSummary}
use Rattle.figures_text.specs.declared.summary.LinkSummary.{LinkSummary}
use Rattle.figures_text.specs.Summaries.{flow_summary, link_summary, flow_summaries, link_summaries}

-- a line's moment is not past the end
abbrev IsBy : ℕ → TraceLine → Type 0
IsBy end line = line.key.time ≤ end

line_by : (s t : State) (line : TraceLine) → step s ≡ Some (line, t) → line.key.time ≤ s.end
line_by s t line e = of_step s line t e (λ k v due_is new_is line_is.
    let less = (is_due s k v due_is).in_time in
    let same : line.key.time ≡ k.time = ap (λ (l : TraceLine). l.key.time) line_is in
    omega (arith, less, same))

lines_by : (n : ℕ) (s t : State) (lines : List TraceLine) (end : ℕ) → s.end ≡ end → run s n ≡ Some (lines, t) → AllByRecursion (IsBy end) lines
lines_by zero s t lines end is e = subst (AllByRecursion (IsBy end)) (ap (λ (x : List TraceLine × State). x.0) (same_some ([], s) (lines, t) e)) tt
lines_by (suc n) s t lines end is e =
    of_run s t n lines e (λ line u rest first others lines_are.
    let here = line_by s u line first in
    let by : line.key.time ≤ end = omega (arith, here, is) in
    subst (AllByRecursion (IsBy end)) (sym lines_are) (by, lines_by n u t rest end (step_end s u line first ∙ is) others))

last_by : (since end : ℕ) (lines : List TraceLine) → since ≤ end → AllByRecursion (IsBy end) lines → last_line since lines ≤ end
last_by since end [] before all = before
last_by since end (line ∷ lines) before all = last_by line.key.time end lines all.0 all.1

-- a node that sends is one of them
pub sends_within : (parts : List PartState) (node flow : ℕ) (fields : SenderFields) → (get_or parts node no_part).role ≡ Sends flow fields → node < length parts
sends_within [] node flow fields is = absurd cc
sends_within (part ∷ parts) zero flow fields is = omega arith
sends_within (part ∷ parts) (suc node) flow fields is = let rest = sends_within parts node flow fields is in omega (arith, rest)

-- of those that pass more are there than before one of them
module _ {X : Type 0} (p : X → Bool) where
  pub count_under : (base : ℕ) (xs : List X) (place : ℕ) (d : X) → place < length xs → p (get_or xs place d) ≡ true → count_by p (take place xs) < length (passing p base xs)
  count_under base [] place d under passes = absurd (omega (arith, under))
  count_under base (x ∷ xs) zero d under passes = subst (λ b. 0 < length (cond b ((base, x) ∷ passing p (base + 1) xs) (passing p (base + 1) xs))) (sym passes) (omega arith)
  count_under base (x ∷ xs) (suc place) d under passes =
      let inside : place < length xs = omega (arith, under) in
      let rest = count_under (base + 1) xs place d inside passes in
      let count = count-cons p x (take place xs) in
      elim (p x) as (λ b. p x ≡ b → count_by p (take (suc place) (x ∷ xs)) < length (cond b ((base, x) ∷ passing p (base + 1) xs) (passing p (base + 1) xs))) [
        | true ↦ λ yes'. let one = ap {B = ℕ} (λ b. cond b 1 0) yes' in omega (arith, rest, count, one)
        | false ↦ λ no'. let none = ap {B = ℕ} (λ b. cond b 1 0) no' in omega (arith, rest, count, none)
      ] refl

same_number : (n : ℕ) → (n == n) ≡ true
same_number n = search rules

pub exit_within : (links : List LinkPart) (number : ℕ) → number < length links → exit_of links number < length (leaving_links links (from_of links number))
exit_within links number under = count_under (λ (link : LinkPart). link.from == from_of links number) 0 links number no_link_part under (same_number (from_of links number))

-- what was counted of a flow's sender
pub record IsCounted (b : Base) (ms : List Moment) (f : Figures) (flow : FlowPart) : Type 0 where
  pub within : flow.sender < length f.senders.items
  pub turns : (other : SenderFigures) → AreOfTurns (turns_at flow.sender b.earlier) (turns_at flow.sender ms) (get_or f.senders.items flow.sender other)

-- and of a link
pub record IsExitCounted (p : ScenarioParts) (b : Base) (ms : List Moment) (s : State) (f : Figures) (number : ℕ) : Type 0 where
  pub within : from_of p.links number < length f.links.items
  pub index : (other : NodeLinks) → exit_of p.links number < length (get_or f.links.items (from_of p.links number) other).figures.items
  pub link : (other : NodeLinks) (link : LinkFigures) → AreOfLink b ms s (from_of p.links number) (exit_of p.links number) (get_or (get_or f.links.items (from_of p.links number) other).figures.items (exit_of p.links number) link)

module _ (p : ScenarioParts) (b : Base) (f : Figures) (r : Reached) (is_scenario : IsScenario p) (of : AreOfRun p b f r) where
  abbrev sound : IsSoundRun p of.lines r.state
  sound = sound_run p r.position of.lines r.state is_scenario of.comes

  abbrev events : List Moment
  events = moments b.state of.count

  -- no event was past the end
  pub last_most : f.last ≤ p.end
  last_most =
      subst (λ n. n ≤ p.end) (sym of.last)
      (last_by b.since p.end of.counted of.base.in_time (lines_by of.count b.state r.state of.counted p.end (run_end b.before (initial p) b.state of.base.lines of.base.comes) of.goes_on))

  pub end_most : p.end ≤ LATEST_END
  end_most = let most = is_scenario.in_limits.end_range.1 in omega (arith, most)

  pub flow_counted : (i : ℕ) (d : FlowPart) → i < length p.flows → IsCounted b events f (get_or p.flows i d)
  flow_counted i d under =
      let flow = get_or p.flows i d in
      let ends = sound.sound.each_flow i flow (slice_get-get_or p.flows i d under) in
      let there = sends_within r.state.parts flow.sender i ends.fields ends.sender_role in
      record { within = subst (λ n. flow.sender < n) (sym of.figures.senders.size) there; turns = λ other. (of.figures.senders.each flow.sender other there).counted }

  links_of : (node : ℕ) → node < length p.nodes → length (part_at r.state node).links ≡ length (leaving_links p.links node)
  links_of node inside =
      sym (length-map (part_at r.state node).links afresh) ∙ ap (λ (links : List LinkState). length links) (sound.sound.each_node node inside).its_links ∙ length-map (leaving_links p.links node) initial_link

  pub link_counted : (number : ℕ) → number < length p.links → IsExitCounted p b events r.state f number
  link_counted number under =
      let node = from_of p.links number in
      let index = exit_of p.links number in
      let inside : node < length p.nodes = (is_scenario.in_limits.each_link number no_link_part under).from_node in
      let there : node < length r.state.parts = subst (λ n. node < n) (sym sound.sound.nodes_are) inside in
      let most : index < length (part_at r.state node).links = subst (λ n. index < n) (sym (links_of node inside)) (exit_within p.links number under) in
      let size : (other : NodeLinks) → index < length (get_or f.links.items node other).figures.items = λ other. subst (λ n. index < n) (sym (of.figures.links.each node other there).size) most in
      record { within = subst (λ n. node < n) (sym of.figures.links.count) there; index = size; link = λ other link. (of.figures.links.each node other there).each index link (size other) }

-- what stands where there is no flow
abbrev pub no_flow_part : FlowPart
no_flow_part = record { sender = 0; receiver = 0; mss = 0; segments = 0; start = 0; rwnd = 0; delack = 0; variant = RENO }

-- what is said of them, one by one
module _ (p : ScenarioParts) (b : Base) (ms : List Moment) (s : State) where
  pub flow_said : (i : ℕ) (d : FlowPart) (e : FlowSummary) → i < length p.flows → get_or (flow_summaries p b ms s) i e ≡ flow_summary b ms s (get_or p.flows i d)
  flow_said i d e under = get_or-map (flow_summary b ms s) p.flows i d e under

  pub flows_many : length (flow_summaries p b ms s) ≡ length p.flows
  flows_many = length-map p.flows (flow_summary b ms s)

  pub link_said : (i : ℕ) (e : LinkSummary) → i < length p.links → get_or (link_summaries p b ms s) i e ≡ link_summary p b ms s i
  link_said i e under =
      let inside : i < length (enumerate_from 0 p.links) = subst (λ n. i < n) (sym (length-enumerate_from 0 p.links)) under in
      get_or-map (λ (numbered : ℕ × LinkPart). link_summary p b ms s numbered.0) (enumerate_from 0 p.links) i (0, no_link_part) e inside
      ∙ ap (λ (numbered : ℕ × LinkPart). link_summary p b ms s numbered.0) (get_or-enumerate_from 0 p.links i (0, no_link_part) under)
      ∙ (let same : 0 + i ≡ i = omega arith in ap (link_summary p b ms s) same)

  pub links_many : length (link_summaries p b ms s) ≡ length p.links
  links_many = length-map (enumerate_from 0 p.links) (λ (numbered : ℕ × LinkPart). link_summary p b ms s numbered.0) ∙ length-enumerate_from 0 p.links
