-- A link of a run stands among those that leave its node.
use Rattle.std.proofs.Common.{◌≡◌, ℕ, suc, ◌+◌, ◌<◌, ◌≤◌, List, length, take, get_or, sym, ap, ◌∙◌, ⊎_elim, arith, eq-eqb, refl}
use Rattle.std.proofs.lemmas.Bool.{cases_lt}
use Rattle.std.proofs.lemmas.List.{length-map, get_or-map, get_or_past}
use Rattle.std.proofs.Math.ListN.{get_or-map as get_or_each}
use Rattle.scenario_image.specs.declared.parts.LinkPart.{LinkPart}
use Rattle.scenario_image.specs.declared.parts.ScenarioParts.{ScenarioParts}
use Rattle.scenario_image.specs.Ends.{leaves}
use Rattle.scenario_image.specs.Scenario.{IsScenario}
use Rattle.node_core.specs.Initial.{initial_link, initial_links, leaving_links}
use Rattle.node_core.specs.Part.{LinkState, link_at, no_link}
use Rattle.node_core.specs.TraceLine.{TraceLine}
use Rattle.table_run.specs.State.{State, part_at}
use Rattle.table_run.specs.Sound.{afresh}
use Rattle.table_run.specs.Laws.{ComesTo}
use Rattle.table_run.proofs.RunLaws.{sound_run}
use Rattle.net_machine.specs.Wiring.{no_link_part, link_part, from_of, exit_of}
use Rattle.net_machine.proofs.Counting.{at_count}

module _ (s : State) (n : ℕ) (p : ScenarioParts) (lines : List TraceLine) (is_p : IsScenario p) (comes : ComesTo p n lines s) (number : ℕ) (under : number < length p.links) where
  abbrev node : ℕ
  node = from_of p.links number

  abbrev index : ℕ
  index = exit_of p.links number

  abbrev other : ℕ × LinkPart
  other = (suc number, no_link_part)

  at : get_or (leaving_links p.links node) index other ≡ (0 + number, link_part p.links number)
  at = at_count (leaves node) 0 p.links number no_link_part other under (eq-eqb node node refl)

  inside : index < length (leaving_links p.links node)
  inside =
      ⊎_elim (λ (yes' : index < length (leaving_links p.links node)). yes')
      (λ (past : length (leaving_links p.links node) ≤ index).
      let differ : suc number ≡ 0 + number = ap (λ (x : ℕ × LinkPart). x.0) (sym (get_or_past (leaving_links p.links node) index other past) ∙ at) in
      absurd (omega (arith, differ)))
      (cases_lt index (length (leaving_links p.links node)))

  its_links : Rattle.std.proofs.Common.map afresh (part_at s node).links ≡ initial_links p.links node
  its_links =
      let from = (is_p.in_limits.each_link number no_link_part under).from_node in
      ((sound_run p n lines s is_p comes).sound.each_node node from).its_links

  pub exit_there : (index < length (part_at s node).links) × ((link_at (part_at s node).links index).port.link ≡ number)
  exit_there = (
    (let one = length-map (part_at s node).links afresh in
        let two : length (Rattle.std.proofs.Common.map afresh (part_at s node).links) ≡ length (initial_links p.links node) = ap length its_links in
        let three = length-map (leaving_links p.links node) initial_link in
        let here = inside in
        omega (arith, one, two, three, here)),
    ap (λ (l : LinkState). l.port.link)
        (sym (get_or_each afresh (part_at s node).links index no_link)
        ∙ ap (λ (ls : List LinkState). link_at ls index) its_links
        ∙ get_or-map initial_link (leaving_links p.links node) index other no_link inside
        ∙ ap initial_link at)
        ∙ omega arith,
  )
