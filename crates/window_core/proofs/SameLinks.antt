-- Scenarios whose runs come to one state have one lookahead.
use Rattle.std.proofs.Common.{◌≡◌, ℕ, zero, suc, ◌+◌, ◌<◌, ◌≤◌, ◌==◌, cond, List, [], ◌∷◌, length, take, get_or, Option, Some, refl, sym, ap, subst, ◌∙◌, ⊎_elim, arith, eq-eqb, eqb-true}
use Rattle.std.proofs.lemmas.Bool.{cases_lt}
use Rattle.std.proofs.lemmas.List.{length-map, get_or-map, get_or_past}
use Rattle.std.specs.List.{count_by}
use Rattle.scenario_image.specs.declared.parts.LinkPart.{LinkPart}
use Rattle.scenario_image.specs.declared.parts.ScenarioParts.{ScenarioParts}
use Rattle.scenario_image.specs.Ends.{leaves}
use Rattle.scenario_image.specs.Scenario.{IsScenario}
use Rattle.node_core.specs.Initial.{initial_link, initial_links, leaving_links}
use Rattle.node_core.specs.Part.{LinkState, link_at, no_link}
use Rattle.node_core.specs.TraceLine.{TraceLine}
use Rattle.table_run.specs.State.{State, part_at}
use Rattle.table_run.specs.Sound.{afresh}
use Rattle.table_run.specs.Laws.{ComesTo}
use Rattle.table_run.proofs.RunLaws.{sound_run}
use Rattle.net_machine.specs.Wiring.{no_link_part, link_part, from_of}
use Rattle.net_machine.proofs.Counting.{at_count, passing_at}
use Rattle.window_law.specs.Lookahead.{lesser, lookahead}

-- a link of one list is that of its number in another
record IsSame (p q : List LinkPart) (number : ℕ) : Type 0 where
  within : number < length q
  from : (link_part q number).from ≡ (link_part p number).from
  to : (link_part q number).to ≡ (link_part p number).to
  delay : (link_part q number).delay ≡ (link_part p number).delay

module _ (p q : List LinkPart) (number : ℕ) (under : number < length p) (same : initial_links p (from_of p number) ≡ initial_links q (from_of p number)) where
  abbrev node : ℕ
  node = from_of p number

  abbrev index : ℕ
  index = count_by (leaves node) (take number p)

  abbrev other : ℕ × LinkPart
  other = (suc number, no_link_part)

  at : get_or (leaving_links p node) index other ≡ (0 + number, link_part p number)
  at = at_count (leaves node) 0 p number no_link_part other under (eq-eqb node node refl)

  inside : index < length (leaving_links p node)
  inside =
      ⊎_elim (λ (yes' : index < length (leaving_links p node)). yes')
      (λ (past : length (leaving_links p node) ≤ index).
      let differ : suc number ≡ 0 + number = ap (λ (x : ℕ × LinkPart). x.0) (sym (get_or_past (leaving_links p node) index other past) ∙ at) in
      absurd (omega (arith, differ)))
      (cases_lt index (length (leaving_links p node)))

  inside_too : index < length (leaving_links q node)
  inside_too =
      let one = length-map (leaving_links p node) initial_link in
      let two = length-map (leaving_links q node) initial_link in
      let both : length (initial_links p node) ≡ length (initial_links q node) = ap length same in
      let here = inside in
      omega (arith, one, two, both, here)

  same_link : IsSame p q number
  same_link =
      let it = passing_at (leaves node) 0 q index no_link_part other inside_too in
      let links : initial_link (0 + number, link_part p number) ≡ initial_link (0 + it.place, link_part q it.place) =
      sym (get_or-map initial_link (leaving_links p node) index other no_link inside ∙ ap initial_link at)
      ∙ ap (λ ls. link_at ls index) same
      ∙ get_or-map initial_link (leaving_links q node) index other no_link inside_too
      ∙ ap initial_link it.is in
      let numbers : 0 + number ≡ 0 + it.place = ap (λ (l : LinkState). l.port.link) links in
      let place : it.place ≡ number = omega (arith, numbers) in
      record {
        within = subst (λ n. n < length q) place it.within;
        from = ap (from_of q) (sym place) ∙ eqb-true (from_of q it.place) node it.passes;
        to = ap (λ n. (link_part q n).to) (sym place) ∙ sym (ap (λ (l : LinkState). l.to) links);
        delay = ap (λ n. (link_part q n).delay) (sym place) ∙ sym (ap (λ (l : LinkState). l.port.delay) links);
      }

same_ahead : (group : ℕ → ℕ) (p q : List LinkPart) → length p ≡ length q → ((n : ℕ) → n < length p → IsSame p q n) → lookahead group p ≡ lookahead group q
same_ahead group [] [] size each = refl
same_ahead group [] (l ∷ ls) size each = absurd (omega (arith, size))
same_ahead group (k ∷ ks) [] size each = absurd (omega (arith, size))
same_ahead group (k ∷ ks) (l ∷ ls) size each =
    let rest : lookahead group ks ≡ lookahead group ls =
    same_ahead group ks ls (omega (arith, size)) (λ n under.
    let one = each (suc n) (omega (arith, under)) in
    let within = one.within in
    record { within = omega (arith, within); from = one.from; to = one.to; delay = one.delay }) in
    let first = each 0 (omega arith) in
    λ i. cond (group (sym first.from i) == group (sym first.to i)) (rest i) (lesser (Some (sym first.delay i)) (rest i))

-- the last of a list of links is in the other too
no_longer : (p q : List LinkPart) → ((n : ℕ) → n < length p → IsSame p q n) → length p ≤ length q
no_longer p q each =
    ⊎_elim
    (λ (more : length q < length p). let at_end = (each (length q) more).within in absurd (omega (arith, at_end)))
    (λ (most : length p ≤ length q). most)
    (cases_lt (length q) (length p))

module _ (s : State) (n : ℕ) where
  -- the links that leave a node are told by its state
  its_links : (p : ScenarioParts) (lines : List TraceLine) → IsScenario p → ComesTo p n lines s → (node : ℕ) → node < length s.parts → Rattle.std.proofs.Common.map afresh (part_at s node).links ≡ initial_links p.links node
  its_links p lines is_p comes node under =
      let sound = (sound_run p n lines s is_p comes).sound in
      let size = sound.nodes_are in
      (sound.each_node node (omega (arith, under, size))).its_links

  module _ (p q : ScenarioParts) (first second : List TraceLine) (is_p : IsScenario p) (is_q : IsScenario q) (p_comes : ComesTo p n first s) (q_comes : ComesTo q n second s) where
    each_same : (number : ℕ) → number < length p.links → IsSame p.links q.links number
    each_same number under =
        let from = (is_p.in_limits.each_link number no_link_part under).from_node in
        let size = (sound_run p n first s is_p p_comes).sound.nodes_are in
        let node = from_of p.links number in
        let here : node < length s.parts = omega (arith, from, size) in
        same_link p.links q.links number under (sym (its_links p first is_p p_comes node here) ∙ its_links q second is_q q_comes node here)

  pub one_lookahead : (p q : ScenarioParts) (first second : List TraceLine) → IsScenario p → IsScenario q → ComesTo p n first s → ComesTo q n second s → (group : ℕ → ℕ) → lookahead group p.links ≡ lookahead group q.links
  one_lookahead p q first second is_p is_q p_comes q_comes group =
      let there = each_same p q first second is_p is_q p_comes q_comes in
      let back = each_same q p second first is_q is_p q_comes p_comes in
      let most = no_longer p.links q.links there in
      let least = no_longer q.links p.links back in
      same_ahead group p.links q.links (omega (arith, most, least)) there
