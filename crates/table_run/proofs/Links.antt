-- The links of a node are those of the scenario that leave it.
use Rattle.sim_time.specs.Serial.{IsRate}
use Rattle.std.proofs.Common.{◌≡◌, ℕ, ◌+◌, ◌<◌, ◌≤◌, ◌==◌, List, length, get_or, map, sym, ap, subst, ◌∙◌, Some, arith, eqb-true, eq-eqb, true}
use Rattle.std.proofs.lemmas.List.{length-map}
use Rattle.std.proofs.lemmas.Option.{slice_get-map, slice_get_within, slice_get-get_or, get_or_from_slice_get}
use Rattle.std.specs.List.{slice_get, position}
use Rattle.std.specs.Option.{option_map, option_and_then}
use Rattle.scenario_image.specs.declared.parts.LinkPart.{LinkPart}
use Rattle.scenario_image.specs.declared.parts.ScenarioParts.{ScenarioParts}
use Rattle.scenario_image.specs.LinkLimits.{IsLinkInLimits}
use Rattle.scenario_image.specs.Kinds.{link_source}
use Rattle.scenario_image.specs.Paths.{route_link}
use Rattle.scenario_image.specs.Scenario.{IsScenario}
use Rattle.scenario_image.proofs.Courses.{mapped_some, all_at}
use Rattle.node_core.specs.Initial.{leaving_links, initial_link, initial_links, exit_to}
use Rattle.node_core.specs.Part.{LinkState, link_at, no_link}
use Rattle.table_run.specs.Sound.{afresh}
use Rattle.table_run.proofs.Lists.{IsAt, all_here, all_numbered, one_place, among_passing, number_found}
use Rattle.table_run.proofs.PortMoves.{IsLink}

-- a link of a node is the one of its number, which leaves the node
pub record IsPartOf (p : ScenarioParts) (node : ℕ) (link : LinkState) : Type 0 where
  pub part : LinkPart
  pub its_part : slice_get p.links link.port.link ≡ Some part
  pub from_here : part.from ≡ node
  pub to_is : link.to ≡ part.to
  pub rate_is : link.port.rate ≡ part.rate
  pub delay_is : link.port.delay ≡ part.delay

module _ (p : ScenarioParts) (node : ℕ) (links : List LinkState) (its_links : map afresh links ≡ initial_links p.links node) where
  -- the numbered link at an index
  numbered_at : (index : ℕ) → index < length links → (x : ℕ × LinkPart) × (slice_get (leaving_links p.links node) index ≡ Some x) × (initial_link x ≡ afresh (link_at links index))
  numbered_at index within =
      mapped_some initial_link (slice_get (leaving_links p.links node) index) (afresh (link_at links index))
      (sym (slice_get-map initial_link (leaving_links p.links node) index) ∙ ap (λ ls. slice_get ls index) (sym its_links) ∙ slice_get-map afresh links index ∙ ap (option_map afresh) (slice_get-get_or links index no_link within))

  pub link_part : (index : ℕ) → index < length links → IsPartOf p node (link_at links index)
  link_part index within =
      let (x, there, is) = numbered_at index within in
      let all = all_numbered (λ (y : ℕ × LinkPart). y.1.from == node) 0 p.links in
      let here = all_here (λ (y : ℕ × LinkPart). IsAt p.links 0 y × ((y.1.from == node) ≡ true)) (leaving_links p.links node) index x (slice_get_within (leaving_links p.links node) index x there) all in
      let at : get_or (leaving_links p.links node) index x ≡ x = get_or_from_slice_get (leaving_links p.links node) index x x there in
      let known = subst (λ (y : ℕ × LinkPart). IsAt p.links 0 y × ((y.1.from == node) ≡ true)) at here in
      let number : known.0.place ≡ (link_at links index).port.link = (let a = known.0.number_is in let b = ap (λ (l : LinkState). l.port.link) is in omega (arith, a, b)) in
      record {
        part = x.1;
        its_part = ap (slice_get p.links) (sym number) ∙ known.0.there;
        from_here = eqb-true _ _ known.1;
        to_is = sym (ap (λ (l : LinkState). l.to) is);
        rate_is = sym (ap (λ (l : LinkState). l.port.rate) is);
        delay_is = sym (ap (λ (l : LinkState). l.port.delay) is);
      }

  -- two of one number are one
  pub one_index : (i j : ℕ) → i < length links → j < length links → (link_at links i).port.link ≡ (link_at links j).port.link → i ≡ j
  one_index i j within also same =
      let (x, there, is) = numbered_at i within in
      let (y, there', is') = numbered_at j also in
      one_place (λ (y : ℕ × LinkPart). y.1.from == node) 0 p.links i j x y there there' (ap (λ (l : LinkState). l.port.link) is ∙ same ∙ sym (ap (λ (l : LinkState). l.port.link) is'))

  length_is : length links ≡ length (leaving_links p.links node)
  length_is = sym (length-map links afresh) ∙ ap length its_links ∙ length-map (leaving_links p.links node) initial_link

  -- a router's exit to where it has a route
  pub exit_is : (destination next : ℕ) → route_link p.routes node destination ≡ Some next → link_source p.links next ≡ Some node
      → (index : ℕ) × (exit_to p node destination ≡ Some index) × (index < length links) × ((link_at links index).port.link ≡ next)
  exit_is destination next route leaves =
      let (link, at_next, from) = mapped_some (λ (l : LinkPart). l.from) (slice_get p.links next) node leaves in
      let (j, there) = among_passing (λ (y : ℕ × LinkPart). y.1.from == node) 0 p.links next link at_next (eq-eqb link.from node from) in
      let (i, found, within, number) = number_found (leaving_links p.links node) next j (0 + next, link) there (omega arith) in
      let inside : i < length links = subst (λ l. i < l) (sym length_is) within in
      let (x, at, is) = numbered_at i inside in (
        i,
        ap (option_and_then (λ number. position (λ (x : ℕ × LinkPart). x.0 == number) (leaving_links p.links node))) route ∙ found,
        inside,
        sym (ap (λ (l : LinkState). l.port.link) is) ∙ ap (λ (y : ℕ × LinkPart). y.0) {x = x} (sym (get_or_from_slice_get (leaving_links p.links node) i x (0 + next, link) at)) ∙ number,
      )

  -- and it is within limits
  pub link_in_limits : IsScenario p → (index : ℕ) → index < length links → IsLink (link_at links index).port
  link_in_limits is_scenario index within =
      let is = link_part index within in
      let limits : IsLinkInLimits (length p.nodes) is.part = all_at (IsLinkInLimits (length p.nodes)) p.links (link_at links index).port.link is.part is_scenario.in_limits.each_link is.its_part in
      record {
        rate_range = subst (λ r. IsRate r) (sym is.rate_is) limits.rate_range;
        delay_least = subst (λ d. 1 ≤ d) (sym is.delay_is) limits.delay_range.0;
        delay_most = subst (λ d. d ≤ 10000000000) (sym is.delay_is) limits.delay_range.1;
      }

  -- a link that leaves the node is one of the node's
  pub leaving_index : (number : ℕ) → link_source p.links number ≡ Some node → (index : ℕ) × (index < length links)
  leaving_index number leaves =
      let (link, at_number, from) = mapped_some (λ (l : LinkPart). l.from) (slice_get p.links number) node leaves in
      let (j, there) = among_passing (λ (y : ℕ × LinkPart). y.1.from == node) 0 p.links number link at_number (eq-eqb link.from node from) in
      (j, subst (λ l. j < l) (sym length_is) (slice_get_within (leaving_links p.links node) j (0 + number, link) there))
