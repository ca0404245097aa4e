-- The nodes of a scenario at first are joined by its links.
use Rattle.std.proofs.Common.{◌≡◌, ℕ, suc, ◌+◌, ◌<◌, ◌≤◌, ◌==◌, Bool, true, false, cond, List, [], ◌∷◌, length, map, take, get_or, refl, sym, ap, subst, ◌∙◌, All, eq-eqb, ⊎_elim, arith}
use Rattle.std.proofs.lemmas.Bool.{cases_lt, eqb-true}
use Rattle.std.proofs.lemmas.List.{length-map, get_or-map}
use Rattle.std.proofs.lemmas.Option.{slice_get-get_or}
use Rattle.std.proofs.Math.ListN.{get_or-eq_default}
use Rattle.std.specs.List.{AllByRecursion, count_by}
use Rattle.scenario_image.specs.declared.parts.NodeKind.{NodeKind}
use Rattle.scenario_image.specs.declared.parts.NodeKind.TheVariants.{Sender, Receiver, Router}
use Rattle.scenario_image.specs.declared.parts.LinkPart.{LinkPart}
use Rattle.scenario_image.specs.declared.parts.FlowPart.{FlowPart}
use Rattle.scenario_image.specs.declared.parts.ScenarioParts.{ScenarioParts}
use Rattle.scenario_image.specs.Ends.{leaves, outgoing_count, HasItsLinks}
use Rattle.scenario_image.specs.Scenario.{IsScenario}
use Rattle.node_core.specs.EventQueueState.{Incoming, incoming_at, no_incoming}
use Rattle.node_core.specs.Part.{LinkState, link_at, no_link}
use Rattle.node_core.specs.Initial.{initial_link, initial_links, leaving_links, coming_links}
use Rattle.node_core.specs.Node.{NodeState}
use Rattle.net_machine.specs.Nodes.{no_node, node_at, initial_nodes}
use Rattle.net_machine.specs.Wiring.{no_link_part, link_part, from_of, exit_of, to_of, entry_of, leaving_at, coming_at, IsNetWire, IsExit, IsWired}
use Rattle.net_machine.proofs.Counting.{passing, at_count, IsPassing, passing_at}
use Rattle.net_machine.proofs.Opened.{opened}

pub all_recursion : {X : Type 0} (P : X → Type 0) (xs : List X) → All P xs → AllByRecursion P xs
all_recursion P [] all = tt
all_recursion P (x ∷ xs) all = (all 0 x (omega arith), all_recursion P xs (λ k d under. all (suc k) d (omega (arith, under))))

-- as many pass as are counted
passing_count : {X : Type 0} (p : X → Bool) (base : ℕ) (xs : List X) → length (passing p base xs) ≡ count_by p xs
passing_count p base [] = refl
passing_count p base (x ∷ xs) =
    elim (p x) as (λ b. p x ≡ b → length (cond b ((base, x) ∷ passing p (base + 1) xs) (passing p (base + 1) xs)) ≡ count_by p (x ∷ xs)) [
      | true ↦ λ yes'. (let a = passing_count p (base + 1) xs in let b = Rattle.net_machine.proofs.Counting.count-cons p x xs in let c = (let f : Bool → ℕ = λ t. cond t 1 0 in ap f yes') in omega (arith, a, b, c))
      | false ↦ λ no'. (let a = passing_count p (base + 1) xs in let b = Rattle.net_machine.proofs.Counting.count-cons p x xs in let c = (let f : Bool → ℕ = λ t. cond t 1 0 in ap f no') in omega (arith, a, b, c))
    ] refl

-- a node of any kind has at most 16 outgoing links
most_links : (p : ScenarioParts) (node : ℕ) (kind : NodeKind) → HasItsLinks p node kind → outgoing_count p.links node ≤ 16
most_links p node Sender has = (let one = has.1 in omega (arith, one))
most_links p node Receiver has = (let one = has.1 in omega (arith, one))
most_links p node Router has = has.1

module _ (p : ScenarioParts) (is_scenario : IsScenario p) where
  pub nodes_senders : AllByRecursion (λ (flow : FlowPart). flow.sender < length p.nodes) p.flows
  nodes_senders = all_recursion (λ (flow : FlowPart). flow.sender < length p.nodes) p.flows (λ k d under. (is_scenario.in_limits.each_flow k d under).sender_node)

  no_entry : ℕ × LinkPart
  no_entry = (0, no_link_part)

  link_there : (number : ℕ) → number < length p.links → (from_of p.links number < length p.nodes) × (to_of p.links number < length p.nodes)
  link_there number under = (let l = is_scenario.in_limits.each_link number no_link_part under in (l.from_node, l.to_node))

  pub links_of : (node : ℕ) → node < length p.nodes → (node_at (initial_nodes p) node).part.links ≡ initial_links p.links node
  links_of node under = ap (λ (n : NodeState). n.part.links) (opened p node Router under)

  coming_of : (node : ℕ) → node < length p.nodes → (node_at (initial_nodes p) node).incoming ≡ map (λ (x : ℕ × LinkPart). record { link = x.0; came = 0 }) (coming_links p.links node)
  coming_of node under = ap (λ (n : NodeState). n.incoming) (opened p node Router under)

  pub past : (node : ℕ) → length p.nodes ≤ node → node_at (initial_nodes p) node ≡ no_node
  past node over = get_or-eq_default (initial_nodes p) no_node (subst (λ n. n ≤ node) (sym (Rattle.net_machine.proofs.Opened.node_count p)) over)

  few : (node : ℕ) → length (node_at (initial_nodes p) node).part.links ≤ 16
  few node =
      ⊎_elim
      (λ (under : node < length p.nodes).
      let count : length (node_at (initial_nodes p) node).part.links ≡ outgoing_count p.links node = ap length (links_of node under) ∙ length-map (leaving_links p.links node) initial_link ∙ passing_count (leaves node) 0 p.links in
      let most = most_links p node (get_or p.nodes node Router) (is_scenario.ends node (get_or p.nodes node Router) (slice_get-get_or p.nodes node Router under)) in
      omega (arith, count, most))
      (λ (over : length p.nodes ≤ node). (let none : length (node_at (initial_nodes p) node).part.links ≡ 0 = ap (λ (n : NodeState). length n.part.links) (past node over) in omega (arith, none)))
      (cases_lt node (length p.nodes))

  exits : (node index : ℕ) → index < length (node_at (initial_nodes p) node).part.links → IsExit p.links (initial_nodes p) node index
  exits node index within =
      ⊎_elim
      (λ (under : node < length p.nodes).
      let inside : index < length (leaving_links p.links node) = subst (λ n. index < n) (ap length (links_of node under) ∙ length-map (leaving_links p.links node) initial_link) within in
      let it = passing_at (leaves node) 0 p.links index no_link_part (0, no_link_part) inside in
      let at : link_at (node_at (initial_nodes p) node).part.links index ≡ initial_link (0 + it.place, link_part p.links it.place) = ap (λ ls. link_at ls index) (links_of node under) ∙ get_or-map initial_link (leaving_links p.links node) index (0, no_link_part) no_link inside ∙ ap initial_link it.is in
      let number : (link_at (node_at (initial_nodes p) node).part.links index).port.link ≡ it.place = ap (λ (l : LinkState). l.port.link) at ∙ omega arith in
      let from : from_of p.links it.place ≡ node = eqb-true (from_of p.links it.place) node it.passes in
      record {
        known = subst (λ n. n < length p.links) (sym number) it.within;
        from_here = ap (from_of p.links) number ∙ from;
        exit_here = ap (exit_of p.links) number ∙ ap (λ n. count_by (λ (link : LinkPart). link.from == n) (take it.place p.links)) from ∙ it.count;
      })
      (λ (over : length p.nodes ≤ node). (let none : length (node_at (initial_nodes p) node).part.links ≡ 0 = ap (λ (n : NodeState). length n.part.links) (past node over) in absurd (omega (arith, none, within))))
      (cases_lt node (length p.nodes))

  -- a link that is counted is among those that pass
  index_below : (q : LinkPart → Bool) (number : ℕ) → number < length p.links → q (link_part p.links number) ≡ true → count_by q (take number p.links) < length (passing q 0 p.links)
  index_below q number under passes =
      let more = Rattle.std.proofs.lemmas.List.Sums.count_by_more_yes q p.links number no_link_part under passes in
      let most = Rattle.std.proofs.lemmas.List.Sums.sum_by-take-le (λ (x : LinkPart). cond (q x) 1 0) p.links (number + 1) in
      let all = passing_count q 0 p.links in
      omega (arith, more, most, all)

  wires : (number : ℕ) → number < length p.links → IsNetWire p.links (initial_nodes p) number
  wires number under =
      let there = link_there number under in
      let from = from_of p.links number in
      let to = to_of p.links number in
      let leaves_here : leaves from (link_part p.links number) ≡ true = eq-eqb from from refl in
      let ends_here : (to == to) ≡ true = eq-eqb to to refl in
      let exit_in = index_below (leaves from) number under leaves_here in
      let entry_in = index_below (λ (l : LinkPart). l.to == to) number under ends_here in
      let at : leaving_at p.links (initial_nodes p) number ≡ initial_link (0 + number, link_part p.links number) =
      ap (λ ls. link_at ls (exit_of p.links number)) (links_of from there.0) ∙ get_or-map initial_link (leaving_links p.links from) (exit_of p.links number) (0, no_link_part) no_link exit_in
      ∙ ap initial_link (at_count (leaves from) 0 p.links number no_link_part (0, no_link_part) under leaves_here) in
      let comes : coming_at p.links (initial_nodes p) number ≡ record { link = 0 + number; came = 0 } =
      ap (λ ins. incoming_at ins (entry_of p.links number)) (coming_of to there.1) ∙ get_or-map (λ (x : ℕ × LinkPart). record { link = x.0; came = 0 }) (coming_links p.links to) (entry_of p.links number) (0, no_link_part) no_incoming entry_in
      ∙ ap (λ (x : ℕ × LinkPart). record { link = x.0; came = 0 }) (at_count (λ (l : LinkPart). l.to == to) 0 p.links number no_link_part (0, no_link_part) under ends_here) in
      record {
        leaves = ap (λ (l : LinkState). l.port.link) at ∙ omega arith;
        ends = ap (λ (l : LinkState). l.to) at;
        within = subst (λ n. to < n) (sym (Rattle.net_machine.proofs.Opened.node_count p)) there.1;
        entry = subst (λ n. entry_of p.links number < n) (sym (ap length (coming_of to there.1) ∙ length-map (coming_links p.links to) (λ (x : ℕ × LinkPart). record { link = x.0; came = 0 }))) entry_in;
        over = ap (λ (i : Incoming). i.link) comes ∙ omega arith;
        came = ap (λ (i : Incoming). i.came) comes ∙ sym (ap (λ (l : LinkState). l.port.sent) at);
      }

  pub opened_wired : IsWired p.links (initial_nodes p)
  opened_wired = record { few = few; exits = exits; wires = wires }
