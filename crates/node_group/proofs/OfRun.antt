-- What the links of a net on a run join, and what they have sent.
use Rattle.std.proofs.Common.{◌≡◌, ℕ, zero, suc, ◌+◌, ◌<◌, ◌≤◌, ◌==◌, cond, List, [], ◌∷◌, length, take, refl, sym, ap, subst, ◌∙◌, ⊎_elim, arith}
use Rattle.std.proofs.lemmas.Bool.{cases_lt}
use Rattle.std.proofs.lemmas.List.{get_or_past}
use Rattle.std.specs.List.{count_by, slice_get}
use Rattle.scenario_image.specs.declared.parts.LinkPart.{LinkPart}
use Rattle.node_core.specs.EventQueueState.{Incoming}
use Rattle.node_core.specs.Part.{LinkState, PartState, link_at, no_link}
use Rattle.node_core.specs.Node.{NodeState}
use Rattle.table_run.specs.State.{State, part_at}
use Rattle.table_run.specs.Sound.{IsSoundLink, lines_at}
use Rattle.table_run.proofs.Lists.{all_here}
use Rattle.table_run.proofs.Runs.{run_length}
use Rattle.std.proofs.lemmas.List.Sums.{count_by-le-length}
use Rattle.net_machine.specs.declared.places.LinkEnds.{LinkEnds}
use Rattle.net_machine.specs.Nodes.{node_at, net_state}
use Rattle.net_machine.specs.NetOf.{AreNetParts}
use Rattle.net_machine.specs.Wiring.{no_link_part, link_part, from_of, exit_of, leaving_at, ends_at}
use Rattle.net_machine.proofs.Counting.{count-cons}
use Rattle.net_machine.proofs.Joined.{size}
use Rattle.node_group.specs.GroupStates.{exit_in, AreJoined}
use Rattle.node_group.proofs.OfNet.{parts, known, ends_are, wire, coming_is, is_net, sound, part_is}

-- as many links of one list leave a node as of another, where their ends agree
same_count : (from k : ℕ) (xs : List LinkEnds) (ys : List LinkPart) → length xs ≡ length ys → ((i : ℕ) → i < length xs → (ends_at xs i).from ≡ (link_part ys i).from)
    → count_by (λ (e : LinkEnds). e.from == from) (take k xs) ≡ count_by (λ (l : LinkPart). l.from == from) (take k ys)
same_count from zero xs ys long agree = refl
same_count from (suc k) [] [] long agree = refl
same_count from (suc k) [] (y ∷ ys) long agree = absurd (omega (arith, long))
same_count from (suc k) (x ∷ xs) [] long agree = absurd (omega (arith, long))
same_count from (suc k) (x ∷ xs) (y ∷ ys) long agree =
    let rest = same_count from k xs ys (omega (arith, long)) (λ i under. agree (suc i) (omega (arith, under))) in
    count-cons (λ (e : LinkEnds). e.from == from) x (take k xs)
    ∙ (λ i. cond (agree 0 (omega arith) i == from) 1 0 + rest i)
    ∙ sym (count-cons (λ (l : LinkPart). l.from == from) y (take k ys))

module _ (nodes : List NodeState) (links : List LinkEnds) (end position : ℕ) (net : AreNetParts nodes links end position) (entries : List ℕ) (many : length entries ≡ length nodes) where
  from_is : (link : ℕ) → link < length links → (ends_at links link).from ≡ from_of (parts nodes links end position net entries many) link
  from_is link under = ap (λ (e : LinkEnds). e.from) (ends_are nodes links end position net entries many link under)

  exit_is : (link : ℕ) → link < length links → exit_in links link ≡ exit_of (parts nodes links end position net entries many) link
  exit_is link under =
      same_count (ends_at links link).from link links (parts nodes links end position net entries many) (is_net nodes links end position net entries many).ends_are.size (λ i below. from_is i below)
      ∙ ap (λ n. count_by (λ (l : LinkPart). l.from == n) (take link (parts nodes links end position net entries many))) (from_is link under)

  leaving_is : (link : ℕ) → link < length links → leaving_at (parts nodes links end position net entries many) nodes link ≡ link_at (node_at nodes (ends_at links link).from).part.links (exit_in links link)
  leaving_is link under = λ i. link_at (node_at nodes (sym (from_is link under) i)).part.links (sym (exit_is link under) i)

  -- no link has sent more than there were events
  sent_few : (node index : ℕ) → node < length nodes → (link_at (node_at nodes node).part.links index).port.sent ≤ position
  sent_few node index inside =
      ⊎_elim
      (λ (under : index < length (node_at nodes node).part.links).
      let s = sound nodes links end position net entries many in
      let run = (is_net nodes links end position net entries many).run in
      let here = (s.sound.each_node node (subst (λ n. node < n) (size run.scenario run.is_scenario position run.lines nodes end run.is) inside)).each_link in
      let p = part_is nodes links end position net entries many node in
      let one : IsSoundLink run.scenario (net_state nodes end) (lines_at node run.lines) (link_at (node_at nodes node).part.links index).port =
      all_here (λ (l : LinkState). IsSoundLink run.scenario (net_state nodes end) (lines_at node run.lines) l.port) (node_at nodes node).part.links index no_link under
      (subst (λ (q : PartState). Rattle.std.specs.List.AllByRecursion (λ (l : LinkState). IsSoundLink run.scenario (net_state nodes end) (lines_at node run.lines) l.port) q.links) p here) in
      let most = one.sent_most in
      let few = count_by-le-length (λ (line : Rattle.node_core.specs.TraceLine.TraceLine). line.key.node == node) run.lines in
      let long = run_length position (Rattle.table_run.specs.State.initial run.scenario) (net_state nodes end) run.lines run.is in
      omega (arith, most, few, long))
      (λ (past : length (node_at nodes node).part.links ≤ index).
      let none : (link_at (node_at nodes node).part.links index).port.sent ≡ 0 = ap (λ (l : LinkState). l.port.sent) (get_or_past (node_at nodes node).part.links index no_link past) in
      omega (arith, none))
      (cases_lt index (length (node_at nodes node).part.links))

  from_inside : (link : ℕ) → link < length links → (ends_at links link).from < length nodes
  from_inside link under =
      let run = (is_net nodes links end position net entries many).run in
      let limits = run.is_scenario.in_limits.each_link link no_link_part (known nodes links end position net entries many link under) in
      let from = from_is link under in
      let few = limits.from_node in
      let all = size run.scenario run.is_scenario position run.lines nodes end run.is in
      omega (arith, from, few, all)

  pub are_joined : AreJoined links nodes
  are_joined = record {
    few = (let run = (is_net nodes links end position net entries many).run in let most = run.is_scenario.in_limits.counts.link_count.1 in let same = (is_net nodes links end position net entries many).ends_are.size in omega (arith, most, same));
    from = from_inside;
    came = λ link under.
        ap (λ (c : Incoming). c.came) (coming_is nodes links end position net entries many link under) ∙ (wire nodes links end position net entries many link under).came
        ∙ ap (λ (l : LinkState). l.port.sent) (leaving_is link under);
    most = λ link under.
        let most = sent_few (ends_at links link).from (exit_in links link) (from_inside link under) in
        let fits = (is_net nodes links end position net entries many).run.position_fits in
        omega (arith, most, fits);
  }
