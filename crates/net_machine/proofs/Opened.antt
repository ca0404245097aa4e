-- The nodes of a scenario at first are in its initial state.
use Rattle.std.proofs.Common.{◌≡◌, ℕ, ◌+◌, ◌<◌, ◌≤◌, ◌==◌, true, false, cond, List, [], ◌∷◌, length, filter, map, get_or, refl, sym, ap, subst, ◌∙◌, ⊎_elim, arith}
use Rattle.std.proofs.lemmas.Bool.{cases_lt, eqb-true}
use Rattle.std.proofs.lemmas.List.{length-map}
use Rattle.std.proofs.lemmas.List.FromFn.{get_or-enumerate_from, length-enumerate_from}
use Rattle.std.proofs.Math.ListN.{get_or-eq_default}
use Rattle.std.specs.List.{enumerate_from, AllByRecursion}
use Rattle.scenario_image.specs.declared.parts.NodeKind.{NodeKind}
use Rattle.scenario_image.specs.declared.parts.NodeKind.TheVariants.{Router}
use Rattle.scenario_image.specs.declared.parts.FlowPart.{FlowPart}
use Rattle.scenario_image.specs.declared.parts.ScenarioParts.{ScenarioParts}
use Rattle.tournament.specs.Keyed.{apply, nothing_due, EachKey}
use Rattle.tournament.specs.Gathered.{map_at, AtHome}
use Rattle.tournament.proofs.Maps.{each_apply, each_empty}
use Rattle.tournament.proofs.Gathered.{own, gathered-apply_own, none-gathered}
use Rattle.node_core.specs.declared.event.Event.{Event}
use Rattle.node_core.specs.Pending.{EventChange}
use Rattle.node_core.specs.Initial.{initial_part, start_of, starting_flows}
use Rattle.node_core.specs.Node.{NodeState, initial_node}
use Rattle.table_run.specs.State.{initial}
use Rattle.net_machine.specs.Nodes.{no_node, node_at, initial_nodes, pendings, net_pending, net_state, IsPlaced}
use Rattle.net_machine.proofs.AtNodes.{pending_at}

parts_mapped : (p : ScenarioParts) (xs : List (ℕ × NodeKind)) → map (λ (n : NodeState). n.part) (map (initial_node p) xs) ≡ map (initial_part p) xs
parts_mapped p [] = refl
parts_mapped p (x ∷ xs) = ap (λ rest. initial_part p x ∷ rest) (parts_mapped p xs)

-- the changes of one node's flows
own_starts : (i : ℕ) (xs : List (ℕ × FlowPart)) → own (λ k. k.node) i (map start_of xs) ≡ map start_of (filter (λ (x : ℕ × FlowPart). x.1.sender == i) xs)
own_starts i [] = refl
own_starts i (x ∷ xs) =
    elim (x.1.sender == i) as (λ b. cond b (start_of x ∷ own (λ k. k.node) i (map start_of xs)) (own (λ k. k.node) i (map start_of xs)) ≡ map start_of (cond b (x ∷ filter (λ (y : ℕ × FlowPart). y.1.sender == i) xs) (filter (λ (y : ℕ × FlowPart). y.1.sender == i) xs))) [
      | true ↦ ap (λ rest. start_of x ∷ rest) (own_starts i xs)
      | false ↦ own_starts i xs
    ]

own_here : (i : ℕ) (xs : List (ℕ × FlowPart)) → AllByRecursion (λ (c : EventChange). c.0.node ≡ i) (map start_of (filter (λ (x : ℕ × FlowPart). x.1.sender == i) xs))
own_here i [] = tt
own_here i (x ∷ xs) =
    elim (x.1.sender == i) as (λ b. (x.1.sender == i) ≡ b → AllByRecursion (λ (c : EventChange). c.0.node ≡ i) (map start_of (cond b (x ∷ filter (λ (y : ℕ × FlowPart). y.1.sender == i) xs) (filter (λ (y : ℕ × FlowPart). y.1.sender == i) xs)))) [
      | true ↦ λ same. (eqb-true x.1.sender i same, own_here i xs)
      | false ↦ λ _. own_here i xs
    ] refl

-- no flow starts past the last node
none_past : (i bound base : ℕ) (flows : List FlowPart) → bound ≤ i → AllByRecursion (λ (flow : FlowPart). flow.sender < bound) flows → filter (λ (x : ℕ × FlowPart). x.1.sender == i) (enumerate_from base flows) ≡ []
none_past i bound base [] past all = refl
none_past i bound base (flow ∷ flows) past all =
    elim (flow.sender == i) as (λ b. (flow.sender == i) ≡ b → cond b ((base, flow) ∷ filter (λ (x : ℕ × FlowPart). x.1.sender == i) (enumerate_from (base + 1) flows)) (filter (λ (x : ℕ × FlowPart). x.1.sender == i) (enumerate_from (base + 1) flows)) ≡ []) [
      | true ↦ λ same. (let e = eqb-true flow.sender i same in let below = all.0 in absurd (omega (arith, e, below, past)))
      | false ↦ λ _. none_past i bound (base + 1) flows past all.1
    ] refl

module _ (p : ScenarioParts) where
  pub node_count : length (initial_nodes p) ≡ length p.nodes
  node_count = length-map (enumerate_from 0 p.nodes) (initial_node p) ∙ length-enumerate_from 0 p.nodes

  pub opened : (i : ℕ) (kind : NodeKind) → i < length p.nodes → node_at (initial_nodes p) i ≡ initial_node p (i, get_or p.nodes i kind)
  opened i kind under =
      Rattle.std.proofs.lemmas.List.get_or-map (initial_node p) (enumerate_from 0 p.nodes) i (0, kind) no_node (subst (λ n. i < n) (sym (length-enumerate_from 0 p.nodes)) under)
      ∙ ap (initial_node p) (get_or-enumerate_from 0 p.nodes i (0, kind) under)
      ∙ (let number : 0 + i ≡ i = omega arith in ap (λ n. initial_node p (n, get_or p.nodes i kind)) number)

module _ (p : ScenarioParts) (senders : AllByRecursion (λ (flow : FlowPart). flow.sender < length p.nodes) p.flows) where
  starts_at : (i : ℕ) → map_at (pendings (initial_nodes p)) i ≡ apply (own (λ k. k.node) i (map start_of (enumerate_from 0 p.flows))) (map_at [] i)
  starts_at i =
      pending_at (initial_nodes p) i
      ∙ ⊎_elim
      (λ (under : i < length p.nodes). ap (λ (n : NodeState). n.pending) (opened p i Router under))
      (λ (past : length p.nodes ≤ i).
      ap (λ (n : NodeState). n.pending) (get_or-eq_default (initial_nodes p) no_node (subst (λ n. n ≤ i) (sym (node_count p)) past))
      ∙ ap (λ (xs : List (ℕ × FlowPart)). apply (map start_of xs) (nothing_due Event)) (sym (none_past i (length p.nodes) 0 p.flows past senders)))
      (cases_lt i (length p.nodes))
      ∙ ap (λ cs. apply cs (nothing_due Event)) (sym (own_starts i (enumerate_from 0 p.flows)))

  at_home : AtHome (λ k. k.node) (pendings (initial_nodes p))
  at_home i = subst (EachKey (λ k. k.node ≡ i)) (sym (starts_at i ∙ ap (λ cs. apply cs (nothing_due Event)) (own_starts i (enumerate_from 0 p.flows))))
      (each_apply (λ k. k.node ≡ i) (map start_of (starting_flows p.flows i)) (nothing_due Event) (own_here i (enumerate_from 0 p.flows)) (each_empty (λ k. k.node ≡ i)))

  pub opened_placed : IsPlaced (initial_nodes p)
  opened_placed = record {
    number = λ i under. ap (λ (n : NodeState). n.number) (opened p i Router (subst (λ n. i < n) (node_count p) under));
    at_home = at_home;
  }

  opened_pending : net_pending (initial_nodes p) ≡ apply (map start_of (enumerate_from 0 p.flows)) (nothing_due Event)
  opened_pending =
      gathered-apply_own (λ k. k.node) (map start_of (enumerate_from 0 p.flows)) [] (pendings (initial_nodes p)) (λ i. each_empty (λ k. k.node ≡ i)) at_home starts_at
      ∙ ap (apply (map start_of (enumerate_from 0 p.flows))) (none-gathered [] (λ i. refl))

  pub opened_state : net_state (initial_nodes p) p.end ≡ initial p
  opened_state = λ i. record { parts = parts_mapped p (enumerate_from 0 p.nodes) i; pending = opened_pending i; end = p.end }
