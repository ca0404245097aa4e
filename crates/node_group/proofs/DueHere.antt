-- The event that is due at a group on a run is one of the run: the group can run it, and what it leaves is what the run says.
use Rattle.std.proofs.Common.{◌≡◌, ◌+◌, ◌<◌, ◌≤◌, ◌++◌, length, ap, subst, ◌∙◌, Some, arith}
use Rattle.std.proofs.Math.ListN.{get_or-map}
use Rattle.std.proofs.lemmas.List.Sums.{count_by-le-length}
use Rattle.std.specs.Prelude.{◌==◌}
use Rattle.sim_time.specs.declared.key.Key.{Key}
use Rattle.sim_time.specs.declared.limits.TheConstants.{MOST_EVENTS}
use Rattle.node_core.specs.declared.event.Event.{Event}
use Rattle.node_core.specs.Part.{PartState}
use Rattle.node_core.specs.Ready.{IsRunnable}
use Rattle.node_core.specs.Row.{Effect, Leaving, row}
use Rattle.node_core.specs.Node.{NodeState}
use Rattle.node_core.specs.TraceLine.{TraceLine}
use Rattle.table_run.specs.State.{initial, part_at, due, effect_of}
use Rattle.table_run.specs.Sound.{lines_at}
use Rattle.table_run.specs.Laws.{ComesTo}
use Rattle.table_run.proofs.Runs.{run_add, run_length}
use Rattle.table_run.proofs.Ready.{LinksStay, IsDelivery, runnable_by, links_stay, delivery_by}
use Rattle.net_machine.specs.Nodes.{no_node}
use Rattle.net_partition.specs.Partition.{group_in}
use Rattle.node_group.specs.Seats.{seated}
use Rattle.window_law.specs.Groups.{GroupState, group_at, up_to}
use Rattle.window_law.specs.Calls.{IsDueInRun}
use Rattle.node_group.specs.Group.{GroupValue, state_of, member, IsOnRun}
use Rattle.window_law.proofs.EveryRun.{each_firing_is_of_the_run}
use Rattle.node_group.proofs.Made.{fewer_lines, lines_both}

module _ (g : GroupValue) (on : IsOnRun g) (k : Key) (v : Event) (is_due : due (up_to g.until (state_of g)) ≡ Some (k, v)) where
  due_there : due (up_to on.window.until (group_at on.window.groups g.number)) ≡ Some (k, v)
  due_there = (λ i. due (up_to (on.is_group.same_end i) (on.is_group.is_it i))) ∙ is_due

  pub in_run : IsDueInRun on.edge g.until (group_in g.entries) g.number (state_of g) k v
  in_run =
      subst (λ until. IsDueInRun on.edge until (group_in g.entries) g.number (state_of g) k v) on.is_group.same_end
      (subst (λ (s : GroupState). IsDueInRun on.edge on.window.until (group_in g.entries) g.number s k v) on.is_group.is_it
      (each_firing_is_of_the_run on.scenario (group_in g.entries) g.position on.before on.edge on.window on.is_group.in_run g.number k v due_there))

  -- the run up to it
  pub comes : ComesTo on.scenario (g.position + in_run.steps) (on.before ++ in_run.lines) in_run.state
  comes = run_add (initial on.scenario) on.edge in_run.state g.position in_run.steps on.before in_run.lines on.is_group.in_run.comes in_run.is_run

  few : lines_at k.node (on.before ++ in_run.lines) ≤ g.position + length g.lines
  few =
      let both = lines_both k.node on.before in_run.lines in
      let most = count_by-le-length (λ (line : TraceLine). line.key.node == k.node) on.before in
      let long = run_length g.position (initial on.scenario) on.edge on.before on.is_group.in_run.comes in
      let fewer = fewer_lines (group_in g.entries) g.number k.node in_run.its_own in_run.lines in
      let mine = ap length in_run.lines_are in
      omega (arith, both, most, long, fewer, mine)

  part_is : part_at in_run.state k.node ≡ (member g k.node).part
  part_is = in_run.same_part ∙ get_or-map (λ (n : NodeState). n.part) (seated g.seats) k.node no_node

  pub effect_is : effect_of in_run.state (k, v) ≡ row (member g k.node).part k v
  effect_is = ap (λ (p : PartState). row p k v) part_is

  pub ready : g.position + length g.lines < MOST_EVENTS → IsRunnable (member g k.node).part k v
  ready fits = subst (λ (p : PartState). IsRunnable p k v) part_is
      (runnable_by on.scenario (g.position + in_run.steps) (on.before ++ in_run.lines) in_run.state on.is_group.in_run.is_scenario comes k v in_run.is_due (let most = few in omega (arith, most, fits)))

  pub stay : LinksStay (member g k.node).part.links (row (member g k.node).part k v).part.links (row (member g k.node).part k v).leaving
  stay = subst (λ (p : PartState). LinksStay p.links (row p k v).part.links (row p k v).leaving) part_is
      (links_stay on.scenario (g.position + in_run.steps) (on.before ++ in_run.lines) in_run.state on.is_group.in_run.is_scenario comes k v in_run.is_due)

  pub leaves : (l : Leaving) → (row (member g k.node).part k v).leaving ≡ Some l → IsDelivery in_run.state (g.position + length g.lines) k (row (member g k.node).part k v).part.links l
  leaves l left = subst (λ (e : Effect). IsDelivery in_run.state (g.position + length g.lines) k e.part.links l) effect_is
      (delivery_by on.scenario (g.position + in_run.steps) (on.before ++ in_run.lines) in_run.state on.is_group.in_run.is_scenario comes k v in_run.is_due (g.position + length g.lines) few l (ap (λ (e : Effect). e.leaving) effect_is ∙ left))

  -- its links in the run are those that it has
  pub part_links : (part_at in_run.state k.node) ≡ (member g k.node).part
  part_links = part_is
