use Rattle.std.proofs.Common.{◌≡◌, ◌≢◌, ◌<◌, ◌+◌, ◌≤◌, ◌^◌, List, length, set, All, sym, ap, subst, ◌∙◌}
use Rattle.tournament.specs.Keyed.{EachKey}
use Rattle.node_core.specs.Node.{delivered}
use Rattle.node_core.specs.WireState.{WireState, stamps_of}
use Rattle.net_machine.specs.declared.places.LinkEnds.{LinkEnds}
use Rattle.net_machine.specs.Nodes.{net_pending}
use Rattle.net_machine.specs.Wiring.{place_at}
use Rattle.node_group.specs.Seats.{seated}
use Rattle.node_group.specs.Passing.{CanPass, HasCome, HasPassed}
use Rattle.node_group.specs.Group.{GroupValue, group_from, group_to, member, came_in, IsGroup}
use Rattle.node_group.specs.GroupStateOf.{group_of}
use Rattle.node_group.proofs.Come.{come_keeps, end_seated, can_come_in, has_come_in}
use Rattle.node_group.proofs.group_state.GroupState.deliver.Goals as goal

pub pass_on-requires-clause-can : goal.pass_on-requires-clause-can
pass_on-requires-clause-can c =
    let g : GroupValue = group_of c.self.inside in
    let link = c.args.link in
    let packets = c.args.packets.now in
    subst (λ (links : List LinkEnds). CanPass links c.self.inside.area link packets) (sym c.deref.ensures.value)
    (can_come_in g c.self.invariant.is_group link
    (subst (λ (v : GroupValue). link < length v.links) (sym c.self.view_is) c.requires.within)
    (subst (λ (v : GroupValue). group_to v link ≡ v.number) (sym c.self.view_is) c.requires.to_this)
    packets c.requires.rising
    (subst (λ (v : GroupValue). All (λ stamp. EachKey (λ k. k.source ≡ link + 1 → k.time < stamp) (net_pending (seated v.seats))) (stamps_of packets)) (sym c.self.view_is) c.requires.later)
    (subst (λ (v : GroupValue). came_in v link + length packets ≤ 2 ^ 50) (sym c.self.view_is) c.requires.few))

known : (c : goal.After-pass_on) → c.args.link < length c.self.inside.links.items
known c = subst (λ (v : GroupValue). c.args.link < length v.links) (sym c.self.view_is) c.requires.within

to_this : (c : goal.After-pass_on) → group_to (group_of c.self.inside) c.args.link ≡ c.self.inside.number
to_this c = subst (λ (v : GroupValue). group_to v c.args.link ≡ v.number) (sym c.self.view_is) c.requires.to_this

-- they have come to a node of the group, and are outgoing no more
come : (c : goal.After-pass_on) → HasCome c.self.inside.links.items c.self.inside.area.nodes_by_number c.pass_on.new.self.nodes_by_number c.args.link c.args.packets.now × (c.pass_on.new.self.exits ≡ c.self.inside.area.exits)
come c = has_come_in (group_of c.self.inside) c.self.invariant.is_group c.args.link (known c) (to_this c) c.args.packets.now c.pass_on.new.self
    (subst (λ (links : List LinkEnds). HasPassed links c.self.inside.area c.args.link c.args.packets.now c.pass_on.new.self) c.deref.ensures.value c.pass_on.ensures.taken)

pub invariant_of-self : goal.invariant_of-self
invariant_of-self c =
    let g : GroupValue = group_of c.self.inside in
    let is = c.self.invariant.is_group in
    let link = c.args.link in
    record {
      is_group = subst (λ (wires : List WireState). IsGroup (record g { seats = c.pass_on.new.self.nodes_by_number; held = wires })) (sym (come c).1)
          (come_keeps g is link (known c) (subst (λ (v : GroupValue). group_from v link ≢ v.number) (sym c.self.view_is) c.requires.from_another) (to_this c)
          c.args.packets.now c.pass_on.new.self.nodes_by_number (end_seated g is link (known c)) (come c).0.nodes (come c).0.placed (come c).0.same_seats);
      count = c.self.invariant.count;
      out_empty = c.self.invariant.out_empty;
    }

pub returns-clause-rest : goal.returns-clause-rest
returns-clause-rest c =
    ap (λ (wires : List WireState). record (group_of c.self.inside) { seats = c.pass_on.new.self.nodes_by_number; held = wires }) (come c).1
    ∙ ap (λ (v : GroupValue). record v { seats = c.pass_on.new.self.nodes_by_number }) c.self.view_is

pub returns-clause-nodes : goal.returns-clause-nodes
returns-clause-nodes c = subst (λ (v : GroupValue). seated c.pass_on.new.self.nodes_by_number ≡ set (seated v.seats) (place_at v.links c.args.link).node (delivered (member v (place_at v.links c.args.link).node) (place_at v.links c.args.link).index c.args.packets.now)) c.self.view_is (come c).0.nodes
