use Rattle.std.proofs.Common.{◌<◌, ℕ, List, length, sym, ap, subst, ◌∙◌, arith}
use Rattle.net_machine.specs.declared.places.LinkEnds.{LinkEnds}
use Rattle.net_machine.specs.NetOf.{AreNetParts}
use Rattle.net_machine.specs.Nodes.{net_state}
use Rattle.net_machine.proofs.Joined.{size}
use Rattle.node_group.specs.Group.{GroupValue, IsGroup}
use Rattle.window_core.specs.Together.{AreSeated, AreTogether}
use Rattle.window_core.specs.Window.{WindowValue, no_value, value_at, IsWindow}
use Rattle.window_core.proofs.JoinedNet.{are_seated, net_parts, state_is}
use Rattle.window_core.proofs.WindowFields.{groups_are}
use Rattle.window_core.proofs.window.Window.edge.Goals as goal

pub copies_of-requires : goal.copies_of-requires
copies_of-requires c =
    let w = c.self.inside in
    let v = c.args.self.now in
    let is = subst IsWindow c.self.view_is c.self.invariant.window in
    let one = groups_are w v c.self.view_is in
    let two = c.group_states.ensures ∙ one in
    let are : (h : ℕ) → h < length v.groups → IsGroup (value_at v.groups h) = λ h under. subst (λ (gs : List GroupValue). IsGroup (value_at gs h)) one (c.reported.ensures.are_groups h no_value (subst (λ (gs : List GroupValue). h < length gs) (sym one) under)) in
    subst (λ (es : List ℕ). AreSeated es c.group_states.result.now) (sym (ap (λ (x : WindowValue). x.entries) c.self.view_is)) (subst (AreSeated v.entries) (sym two) (are_seated v is are))

pub new-requires : goal.new-requires
new-requires c =
    let w = c.self.inside in
    let v = c.args.self.now in
    let is = subst IsWindow c.self.view_is c.self.invariant.window in
    let one = groups_are w v c.self.view_is in
    let two = c.group_states.ensures ∙ one in
    let are : (h : ℕ) → h < length v.groups → IsGroup (value_at v.groups h) = λ h under. subst (λ (gs : List GroupValue). IsGroup (value_at gs h)) one (c.reported.ensures.are_groups h no_value (subst (λ (gs : List GroupValue). h < length gs) (sym one) under)) in
    let nodes = c.in_ok-nodes.nodes.items in
    let together : AreTogether v.entries v.groups (length v.entries) nodes = subst (λ (gs : List GroupValue). AreTogether v.entries gs (length v.entries) nodes) two (subst (λ (es : List ℕ). AreTogether es c.group_states.result.now (length es) nodes) (ap (λ (x : WindowValue). x.entries) c.self.view_is) c.in_ok-nodes.ensures) in
    let parts = net_parts v is are c.requires.unfired nodes together is.edge is.from in
    let all = size parts.run.scenario parts.run.is_scenario v.position parts.run.lines nodes v.end parts.run.is in
    let most = parts.run.is_scenario.in_limits.counts.node_count.1 in
    let count = c.len.ensures in
    omega (arith, all, most, count)

pub of_parts-requires-clause-parts : goal.of_parts-requires-clause-parts
of_parts-requires-clause-parts c =
    let w = c.self.inside in
    let v = c.args.self.now in
    let is = subst IsWindow c.self.view_is c.self.invariant.window in
    let one = groups_are w v c.self.view_is in
    let two = c.group_states.ensures ∙ one in
    let are : (h : ℕ) → h < length v.groups → IsGroup (value_at v.groups h) = λ h under. subst (λ (gs : List GroupValue). IsGroup (value_at gs h)) one (c.reported.ensures.are_groups h no_value (subst (λ (gs : List GroupValue). h < length gs) (sym one) under)) in
    let nodes = c.in_ok-nodes.nodes.items in
    let together : AreTogether v.entries v.groups (length v.entries) nodes = subst (λ (gs : List GroupValue). AreTogether v.entries gs (length v.entries) nodes) two (subst (λ (es : List ℕ). AreTogether es c.group_states.result.now (length es) nodes) (ap (λ (x : WindowValue). x.entries) c.self.view_is) c.in_ok-nodes.ensures) in
    let parts = net_parts v is are c.requires.unfired nodes together is.edge is.from in
    subst (λ (links : List LinkEnds). AreNetParts nodes links w.end w.position) (sym c.in_ok-links.ensures)
    (subst (λ (x : WindowValue). AreNetParts nodes x.links x.end x.position) (sym c.self.view_is) parts)

pub returns : goal.returns
returns c = λ edge from.
    let w = c.self.inside in
    let v = c.args.self.now in
    let is = subst IsWindow c.self.view_is c.self.invariant.window in
    let one = groups_are w v c.self.view_is in
    let two = c.group_states.ensures ∙ one in
    let are : (h : ℕ) → h < length v.groups → IsGroup (value_at v.groups h) = λ h under. subst (λ (gs : List GroupValue). IsGroup (value_at gs h)) one (c.reported.ensures.are_groups h no_value (subst (λ (gs : List GroupValue). h < length gs) (sym one) under)) in
    let nodes = c.in_ok-nodes.nodes.items in
    let together : AreTogether v.entries v.groups (length v.entries) nodes = subst (λ (gs : List GroupValue). AreTogether v.entries gs (length v.entries) nodes) two (subst (λ (es : List ℕ). AreTogether es c.group_states.result.now (length es) nodes) (ap (λ (x : WindowValue). x.entries) c.self.view_is) c.in_ok-nodes.ensures) in
    let state = ap (λ (x : WindowValue). net_state nodes x.end) c.self.view_is ∙ state_is v is are c.requires.unfired nodes together edge from in
    c.of_parts.ensures ∙ (λ i. record { state = state i; position = (c.self.view_is i).position })
