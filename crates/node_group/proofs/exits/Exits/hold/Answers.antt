use Rattle.std.proofs.Common.{◌≡◌, ◌<◌, ◌++◌, List, length, set, refl, sym, ap, subst, ◌∙◌, arith}
use Rattle.std.proofs.lemmas.List.{get_or_read}
use Rattle.std.specs.Vec.{vec_capacity}
use Rattle.tournament.specs.Keyed.{apply, entering}
use Rattle.node_core.specs.WireState.{WireState, arrivals, pending_on, came_over}
use Rattle.node_group.specs.declared.exits.Exits.TheInside.{Inside}
use Rattle.node_group.specs.Held.{no_wire, wire_at, held_on, is_idle, AreListed}
use Rattle.node_group.proofs.HeldBack.{held_more}
use Rattle.node_group.proofs.Listed.{listed_as, listed_first, listed_none, listed_behind}
use Rattle.node_group.proofs.exits.Exits.hold.Goals as goal
use Rattle.node_group.proofs.exits.Exits.hold.Goals.{then-is_idle+then-len-gt0, else-is_idle, else-is_idle-via-then-is_idle+else-len-gt0, else-is_idle-via-else-is_idle}

-- the wires are as they were
same : (c : goal.After-self-1) → c.if-is_idle.self-inside.held.items ≡ c.self.inside.held.items
same c = elim c.if-is_idle.branch [
  | then-is_idle+then-len-gt0 w ↦ ap (λ (e : Inside). e.held.items) w.self-inside-is
  | else-is_idle w ↦ ap (λ (e : Inside). e.held.items) w.self-inside-is
]

within : (c : goal.After-self-1) → c.args.link < length c.self.inside.held.items
within c = subst (λ (s : List WireState). c.args.link < length s) (sym c.self.view_is) c.requires.within

read : (c : goal.After-self-1) → c.index_mut.result.now ≡ wire_at c.self.inside.held.items c.args.link
read c = get_or_read c.if-is_idle.self-inside.held.items c.args.link c.index_mut.result.now (subst (λ (s : List WireState). c.args.link < length s) (sym (same c)) (within c)) c.index_mut.ensures.value no_wire ∙ ap (λ (s : List WireState). wire_at s c.args.link) (same c)

idle : (c : goal.After-self-1) → c.is_idle.result ≡ is_idle (wire_at c.self.inside.held.items c.args.link)
idle c = c.is_idle.ensures ∙ ap is_idle (get_or_read c.self.inside.held.items c.args.link c.index.result.now (within c) c.index.ensures no_wire)

wires_now : (c : goal.After-self-1) → set c.if-is_idle.self-inside.held.items c.args.link c.hold.new.self ≡ set c.self.inside.held.items c.args.link (record (wire_at c.self.inside.held.items c.args.link) { under_way = (wire_at c.self.inside.held.items c.args.link).under_way ++ c.args.sent.now })
wires_now c = (λ i. set (same c i) c.args.link ((c.hold.ensures.state ∙ ap (λ (w : WireState). record w { under_way = w.under_way ++ c.args.sent.now }) (read c)) i))

pub invariant_of-self : goal.invariant_of-self
invariant_of-self c =
    let wires = c.self.inside.held.items in
    let links = c.self.inside.busy.items in
    let room = vec_capacity c.self.inside.busy in
    let back = set c.if-is_idle.self-inside.held.items c.args.link c.hold.new.self in
    let IsKept : Inside → Type 0 = λ e. AreListed back e.busy.items (vec_capacity e.busy) in
    elim c.if-is_idle.branch [
      | then-is_idle+then-len-gt0 w ↦
          let some = w.if-len-gt0.true in
          let many = w.len.ensures.value in
          subst IsKept (sym w.self-inside-is) (listed_as _ back _ w.push_reserved.new.self.items room (vec_capacity w.push_reserved.new.self) (wires_now c) w.push_reserved.ensures.items w.push_reserved.ensures.capacity
          (listed_first wires links room c.self.invariant c.args.link (within c) c.args.sent.now (sym (idle c) ∙ w.if-is_idle.true) (omega (arith, some, many))))
      | else-is_idle w ↦ subst IsKept (sym w.self-inside-is) (listed_as _ back links links room room (wires_now c) refl refl (elim w.else-is_idle.branch [
        | else-is_idle-via-then-is_idle+else-len-gt0 x ↦
            let none = x.if-len-gt0.false in
            let many = x.len.ensures.value in
            listed_none wires links room c.self.invariant c.args.link (within c) c.args.sent.now (sym (idle c) ∙ x.if-is_idle.true) (omega (arith, none, many))
        | else-is_idle-via-else-is_idle x ↦ listed_behind wires links room c.self.invariant c.args.link (within c) c.args.sent.now (sym (idle c) ∙ x.if-is_idle.false)
      ]))
    ]

pub returns-clause-held : goal.returns-clause-held
returns-clause-held c =
    let wires = c.self.inside.held.items in
    ap (λ (s : List WireState). held_on (set s c.args.link c.hold.new.self)) (same c)
    ∙ held_more wires c.self.invariant.by_link c.args.link (within c) c.args.sent.now c.hold.new.self
    (c.hold.ensures.pending ∙ ap (λ (w : WireState). apply (entering (arrivals w.node w.link (came_over w) c.args.sent.now)) (pending_on w)) (read c))
    ∙ ap (λ (s : List WireState). apply (entering (arrivals (wire_at s c.args.link).node c.args.link (came_over (wire_at s c.args.link)) c.args.sent.now)) (held_on s)) c.self.view_is
