use Rattle.std.proofs.Common.{◌≡◌, ◌≤◌, List, length, sym, ap, subst, ◌∙◌, Some, None, Ok, Err, Result}
use Rattle.std.specs.Prelude.{OnOk, OnErr}
use Rattle.std.proofs.lemmas.Result.{IfOk-weaker, on_ok_weaker}
use Rattle.std.specs.Option.{option_map}
use Rattle.sim_time.specs.declared.key.Key.{Key}
use Rattle.tournament.specs.Keyed.{least, next_key}
use Rattle.node_core.specs.declared.event.Event.{Event}
use Rattle.node_core.specs.Row.{Leaving, row}
use Rattle.node_core.specs.Ready.{IsRunnable}
use Rattle.node_core.specs.TraceLine.{shown}
use Rattle.node_core.specs.Node.{NodeState}
use Rattle.net_machine.specs.Nodes.{node_at}
use Rattle.node_group.specs.Seats.{seated, number_at}
use Rattle.node_group.specs.Numbered.{AreNodesByNumber}
use Rattle.node_group.proofs.AtPlace.{inside, node_is, put_there, same_count, same_seats, members_fired, fired_there}
use Rattle.node_group.proofs.nodes_by_number.NodesByNumber.fire_into.Goals as goal

on_both : {T E P Q R : Type 0} (r : Result T E) → (P → Q → R) → OnOk r P → OnOk r Q → OnOk r R
on_both (Ok x) on p q = on p q
on_both (Err e) on p q = tt

by_result : {T E P Q R S : Type 0} (r : Result T E) → (P → Q → S) → (R → S) → OnOk r P → OnOk r Q → OnErr r R → S
by_result (Ok x) ok err p q _ = ok p q
by_result (Err e) ok err _ _ same = err same

pub fire_into-requires-clause-within : goal.fire_into-requires-clause-within
fire_into-requires-clause-within c =
    inside c.self.inside.nodes c.self.inside.index.items c.self.invariant c.args.self.now c.self.view_is c.args.at c.requires.within

pub fire_into-requires-clause-pending : goal.fire_into-requires-clause-pending
fire_into-requires-clause-pending c =
    subst (λ (n : NodeState). next_key n.pending ≡ None → ⊥)
    (sym (node_is c.self.inside.nodes c.self.inside.index.items c.self.invariant c.args.self.now c.self.view_is c.args.at c.requires.within))
    c.requires.pending

pub fire_into-requires-clause-due : goal.fire_into-requires-clause-due
fire_into-requires-clause-due c =
    subst (λ (n : NodeState). (k : Key) (v : Event) → least n.pending ≡ Some (k, v) → IsRunnable n.part k v)
    (sym (node_is c.self.inside.nodes c.self.inside.index.items c.self.invariant c.args.self.now c.self.view_is c.args.at c.requires.within))
    c.requires.due

pub fire_into-requires-clause-chains : goal.fire_into-requires-clause-chains
fire_into-requires-clause-chains c =
    subst (λ (n : NodeState). length n.part.links ≤ length c.args.out.now)
    (sym (node_is c.self.inside.nodes c.self.inside.index.items c.self.invariant c.args.self.now c.self.view_is c.args.at c.requires.within))
    c.requires.chains

pub invariant_of-self : goal.invariant_of-self
invariant_of-self c =
    by_result c.fire_into.result
    (λ fired others. members_fired c.self.inside.nodes c.self.inside.index.items c.self.invariant c.args.self.now c.self.view_is c.args.at c.requires.within (node_at c.fire_into.new.self c.args.at) c.fire_into.new.self others c.args.out.now c.fire_into.new.out (shown c.fire_into.new.line) fired)
    (λ same. subst (λ (nodes : List NodeState). AreNodesByNumber nodes c.self.inside.index.items) (sym same) c.self.invariant)
    c.fire_into.ensures.fired c.fire_into.ensures.others c.fire_into.ensures.same

pub returns-clause-fired : goal.returns-clause-fired
returns-clause-fired c =
    on_both c.fire_into.result
    (λ fired others. fired_there c.self.inside.nodes c.self.inside.index.items c.self.invariant c.args.self.now c.self.view_is c.args.at c.requires.within (node_at c.fire_into.new.self c.args.at) c.fire_into.new.self others c.args.out.now c.fire_into.new.out (shown c.fire_into.new.line) fired)
    c.fire_into.ensures.fired c.fire_into.ensures.others

pub returns-clause-put : goal.returns-clause-put
returns-clause-put c =
    on_ok_weaker c.fire_into.result
    (λ others. put_there c.self.inside.nodes c.self.inside.index.items c.self.invariant c.args.self.now c.self.view_is c.args.at c.requires.within (node_at c.fire_into.new.self c.args.at) c.fire_into.new.self others)
    c.fire_into.ensures.others

pub returns-clause-count : goal.returns-clause-count
returns-clause-count c =
    on_ok_weaker c.fire_into.result
    (λ others. same_count c.self.inside.nodes c.self.inside.index.items c.self.invariant c.args.self.now c.self.view_is c.args.at c.requires.within (node_at c.fire_into.new.self c.args.at) c.fire_into.new.self others)
    c.fire_into.ensures.others

pub returns-clause-taken : goal.returns-clause-taken
returns-clause-taken c =
    on_ok_weaker c.fire_into.result
    (λ others. same_seats c.self.inside.nodes c.self.inside.index.items c.self.invariant c.args.self.now c.self.view_is c.args.at c.requires.within (node_at c.fire_into.new.self c.args.at) c.fire_into.new.self others)
    c.fire_into.ensures.others

pub returns-clause-leaving : goal.returns-clause-leaving
returns-clause-leaving c =
    IfOk-weaker c.fire_into.result
    (λ index. index ≡ option_map (λ (leaving : Leaving). leaving.index) (row (node_at c.self.inside.nodes c.args.at).part c.fire_into.new.line.key c.fire_into.new.line.event).leaving)
    (λ index. index ≡ option_map (λ (leaving : Leaving). leaving.index) (row (node_at (seated c.args.self.now) (number_at c.args.self.now c.args.at)).part c.fire_into.new.line.key c.fire_into.new.line.event).leaving)
    (λ index is. is ∙ ap (λ (n : NodeState). option_map (λ (leaving : Leaving). leaving.index) (row n.part c.fire_into.new.line.key c.fire_into.new.line.event).leaving) (node_is c.self.inside.nodes c.self.inside.index.items c.self.invariant c.args.self.now c.self.view_is c.args.at c.requires.within))
    c.fire_into.ensures.leaving
