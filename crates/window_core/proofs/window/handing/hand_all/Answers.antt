use Rattle.std.proofs.Common.{◌≡◌, ◌+◌, ℕ, List, length, true, false, Option, Some, None, refl, sym, subst, ◌∙◌, arith, true≢false}
use Rattle.std.specs.Option.{IfSome, is_some}
use Rattle.node_group.specs.Group.{GroupValue}
use Rattle.window_core.proofs.HandedEach.{HandedFrom, none_yet, can_each, handed_one, handed_next, handed_all, fewer}
use Rattle.window_core.proofs.window.handing.hand_all.Goals as goal

some_of : {P : ℕ → Type 0} (o : Option ℕ) → is_some o ≡ true → IfSome o P → (link : ℕ) × P link
some_of None e h = absurd (true≢false (sym e))
some_of (Some link) e h = (link, h)

none_of : (o : Option ℕ) → is_some o ≡ false → o ≡ None
none_of None e = refl
none_of (Some link) e = absurd (true≢false e)

pub loop-from-init : goal.loop-from-init
loop-from-init c ready = (none_yet c.args.partition.now c.args.links.now c.args.group_states.now ready, (c.new-chain.ensures, c.requires.nexts))

pub loop-init : goal.loop-init
loop-init c = c.loop-from.invariant

pub hand_next-requires-clause-can : goal.hand_next-requires-clause-can
hand_next-requires-clause-can c =
    let is = (c.loop.invariant c.requires.ready).0 in
    can_each c.args.partition.now c.args.links.now c.args.group_states.now c.requires.ready c.loop.group_states c.loop-from.from is c.loop-from-test.true

pub hand_next-requires-clause-empty : goal.hand_next-requires-clause-empty
hand_next-requires-clause-empty c = (c.loop.invariant c.requires.ready).1.0

pub hand_next-requires-clause-nexts : goal.hand_next-requires-clause-nexts
hand_next-requires-clause-nexts c = (c.loop.invariant c.requires.ready).1.1

pub loop-smaller : goal.loop-smaller
loop-smaller c =
    let is = (c.loop.invariant c.requires.ready).0 in
    let one = some_of c.hand_next.result (sym c.is_some.ensures ∙ c.loop-test.true) c.hand_next.ensures.some in
    fewer c.args.partition.now c.args.links.now c.args.group_states.now c.requires.ready c.loop.group_states c.loop-from.from is c.loop-from-test.true c.hand_next.new.group_states one.0 one.1

pub loop-preserved : goal.loop-preserved
loop-preserved c ready =
    let is = (c.loop.invariant ready).0 in
    let one = some_of c.hand_next.result (sym c.is_some.ensures ∙ c.loop-test.true) c.hand_next.ensures.some in
    (handed_one c.args.partition.now c.args.links.now c.args.group_states.now ready c.loop.group_states c.loop-from.from is c.loop-from-test.true c.hand_next.new.group_states one.0 one.1, (c.hand_next.ensures.empty, c.hand_next.ensures.nexts))

pub loop-from-preserved : goal.loop-from-preserved
loop-from-preserved c ready =
    let is = (c.loop.invariant ready).0 in
    let none = c.hand_next.ensures.none (none_of c.hand_next.result (sym c.is_some.ensures ∙ c.loop-test.false)) in
    (subst (λ (gs : List GroupValue). HandedFrom c.args.partition.now c.args.links.now c.args.group_states.now ready gs (c.loop-from.from + 1)) (sym none.1) (handed_next c.args.partition.now c.args.links.now c.args.group_states.now ready c.loop.group_states c.loop-from.from is c.loop-from-test.true none.0), (c.hand_next.ensures.empty, c.hand_next.ensures.nexts))

pub returns-clause-handed : goal.returns-clause-handed
returns-clause-handed c =
    let is = (c.loop-from.invariant c.requires.ready).0 in
    let last : c.loop-from.from ≡ length c.args.group_states.now = (let past = c.loop-from-test.false in let upto = c.loop-from.auto.from-end in omega (arith, past, upto)) in
    handed_all c.args.partition.now c.args.links.now c.args.group_states.now c.requires.ready c.loop-from.group_states (subst (HandedFrom c.args.partition.now c.args.links.now c.args.group_states.now c.requires.ready c.loop-from.group_states) last is)

pub returns-clause-nexts : goal.returns-clause-nexts
returns-clause-nexts c = (c.loop-from.invariant c.requires.ready).1.1
