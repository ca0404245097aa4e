use Rattle.std.proofs.Common.{◌≡◌, inl, inr, sym, ap, subst, Bor, List}
use Rattle.std.specs.List.{All}
use Rattle.std.proofs.lemmas.Result.{IfOk-weaker}
use Rattle.table_run.specs.State.{State}
use Rattle.net_machine.specs.Run.{Reached}
use Rattle.debugger.specs.Moves.{Passes, SomeUpto}
use Rattle.debugger.proofs.Moments.{Begins, begins_upto}
use Rattle.debugger.proofs.Walks.{passes_first}
use Rattle.debugger.proofs.checkpoints.Checkpoints.nearest_before.Goals as goal
use Rattle.debugger.proofs.checkpoints.Checkpoints.nearest_before.Goals.{then-is_better, else-is_better, then-is_better-2, else-is_better-2}

pub loop-net-init : goal.loop-net-init
loop-net-init c =
    let initial = c.self.inside.initial in
    (subst (λ (s : State). Passes s initial) c.self.view_is (passes_first initial c.self.invariant.at_start), inl c.self.invariant.at_start)

pub loop-net-preserved : goal.loop-net-preserved
loop-net-preserved c =
    elim c.if-is_better.branch [
      | then-is_better w ↦ (
          let is : c.if-is_better.best.now ≡ c.net-item.result = ap (λ (b : Bor Reached). b.now) w.best-is in
          let all = subst (λ (xs : List Reached). All (Passes c.self.inside.initial.state) xs) (sym c.deref-net-items.ensures.value) c.self.invariant.on_run in
          let one = subst (Passes c.self.inside.initial.state) (sym c.net-item.is) (all c.loop-net.net-index c.net-item.result c.loop-net-test.true) in
          let on_run : Passes c.args.self.now c.net-item.result = subst (λ (s : State). Passes s c.net-item.result) c.self.view_is one in
          subst (Begins c.args.self.now c.args.time) (sym is) (on_run, inr (c.is_better.ensures w.if-is_better.true)))
      | else-is_better w ↦ (
          let is : c.if-is_better.best.now ≡ c.loop-net.best.now = ap (λ (b : Bor Reached). b.now) w.best-is in
          subst (Begins c.args.self.now c.args.time) (sym is) c.loop-net.invariant)
    ]

pub returns-clause-on_run : goal.returns-clause-on_run
returns-clause-on_run c =
    let best : Begins c.args.self.now c.args.time c.if-is_better-2.best.now =
    elim c.if-is_better-2.branch [
      | then-is_better-2 w ↦ subst (λ (b : Bor Reached). Begins c.args.self.now c.args.time b.now) (sym w.best-is) (c.requires, inr (c.is_better-2.ensures w.if-is_better-2.true))
      | else-is_better-2 w ↦ subst (λ (b : Bor Reached). Begins c.args.self.now c.args.time b.now) (sym w.best-is) c.loop-net.invariant
    ] in
    IfOk-weaker c.copy.result (λ (x : Reached). x ≡ c.if-is_better-2.best.now) (Passes c.args.self.now) (λ x e. subst (Passes c.args.self.now) (sym e) best.0) c.copy.ensures

pub returns-clause-some : goal.returns-clause-some
returns-clause-some c =
    let initial = c.self.inside.initial in
    let best : Begins c.args.self.now c.args.time c.if-is_better-2.best.now =
    elim c.if-is_better-2.branch [
      | then-is_better-2 w ↦ subst (λ (b : Bor Reached). Begins c.args.self.now c.args.time b.now) (sym w.best-is) (c.requires, inr (c.is_better-2.ensures w.if-is_better-2.true))
      | else-is_better-2 w ↦ subst (λ (b : Bor Reached). Begins c.args.self.now c.args.time b.now) (sym w.best-is) c.loop-net.invariant
    ] in
    let some : SomeUpto c.args.self.now c.args.time c.if-is_better-2.best.now.position =
    subst (λ (s : State). SomeUpto s c.args.time c.if-is_better-2.best.now.position) c.self.view_is
    (begins_upto initial c.args.time c.if-is_better-2.best.now c.self.invariant.at_start c.position-count.ensures.is_run (subst (λ (s : State). Begins s c.args.time c.if-is_better-2.best.now) (sym c.self.view_is) best)) in
    IfOk-weaker c.copy.result (λ (x : Reached). x ≡ c.if-is_better-2.best.now) (λ (x : Reached). SomeUpto c.args.self.now c.args.time x.position) (λ x e. subst (λ (r : Reached). SomeUpto c.args.self.now c.args.time r.position) (sym e) some) c.copy.ensures
