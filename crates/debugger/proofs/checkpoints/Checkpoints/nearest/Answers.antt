use Rattle.std.proofs.Common.{◌≡◌, ◌≤◌, sym, ap, subst, arith, Bor, List}
use Rattle.std.specs.List.{All}
use Rattle.std.proofs.lemmas.Result.{IfOk-weaker}
use Rattle.table_run.specs.State.{State}
use Rattle.net_machine.specs.Run.{Reached}
use Rattle.debugger.specs.Moves.{Passes}
use Rattle.debugger.proofs.Walks.{passes_first}
use Rattle.debugger.proofs.Thinned.{Reaches}
use Rattle.debugger.proofs.checkpoints.Checkpoints.nearest.Goals as goal
use Rattle.debugger.proofs.checkpoints.Checkpoints.nearest.Goals.{then-position-target+then-position, else-position-target, then-position-target-2+then-position-2, else-position-target-2}

pub loop-net-init : goal.loop-net-init
loop-net-init c =
    let initial = c.self.inside.initial in
    record { on_run = subst (λ (s : State). Passes s initial) c.self.view_is (passes_first initial c.self.invariant.at_start); below = omega (arith, c.self.invariant.at_start) }

pub loop-net-preserved : goal.loop-net-preserved
loop-net-preserved c =
    elim c.if-position-target.branch [
      | then-position-target+then-position w ↦ (
          let is : c.if-position-target.best.now ≡ c.net-item.result = ap (λ (b : Bor Reached). b.now) w.best-is in
          let all = subst (λ (xs : List Reached). All (Passes c.self.inside.initial.state) xs) (sym c.deref-net-items.ensures.value) c.self.invariant.on_run in
          let one = subst (Passes c.self.inside.initial.state) (sym c.net-item.is) (all c.loop-net.net-index c.net-item.result c.loop-net-test.true) in
          let on_run : Passes c.args.self.now c.net-item.result = subst (λ (s : State). Passes s c.net-item.result) c.self.view_is one in
          let below : c.net-item.result.position ≤ c.args.target = omega (arith, w.if-position-target.true, c.position.ensures.count) in
          let both : Reaches c.args.self.now c.args.target c.if-position-target.best.now = subst (Reaches c.args.self.now c.args.target) (sym is) (on_run, below) in
          record { on_run = both.0; below = both.1 })
      | else-position-target w ↦ (
          let is : c.if-position-target.best.now ≡ c.loop-net.best.now = ap (λ (b : Bor Reached). b.now) w.best-is in
          let both : Reaches c.args.self.now c.args.target c.if-position-target.best.now = subst (Reaches c.args.self.now c.args.target) (sym is) (c.loop-net.invariant.on_run, c.loop-net.invariant.below) in
          record { on_run = both.0; below = both.1 })
    ]

pub returns-clause-on_run : goal.returns-clause-on_run
returns-clause-on_run c =
    let best : Passes c.args.self.now c.if-position-target-2.best.now =
    elim c.if-position-target-2.branch [
      | then-position-target-2+then-position-2 w ↦ subst (λ (b : Bor Reached). Passes c.args.self.now b.now) (sym w.best-is) c.requires
      | else-position-target-2 w ↦ subst (λ (b : Bor Reached). Passes c.args.self.now b.now) (sym w.best-is) c.loop-net.invariant.on_run
    ] in
    IfOk-weaker c.copy.result (λ (x : Reached). x ≡ c.if-position-target-2.best.now) (Passes c.args.self.now) (λ x e. subst (Passes c.args.self.now) (sym e) best) c.copy.ensures

pub returns-clause-below : goal.returns-clause-below
returns-clause-below c =
    let best : c.if-position-target-2.best.now.position ≤ c.args.target =
    elim c.if-position-target-2.branch [
      | then-position-target-2+then-position-2 w ↦ subst (λ (b : Bor Reached). b.now.position ≤ c.args.target) (sym w.best-is) (let same = c.position-2.ensures.count in omega (arith, w.if-position-target-2.true, same))
      | else-position-target-2 w ↦ subst (λ (b : Bor Reached). b.now.position ≤ c.args.target) (sym w.best-is) c.loop-net.invariant.below
    ] in
    IfOk-weaker c.copy.result (λ (x : Reached). x ≡ c.if-position-target-2.best.now) (λ (x : Reached). x.position ≤ c.args.target) (λ x e. subst (λ (r : Reached). r.position ≤ c.args.target) (sym e) best) c.copy.ensures
