use Rattle.std.proofs.Common.{◌≡◌, ◌∙◌, sym, ap, subst}
use Rattle.std.proofs.lemmas.Result.{IfOk-weaker}
use Rattle.table_run.specs.State.{State}
use Rattle.net_machine.specs.Run.{Reached}
use Rattle.debugger.specs.Moves.{Passes}
use Rattle.debugger.proofs.Walks.{passes_first}
use Rattle.debugger.proofs.checkpoints.Checkpoints.first.Goals as goal

pub returns-clause-on_run : goal.returns-clause-on_run
returns-clause-on_run c =
    let initial = c.self.inside.initial in
    let here = subst (λ (s : State). Passes s initial) c.self.view_is (passes_first initial c.self.invariant.at_start) in
    IfOk-weaker c.copy.result (λ (x : Reached). x ≡ initial) (Passes c.args.self.now) (λ x e. subst (Passes c.args.self.now) (sym e) here) c.copy.ensures

pub returns-clause-first : goal.returns-clause-first
returns-clause-first c =
    let initial = c.self.inside.initial in
    IfOk-weaker c.copy.result (λ (x : Reached). x ≡ initial) (λ (x : Reached). x.position ≡ 0) (λ x e. ap (λ (r : Reached). r.position) e ∙ c.self.invariant.at_start) c.copy.ensures
