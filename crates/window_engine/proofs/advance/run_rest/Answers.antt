use Rattle.std.proofs.Common.{ap, ◌∙◌, sym, subst, arith}
use Rattle.std.proofs.lemmas.Result.{IfErr-weaker}
use Rattle.window_core.specs.Full.{HasTooMany}
use Rattle.window_core.specs.Window.{WindowValue}
use Rattle.window_workers.specs.Edges.{IsAtEdge, reached_in}
use Rattle.window_workers.specs.Laid.{HasFullGroup, HasRunOr}
use Rattle.window_workers.specs.WindowOutcomes.{IsWorkersFault}
use Rattle.window_workers.proofs.Meant.{meant_more}
use Rattle.window_workers.proofs.TooMany.{group_full}
use Rattle.window_engine.proofs.advance.run_rest.Goals as goal

pub returns-clause-fault : goal.returns-clause-fault
returns-clause-fault g c =
    let v = c.args.before.now.value in
    let w = c.limit.new.self in
    let given = c.give_back.new.window in
    let same = c.give_back.ensures ∙ subst (λ ran. HasRunOr ran c.args.until v c.args.window.now) c.if-ran.false c.requires.ran in
    IfErr-weaker c.run_in_turn.result (IsWorkersFault 1 (HasFullGroup w)) (IsWorkersFault 1 (HasTooMany (reached_in v)))
    (λ fault is. meant_more 1 1 (HasFullGroup w) (HasTooMany (reached_in v)) fault (omega arith) (λ full. subst (λ (u : WindowValue). HasTooMany (reached_in u)) same (group_full given w (subst IsAtEdge (sym same) c.requires.edge) c.position-began.ensures.is_window c.position-limited.ensures.is_window c.limit.ensures.from (ap (λ (x : WindowValue). x.position) c.limit.ensures.state) full)) is)
    c.run_in_turn.ensures.fault
