use Rattle.std.proofs.Common.{arith}
use Rattle.window_core.specs.Full.{HasTooMany, RunsTooLong}
use Rattle.window_workers.proofs.Meant.{meant_more}
use Rattle.window_engine.proofs.Edge.{turned_stays, stays_both}
use Rattle.std.proofs.lemmas.Result.{err_from_is_err_and}
use Rattle.window_workers.specs.Edges.{reached_in}
use Rattle.window_engine.proofs.Filled.{turned_by}
use Rattle.window_engine.proofs.TooMany.{turn_full}
use Rattle.window_engine.proofs.advance.finish.Goals as goal

pub returns-clause-turned : goal.returns-clause-turned
returns-clause-turned g c =
    let turned = c.in_ok-turn.ensures in
    turned_by c.args.before.now.value c.run_rest.new.window c.turn.new.window c.args.until (g.L.LineTarget.reported c.turn.new.self) c.requires.edge c.requires.is_window c.in_ok-run_rest.ensures.done turned.turned turned.run turned.below

pub returns-clause-stays : goal.returns-clause-stays
returns-clause-stays g c =
    stays_both c.args.before.now.value c.run_rest.new.window c.turn.new.window c.in_ok-run_rest.ensures.stays (turned_stays c.run_rest.new.window c.turn.new.window (g.L.LineTarget.reported c.turn.new.self) c.in_ok-turn.ensures.turned)

pub returns-in_err-run_rest-clause-fault : goal.returns-in_err-run_rest-clause-fault
returns-in_err-run_rest-clause-fault g c =
    let many = HasTooMany (reached_in c.args.before.now.value) in
    let some = c.args.workers.now.some in
    let p = err_from_is_err_and c.from_residual-in_err-run_rest.result c.from_residual-in_err-run_rest.ensures.1 in
    rw (p.1, p.2)
    (meant_more 1 c.args.workers.now.workers many many c.in_err-run_rest.field-0.0 (omega (arith, some)) (λ full. full) c.in_err-run_rest.ensures.fault)

pub returns-in_err-turn-clause-fault : goal.returns-in_err-turn-clause-fault
returns-in_err-turn-clause-fault g c =
    let v = c.args.before.now.value in
    let w = c.run_rest.new.window in
    let some = c.args.workers.now.some in
    let p = err_from_is_err_and c.from_residual-in_err-turn.result c.from_residual-in_err-turn.ensures.1 in
    rw (p.1, p.2)
    (meant_more 1 c.args.workers.now.workers (RunsTooLong w) (HasTooMany (reached_in v)) c.in_err-turn.field-0.0 (omega (arith, some)) (λ long. turn_full v w c.args.until c.requires.edge c.requires.is_window c.in_ok-run_rest.ensures.done long) c.in_err-turn.ensures.fault)
