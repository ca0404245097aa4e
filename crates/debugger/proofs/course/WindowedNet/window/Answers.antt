use Rattle.debugger.proofs.Alone.{moves_on}
use Rattle.debugger.proofs.Faults.{several_of_windows}
use Rattle.debugger.proofs.course.WindowedNet.window.Goals as goal

pub returns-clause-some : goal.returns-clause-some
returns-clause-some g c =
    let some = c.requires.slice in
    moves_on c.args.self.now.engine.net c.window.new.self.net c.in_ok-batch.batch _ c.args.self.now.slice c.in-Some.next (c.position-began.ensures.is_run c.requires.running) some c.saturating_add-until.ensures c.in-Some.ensures.next c.in-Some.ensures.below c.in_ok-batch.ensures.some c.in_ok-batch.ensures.ok

pub returns-in_err-batch-clause-several : goal.returns-in_err-batch-clause-several
returns-in_err-batch-clause-several g c = several_of_windows c.args.workers c.from_residual.result c.in_err-batch.field-0.0 c.from_residual.ensures (c.in_err-batch.ensures.fault c.requires.running)
