use Rattle.std.proofs.Common.{◌-◌, subst, ap, arith}
use Rattle.debugger.specs.Moves.{StepGoesTo}
use Rattle.debugger.proofs.Walks.{comes_there}
use Rattle.debugger.proofs.walk.reach.Goals as goal

pub overflow_sub-count : goal.overflow_sub-count
overflow_sub-count c = omega (arith, c.requires.below, c.position.ensures.count)

pub forward-requires : goal.forward-requires
forward-requires c = c.requires.on_run

pub returns-in-Ok-clause-on_run : goal.returns-in-Ok-clause-on_run
returns-in-Ok-clause-on_run c = c.in-Ok.ensures.on_run

pub returns-in-Ok-clause-reached : goal.returns-in-Ok-clause-reached
returns-in-Ok-clause-reached c =
    let m = c.args.net.now.position in
    let goes = subst (λ k. StepGoesTo c.args.checkpoints.now m k c.forward.new.net.position) (ap (λ k. c.args.target - k) c.position.ensures.count) c.in-Ok.ensures.goes in
    comes_there c.args.checkpoints.now m c.args.target c.forward.new.net.position goes c.requires.below c.requires.position

pub returns-in-Ok-clause-same : goal.returns-in-Ok-clause-same
returns-in-Ok-clause-same c = c.forward.ensures.same

pub returns-in-Err-clause-full : goal.returns-in-Err-clause-full
returns-in-Err-clause-full c = c.in-Err.ensures.full

pub returns-in-Err-clause-same : goal.returns-in-Err-clause-same
returns-in-Err-clause-same c = c.forward.ensures.same
