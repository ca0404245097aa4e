use Rattle.std.proofs.Common.{◌+◌, ◌∙◌, min, subst, ap}
use Rattle.table_run.specs.State.{State}
use Rattle.net_watch.proofs.Alone.{second_alone}
use Rattle.debugger.specs.Moves.{Passes}
use Rattle.debugger.proofs.Watched.{step_goes, too_long_there}
use Rattle.debugger.proofs.walk.forward.Goals as goal

pub returns-in-Ok-clause-goes : goal.returns-in-Ok-clause-goes
returns-in-Ok-clause-goes c =
    let both = c.in-Ok.ensures.watched in
    let upto = second_alone _ _ _ both (λ b checkpoints. checkpoints.holds.0) in
    let here = subst (λ (s : State). Passes s c.run_by_two-ended.new.net) both.first_has.holds.1 c.in-Ok.ensures.first in
    step_goes c.args.checkpoints.now c.args.net.now c.run_by_two-ended.new.net c.args.count c.run_by_two-ended.new.second.position c.in-Ok.field-0 here upto.holds.0 c.in-Ok.ensures.end
    (upto.holds.1 ∙ c.saturating_add.ensures ∙ ap (λ p. min (p + c.args.count) 18446744073709551615) c.position.ensures.count) c.in-Ok.ensures.second c.position-count.ensures.is_run.position_fits

pub returns-in-Err-clause-full : goal.returns-in-Err-clause-full
returns-in-Err-clause-full c =
    let both = c.in-Err.ensures.watched in
    let here = subst (λ (s : State). Passes s c.run_by_two-ended.new.net) both.first_has.holds.1 c.in-Err.ensures.first in
    too_long_there c.args.checkpoints.now c.run_by_two-ended.new.net c.in-Err.fault here c.in-Err.ensures.end
