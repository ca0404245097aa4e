use Rattle.std.proofs.Common.{◌≡◌, sym, subst, IfOk, IfErr}
use Rattle.std.proofs.lemmas.Result.{IfOk-weaker}
use Rattle.table_run.specs.State.{State}
use Rattle.net_machine.specs.Run.{Reached}
use Rattle.debugger.specs.declared.fault.MoveFault.{MoveFault}
use Rattle.debugger.specs.declared.fault.MoveFault.TheVariants.{CountFull}
use Rattle.debugger.specs.Moves.{Passes, HasPosition, IsTooLong}
use Rattle.debugger.specs.Courses.{IsOnWindows}
use Rattle.debugger.specs.Aims.{GoesTo, IsSought}
use Rattle.debugger.proofs.Faults.{none_full, none_missing, not_ok, full_of_memory, alone_of_memory}
use Rattle.debugger.proofs.window_settings.WindowSettings.find.Goals as goal

pub new-requires : goal.new-requires
new-requires g c = c.requires.nodes

pub returns-in_err-course-clause-on_run : goal.returns-in_err-course-clause-on_run
returns-in_err-course-clause-on_run g c = not_ok c.from_residual.result _ _ c.from_residual.ensures

pub returns-in_err-course-clause-goes : goal.returns-in_err-course-clause-goes
returns-in_err-course-clause-goes g c = not_ok c.from_residual.result _ _ c.from_residual.ensures

pub returns-in_err-course-clause-full : goal.returns-in_err-course-clause-full
returns-in_err-course-clause-full g c = full_of_memory c.from_residual.result (IsTooLong c.args.checkpoints.now) c.from_residual.ensures

-- the move ends in a window
pub into_net_at-requires-clause-on_way : goal.into_net_at-requires-clause-on_way
into_net_at-requires-clause-on_way g c =
    let sought = subst (IsSought c.args.checkpoints.now c.args.aim.now c.args.present.now.position c.seek.new.course) c.in-Ok-Some.field-0-is c.in-Ok-Some.ensures.found in
    subst (λ (s : State). IsOnWindows s c.in-Ok-Some.target c.seek.new.course) (sym c.seek.ensures.same) sought.0

pub into_net_at-requires-clause-position : goal.into_net_at-requires-clause-position
into_net_at-requires-clause-position g c =
    let sought = subst (IsSought c.args.checkpoints.now c.args.aim.now c.args.present.now.position c.seek.new.course) c.in-Ok-Some.field-0-is c.in-Ok-Some.ensures.found in
    subst (λ (s : State). HasPosition s c.in-Ok-Some.target) (sym c.seek.ensures.same) sought.1.0

pub returns-in-Ok-Some-clause-on_run : goal.returns-in-Ok-Some-clause-on_run
returns-in-Ok-Some-clause-on_run g c = subst (λ (s : State). IfOk c.into_net_at.result (Passes s)) c.seek.ensures.same c.into_net_at.ensures.on_run

pub returns-in-Ok-Some-clause-goes : goal.returns-in-Ok-Some-clause-goes
returns-in-Ok-Some-clause-goes g c =
    let sought = subst (IsSought c.args.checkpoints.now c.args.aim.now c.args.present.now.position c.seek.new.course) c.in-Ok-Some.field-0-is c.in-Ok-Some.ensures.found in
    let goes = sought.1.1 in
    IfOk-weaker c.into_net_at.result (λ (net : Reached). net.position ≡ c.in-Ok-Some.target) (λ (net : Reached). GoesTo c.args.checkpoints.now c.args.aim.now c.args.present.now.position net.position) (λ net e. subst (GoesTo c.args.checkpoints.now c.args.aim.now c.args.present.now.position) (sym e) goes) c.into_net_at.ensures.goes

pub returns-in-Ok-Some-clause-full : goal.returns-in-Ok-Some-clause-full
returns-in-Ok-Some-clause-full g c = subst (λ (s : State). IfErr c.into_net_at.result (λ (fault : MoveFault). fault ≡ CountFull → IsTooLong s)) c.seek.ensures.same c.into_net_at.ensures.full

-- or with the run
pub returns-in-Ok-None-clause-full : goal.returns-in-Ok-None-clause-full
returns-in-Ok-None-clause-full g c = none_full c.into_edge.result (IsTooLong c.args.checkpoints.now) c.into_edge.ensures.no_count

-- a worker is missing only where several run a window
pub returns-in_err-course-clause-several : goal.returns-in_err-course-clause-several
returns-in_err-course-clause-several g c = none_missing c.args.self.now.workers c.from_residual.result (alone_of_memory c.from_residual.result c.from_residual.ensures)

pub returns-in-Ok-Some-clause-several : goal.returns-in-Ok-Some-clause-several
returns-in-Ok-Some-clause-several g c = none_missing c.args.self.now.workers c.into_net_at.result c.into_net_at.ensures.no_worker

pub returns-in-Ok-None-clause-several : goal.returns-in-Ok-None-clause-several
returns-in-Ok-None-clause-several g c = none_missing c.args.self.now.workers c.into_edge.result c.into_edge.ensures.no_worker
