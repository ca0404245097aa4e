use Rattle.std.proofs.Common.{refl, sym, ap, subst, ◌∙◌, arith}
use Rattle.table_run.specs.State.{State}
use Rattle.net_machine.specs.Run.{Reached}
use Rattle.window_engine.specs.Engines.{EngineValue}
use Rattle.debugger.specs.Moves.{Passes}
use Rattle.debugger.specs.Courses.{IsOnWindows}
use Rattle.debugger.specs.Aims.{EndsIn, GoesTo}
use Rattle.debugger.proofs.Faults.{not_ok, full_of_move, several_of_move}
use Rattle.debugger.proofs.Batches.{no_more, window_of, no_window, way_on, too_long_from}
use Rattle.debugger.proofs.Aims.{NotYet, not_yet_at, ended, not_yet_on, ends_in, not_before}
use Rattle.debugger.proofs.Alone.{window_more}
use Rattle.debugger.proofs.window_settings.WindowSettings.seek.Goals as goal

pub loop-batch-init : goal.loop-batch-init
loop-batch-init g c =
    let start = c.args.checkpoints.now in
    let at = ap (λ (r : Reached). r.position) c.requires.net in
    let was = ap (λ (r : Reached). r.position) c.requires.behind in
    record {
      same = refl;
      on_way = record { running = c.requires.running; ahead = subst (Passes start) (sym c.requires.net) c.requires.on_run; behind = subst (Passes start) (sym c.requires.behind) c.requires.on_run; upto = omega (arith, at, was) };
      few = (let few = c.requires.few in omega (arith, at, few));
      from = omega (arith, at);
      slice = c.requires.slice;
      yet = subst (NotYet start c.args.aim.now c.args.present.now.position) (sym at) (not_yet_at start c.args.aim.now c.args.present.now.position);
    }

pub window-requires-clause-running : goal.window-requires-clause-running
window-requires-clause-running g c = c.loop-batch.invariant.on_way.running

pub window-requires-clause-slice : goal.window-requires-clause-slice
window-requires-clause-slice g c = c.loop-batch.invariant.slice

pub window-requires-clause-workers : goal.window-requires-clause-workers
window-requires-clause-workers g c = (c.args.self.now.some, c.args.self.now.few)

pub returns-in_err-batch-clause-found : goal.returns-in_err-batch-clause-found
returns-in_err-batch-clause-found g c = not_ok c.from_residual.result _ _ c.from_residual.ensures

pub returns-in_err-batch-clause-full : goal.returns-in_err-batch-clause-full
returns-in_err-batch-clause-full g c =
    let i = c.loop-batch.invariant in
    full_of_move c.from_residual.result c.in_err-batch.field-0.0 c.from_residual.ensures (λ full. too_long_from c.args.checkpoints.now c.loop-batch.course.engine.net i.on_way.ahead i.few (c.in_err-batch.ensures.full full))

pub returns-in_err-batch-clause-several : goal.returns-in_err-batch-clause-several
returns-in_err-batch-clause-several g c = several_of_move c.args.self.now.workers c.from_residual.result c.in_err-batch.field-0.0 c.from_residual.ensures c.in_err-batch.ensures.several

pub returns-in_err-batch-clause-same : goal.returns-in_err-batch-clause-same
returns-in_err-batch-clause-same g c = c.loop-batch.invariant.same

-- no event is left
pub returns-in_default-clause-found : goal.returns-in_default-clause-found
returns-in_default-clause-found g c =
    let i = c.loop-batch.invariant in
    let none = no_window c.loop-batch.course.engine.net c.window.new.self.engine.net c.in_ok-batch.field-0 c.in_default.is c.in_ok-batch.ensures.gone in
    let goes = ended c.args.checkpoints.now c.args.aim.now c.args.present.now.position c.loop-batch.course.engine.net i.yet i.from i.on_way.ahead (no_more c.loop-batch.course.engine.net.state none.0) in (
      c.in_ok-batch.ensures.running,
      (
        subst (Passes c.args.checkpoints.now) (sym none.1) i.on_way.ahead,
        subst (λ (r : Reached). GoesTo c.args.checkpoints.now c.args.aim.now c.args.present.now.position r.position) (sym none.1) goes,
      ),
    )

pub returns-in_default-clause-same : goal.returns-in_default-clause-same
returns-in_default-clause-same g c = c.loop-batch.invariant.same

-- the move ends in the window
pub end_in-found-requires-clause-some : goal.end_in-found-requires-clause-some
end_in-found-requires-clause-some g c =
    let gone = window_of c.loop-batch.course.engine.net c.window.new.self.engine.net c.in_ok-batch.field-0 c.in-Some.batch c.in-Some.is c.in_ok-batch.ensures.gone in
    omega (arith, gone.first)

pub end_in-found-requires-clause-few : goal.end_in-found-requires-clause-few
end_in-found-requires-clause-few g c =
    let gone = window_of c.loop-batch.course.engine.net c.window.new.self.engine.net c.in_ok-batch.field-0 c.in-Some.batch c.in-Some.is c.in_ok-batch.ensures.gone in
    omega (arith, gone.first, gone.position, c.in_ok-batch.ensures.few)

pub returns-in-Some-found-clause-found : goal.returns-in-Some-found-clause-found
returns-in-Some-found-clause-found g c =
    let i = c.loop-batch.invariant in
    let gone = window_of c.loop-batch.course.engine.net c.window.new.self.engine.net c.in_ok-batch.field-0 c.in-Some.batch c.in-Some.is c.in_ok-batch.ensures.gone in
    let target = c.in-Some-found.target in
    let found = subst (EndsIn c.args.aim.now c.in-Some.batch) c.in-Some-found.is c.end_in-found.ensures in
    let past = not_before c.args.checkpoints.now c.args.present.now.position c.loop-batch.course.engine.net c.in-Some.batch c.window.new.self.engine.net i.on_way.ahead i.from gone c.args.aim.now target found in
    let ends = ends_in c.args.checkpoints.now c.args.present.now.position c.loop-batch.course.engine.net c.in-Some.batch c.window.new.self.engine.net i.on_way.ahead i.from gone c.args.aim.now target i.yet found in (
      way_on c.args.checkpoints.now c.loop-batch.course c.window.new.self c.in-Some.batch target i.on_way gone c.in_ok-batch.ensures.running c.window.ensures.behind past,
      (ends.1, ends.0),
    )

pub returns-in-Some-found-clause-same : goal.returns-in-Some-found-clause-same
returns-in-Some-found-clause-same g c = c.loop-batch.invariant.same

-- or goes on
pub follow-requires : goal.follow-requires
follow-requires g c =
    let i = c.loop-batch.invariant in
    let gone = window_of c.loop-batch.course.engine.net c.window.new.self.engine.net c.in_ok-batch.field-0 c.in-Some.batch c.in-Some.is c.in_ok-batch.ensures.gone in
    let most = c.window.new.self.engine.net.position in
    subst (λ (s : State). IsOnWindows s most c.window.new.self) (sym i.same)
    (way_on c.args.checkpoints.now c.loop-batch.course c.window.new.self c.in-Some.batch most i.on_way gone c.in_ok-batch.ensures.running c.window.ensures.behind (omega (arith, gone.position)))

pub loop-batch-preserved : goal.loop-batch-preserved
loop-batch-preserved g c =
    let i = c.loop-batch.invariant in
    let gone = window_of c.loop-batch.course.engine.net c.window.new.self.engine.net c.in_ok-batch.field-0 c.in-Some.batch c.in-Some.is c.in_ok-batch.ensures.gone in
    let at = ap (λ (e : EngineValue). e.net.position) c.follow.ensures.engine in
    let missed = subst (EndsIn c.args.aim.now c.in-Some.batch) c.in_default-found.is c.end_in-found.ensures in
    record {
      same = c.follow.ensures.same ∙ i.same;
      on_way = subst (λ (s : State). IsOnWindows s c.follow.new.self.engine.net.position c.follow.new.self) i.same c.follow.ensures.on_way;
      few = omega (arith, at, c.in_ok-batch.ensures.few);
      from = omega (arith, at, gone.position, i.from);
      slice = omega (arith, c.follow.ensures.slice, c.window.ensures.slice);
      yet = subst (NotYet c.args.checkpoints.now c.args.aim.now c.args.present.now.position) (sym at) (not_yet_on c.args.checkpoints.now c.args.present.now.position c.loop-batch.course.engine.net c.in-Some.batch c.window.new.self.engine.net i.on_way.ahead i.from gone c.args.aim.now i.yet missed);
    }

-- a window has committed an event
pub loop-batch-smaller : goal.loop-batch-smaller
loop-batch-smaller g c =
    let at = ap (λ (e : EngineValue). e.net.position) c.follow.ensures.engine in
    let more = window_more c.loop-batch.course.engine.net.position c.window.new.self.engine.net.position c.in_ok-batch.field-0 c.in-Some.batch c.in-Some.is c.in_ok-batch.ensures.some in
    omega (arith, at, more, c.in_ok-batch.ensures.few)
