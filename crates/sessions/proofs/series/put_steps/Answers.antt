use Rattle.std.proofs.Common.{◌≡◌, ◌∙◌, ◌+◌, ◌≤◌, min, MatchBool, Err, refl, sym, ap, subst, arith, rules}
use Rattle.std.specs.Io.KnownBytes.{Appends}
use Rattle.sim_time.specs.declared.limits.TheConstants.{LATEST_END}
use Rattle.net_machine.specs.Run.{Reached}
use Rattle.figures.specs.Figures.{AreOfRun, AreOfSomeRun, base_at}
use Rattle.figures_text.specs.Steps.{IsGoingOn}
use Rattle.sessions.specs.declared.fault.SessionFault.TheVariants.{NoMemory}
use Rattle.sessions.specs.Ended.{SessionEnded, writes_after}
use Rattle.sessions.specs.FiguresOutput.{IsRowsOutput}
use Rattle.sessions.specs.Output.{IsAllOrNothing}
use Rattle.sessions.specs.Written.{Writes}
use Rattle.sessions.proofs.Figured.{end_of_run}
use Rattle.sessions.proofs.Stepped.{IsSoFar, going_early, none_yet, step_come, step_cut, step_last, step_next, step_of, step_rows, step_short, step_stopped}
use Rattle.sessions.proofs.series.put_steps.Goals as goal

pub loop-text-init : goal.loop-text-init
loop-text-init g c = record {
  so_far = none_yet c.args.column.now c.args.scenario.now c.args.row_steps.from c.args.row_steps.every c.args.counter.now.figures c.args.counter.now.net (g.W.Sink.contents c.args.writer.now) c.requires.begun c.requires.some c.requires.from;
  failures = refl;
}

pub returns-in_err-run_before-clause-output : goal.returns-in_err-run_before-clause-output
returns-in_err-run_before-clause-output g c =
    let fault = c.in_err-run_before.field-0.0 in
    let is : c.from_residual.result ≡ Err fault = search rules in
    subst (λ (e : SessionEnded). Writes (IsRowsOutput c.args.column.now c.args.scenario.now c.args.row_steps.from c.args.row_steps.every e) (g.W.Sink.contents c.args.writer.now) (g.W.Sink.contents c.loop-text.writer)) (sym is)
    (step_stopped c.args.column.now c.args.scenario.now c.args.row_steps.from c.args.row_steps.every c.loop-text.begin (c.loop-text.begin + c.args.row_steps.every) c.loop-text.counter.figures c.run_before.new.self.figures c.loop-text.counter.net c.run_before.new.self.net (g.W.Sink.contents c.args.writer.now) (g.W.Sink.contents c.loop-text.writer) c.loop-text.invariant.so_far refl c.run_before.ensures.early c.run_before.ensures.figures c.run_before.ensures.some.fits fault c.in_err-run_before.ensures.faults)

pub put_rows-requires : goal.put_rows-requires
put_rows-requires g c = record { base = base_at c.args.scenario.now (min c.loop-text.begin c.args.scenario.now.end) c.loop-text.counter.net; of = step_of c.args.column.now c.args.scenario.now c.args.row_steps.from c.args.row_steps.every c.loop-text.begin (c.loop-text.begin + c.args.row_steps.every) c.loop-text.counter.figures c.run_before.new.self.figures c.loop-text.counter.net c.run_before.new.self.net (g.W.Sink.contents c.args.writer.now) (g.W.Sink.contents c.loop-text.writer) c.loop-text.invariant.so_far refl c.run_before.ensures.early c.run_before.ensures.figures c.run_before.ensures.some.fits }

pub returns-in_err-put_rows-clause-output : goal.returns-in_err-put_rows-clause-output
returns-in_err-put_rows-clause-output g c =
    let fault = c.in_err-put_rows.field-0.0 in
    let now = g.W.Sink.contents c.loop-text.writer in
    let new = g.W.Sink.contents c.put_rows.new.writer in
    let rows = step_rows c.args.column.now c.args.scenario.now c.args.row_steps.from c.args.row_steps.every c.loop-text.begin (c.loop-text.begin + c.args.row_steps.every) c.loop-text.counter.figures c.run_before.new.self.figures c.loop-text.counter.net c.run_before.new.self.net (g.W.Sink.contents c.args.writer.now) (g.W.Sink.contents c.loop-text.writer) c.loop-text.invariant.so_far refl c.run_before.ensures.early c.run_before.ensures.figures c.run_before.ensures.some.fits in
    let made = subst (λ (e : SessionEnded). Writes (IsAllOrNothing rows e) now new) c.in_err-put_rows.was (c.put_rows.ensures.output (base_at c.args.scenario.now (min c.loop-text.begin c.args.scenario.now.end) c.loop-text.counter.net) (step_of c.args.column.now c.args.scenario.now c.args.row_steps.from c.args.row_steps.every c.loop-text.begin (c.loop-text.begin + c.args.row_steps.every) c.loop-text.counter.figures c.run_before.new.self.figures c.loop-text.counter.net c.run_before.new.self.net (g.W.Sink.contents c.args.writer.now) (g.W.Sink.contents c.loop-text.writer) c.loop-text.invariant.so_far refl c.run_before.ensures.early c.run_before.ensures.figures c.run_before.ensures.some.fits)) in
    let is : c.from_residual-in_err-put_rows.result ≡ Err fault = search rules in
    subst (λ (e : SessionEnded). Writes (IsRowsOutput c.args.column.now c.args.scenario.now c.args.row_steps.from c.args.row_steps.every e) (g.W.Sink.contents c.args.writer.now) new) (sym is)
    (step_cut c.args.column.now c.args.scenario.now c.args.row_steps.from c.args.row_steps.every c.loop-text.begin (c.loop-text.begin + c.args.row_steps.every) c.loop-text.counter.figures c.run_before.new.self.figures c.loop-text.counter.net c.run_before.new.self.net (g.W.Sink.contents c.args.writer.now) (g.W.Sink.contents c.loop-text.writer) c.loop-text.invariant.so_far refl c.run_before.ensures.early c.run_before.ensures.figures c.run_before.ensures.some.fits c.in_ok-run_before.ensures.held fault new made)

pub returns-then-not-goes_on-clause-output : goal.returns-then-not-goes_on-clause-output
returns-then-not-goes_on-clause-output g c =
    let p = c.args.scenario.now in
    let until = c.loop-text.begin + c.args.row_steps.every in
    let s = c.run_before.new.self.net.state in
    let end = end_of_run p c.run_before.new.self.net (step_come c.args.column.now c.args.scenario.now c.args.row_steps.from c.args.row_steps.every c.loop-text.begin (c.loop-text.begin + c.args.row_steps.every) c.loop-text.counter.figures c.run_before.new.self.figures c.loop-text.counter.net c.run_before.new.self.net (g.W.Sink.contents c.args.writer.now) (g.W.Sink.contents c.loop-text.writer) c.loop-text.invariant.so_far refl c.run_before.ensures.early c.run_before.ensures.figures c.run_before.ensures.some.fits) in
    let now = g.W.Sink.contents c.loop-text.writer in
    let new = g.W.Sink.contents c.put_rows.new.writer in
    let rows = step_rows c.args.column.now c.args.scenario.now c.args.row_steps.from c.args.row_steps.every c.loop-text.begin (c.loop-text.begin + c.args.row_steps.every) c.loop-text.counter.figures c.run_before.new.self.figures c.loop-text.counter.net c.run_before.new.self.net (g.W.Sink.contents c.args.writer.now) (g.W.Sink.contents c.loop-text.writer) c.loop-text.invariant.so_far refl c.run_before.ensures.early c.run_before.ensures.figures c.run_before.ensures.some.fits in
    let held = c.in_ok-run_before.ensures.held in
    let made = subst (λ (e : SessionEnded). Writes (IsAllOrNothing rows e) now new) c.in_ok-put_rows.was (c.put_rows.ensures.output (base_at c.args.scenario.now (min c.loop-text.begin c.args.scenario.now.end) c.loop-text.counter.net) (step_of c.args.column.now c.args.scenario.now c.args.row_steps.from c.args.row_steps.every c.loop-text.begin (c.loop-text.begin + c.args.row_steps.every) c.loop-text.counter.figures c.run_before.new.self.figures c.loop-text.counter.net c.run_before.new.self.net (g.W.Sink.contents c.args.writer.now) (g.W.Sink.contents c.loop-text.writer) c.loop-text.invariant.so_far refl c.run_before.ensures.early c.run_before.ensures.figures c.run_before.ensures.some.fits)) in
    let wrote = subst (Appends now new) made.2 made.1 in
    let over = subst (λ b. MatchBool b (IsGoingOn p until s) (¬ IsGoingOn p until s)) c.if-not-goes_on.true (c.goes_on.ensures p end) in
    step_last c.args.column.now c.args.scenario.now c.args.row_steps.from c.args.row_steps.every c.loop-text.begin (c.loop-text.begin + c.args.row_steps.every) c.loop-text.counter.figures c.run_before.new.self.figures c.loop-text.counter.net c.run_before.new.self.net (g.W.Sink.contents c.args.writer.now) (g.W.Sink.contents c.loop-text.writer) c.loop-text.invariant.so_far refl c.run_before.ensures.early c.run_before.ensures.figures c.run_before.ensures.some.fits held new wrote over

pub returns-in_err-restart-clause-output : goal.returns-in_err-restart-clause-output
returns-in_err-restart-clause-output g c =
    let now = g.W.Sink.contents c.loop-text.writer in
    let new = g.W.Sink.contents c.put_rows.new.writer in
    let rows = step_rows c.args.column.now c.args.scenario.now c.args.row_steps.from c.args.row_steps.every c.loop-text.begin (c.loop-text.begin + c.args.row_steps.every) c.loop-text.counter.figures c.run_before.new.self.figures c.loop-text.counter.net c.run_before.new.self.net (g.W.Sink.contents c.args.writer.now) (g.W.Sink.contents c.loop-text.writer) c.loop-text.invariant.so_far refl c.run_before.ensures.early c.run_before.ensures.figures c.run_before.ensures.some.fits in
    let held = c.in_ok-run_before.ensures.held in
    let made = subst (λ (e : SessionEnded). Writes (IsAllOrNothing rows e) now new) c.in_ok-put_rows.was (c.put_rows.ensures.output (base_at c.args.scenario.now (min c.loop-text.begin c.args.scenario.now.end) c.loop-text.counter.net) (step_of c.args.column.now c.args.scenario.now c.args.row_steps.from c.args.row_steps.every c.loop-text.begin (c.loop-text.begin + c.args.row_steps.every) c.loop-text.counter.figures c.run_before.new.self.figures c.loop-text.counter.net c.run_before.new.self.net (g.W.Sink.contents c.args.writer.now) (g.W.Sink.contents c.loop-text.writer) c.loop-text.invariant.so_far refl c.run_before.ensures.early c.run_before.ensures.figures c.run_before.ensures.some.fits)) in
    let wrote = subst (Appends now new) made.2 made.1 in
    let is : c.from_residual-in_err-restart.result ≡ Err NoMemory = search rules in
    subst (λ (e : SessionEnded). Writes (IsRowsOutput c.args.column.now c.args.scenario.now c.args.row_steps.from c.args.row_steps.every e) (g.W.Sink.contents c.args.writer.now) new) (sym is)
    (step_short c.args.column.now c.args.scenario.now c.args.row_steps.from c.args.row_steps.every c.loop-text.begin (c.loop-text.begin + c.args.row_steps.every) c.loop-text.counter.figures c.run_before.new.self.figures c.loop-text.counter.net c.run_before.new.self.net (g.W.Sink.contents c.args.writer.now) (g.W.Sink.contents c.loop-text.writer) c.loop-text.invariant.so_far refl c.run_before.ensures.early c.run_before.ensures.figures c.run_before.ensures.some.fits held new wrote)

pub loop-text-smaller : goal.loop-text-smaller
loop-text-smaller g c =
    let p = c.args.scenario.now in
    let until = c.loop-text.begin + c.args.row_steps.every in
    let s = c.run_before.new.self.net.state in
    let end = end_of_run p c.run_before.new.self.net (step_come c.args.column.now c.args.scenario.now c.args.row_steps.from c.args.row_steps.every c.loop-text.begin (c.loop-text.begin + c.args.row_steps.every) c.loop-text.counter.figures c.run_before.new.self.figures c.loop-text.counter.net c.run_before.new.self.net (g.W.Sink.contents c.args.writer.now) (g.W.Sink.contents c.loop-text.writer) c.loop-text.invariant.so_far refl c.run_before.ensures.early c.run_before.ensures.figures c.run_before.ensures.some.fits) in
    let going = subst (λ b. MatchBool b (IsGoingOn p until s) (¬ IsGoingOn p until s)) c.if-not-goes_on.false (c.goes_on.ensures p end) in
    let early = going_early p until s end c.in_ok-run_before.ensures.held going in
    let long = c.requires.long in
    omega (arith, early, long)

pub loop-text-preserved : goal.loop-text-preserved
loop-text-preserved g c =
    let p = c.args.scenario.now in
    let until = c.loop-text.begin + c.args.row_steps.every in
    let s = c.run_before.new.self.net.state in
    let end = end_of_run p c.run_before.new.self.net (step_come c.args.column.now c.args.scenario.now c.args.row_steps.from c.args.row_steps.every c.loop-text.begin (c.loop-text.begin + c.args.row_steps.every) c.loop-text.counter.figures c.run_before.new.self.figures c.loop-text.counter.net c.run_before.new.self.net (g.W.Sink.contents c.args.writer.now) (g.W.Sink.contents c.loop-text.writer) c.loop-text.invariant.so_far refl c.run_before.ensures.early c.run_before.ensures.figures c.run_before.ensures.some.fits) in
    let now = g.W.Sink.contents c.loop-text.writer in
    let new = g.W.Sink.contents c.put_rows.new.writer in
    let rows = step_rows c.args.column.now c.args.scenario.now c.args.row_steps.from c.args.row_steps.every c.loop-text.begin (c.loop-text.begin + c.args.row_steps.every) c.loop-text.counter.figures c.run_before.new.self.figures c.loop-text.counter.net c.run_before.new.self.net (g.W.Sink.contents c.args.writer.now) (g.W.Sink.contents c.loop-text.writer) c.loop-text.invariant.so_far refl c.run_before.ensures.early c.run_before.ensures.figures c.run_before.ensures.some.fits in
    let held = c.in_ok-run_before.ensures.held in
    let made = subst (λ (e : SessionEnded). Writes (IsAllOrNothing rows e) now new) c.in_ok-put_rows.was (c.put_rows.ensures.output (base_at c.args.scenario.now (min c.loop-text.begin c.args.scenario.now.end) c.loop-text.counter.net) (step_of c.args.column.now c.args.scenario.now c.args.row_steps.from c.args.row_steps.every c.loop-text.begin (c.loop-text.begin + c.args.row_steps.every) c.loop-text.counter.figures c.run_before.new.self.figures c.loop-text.counter.net c.run_before.new.self.net (g.W.Sink.contents c.args.writer.now) (g.W.Sink.contents c.loop-text.writer) c.loop-text.invariant.so_far refl c.run_before.ensures.early c.run_before.ensures.figures c.run_before.ensures.some.fits)) in
    let wrote = subst (Appends now new) made.2 made.1 in
    let going = subst (λ b. MatchBool b (IsGoingOn p until s) (¬ IsGoingOn p until s)) c.if-not-goes_on.false (c.goes_on.ensures p end) in
    let next = c.restart.new.self.figures in
    let net = c.restart.ensures.net in
    let mid = c.run_before.new.self.net in
    let of = subst (λ (r : Reached). AreOfRun p (base_at p (min until p.end) mid) next r) net (c.in_ok-restart.ensures.begun p (base_at c.args.scenario.now (min c.loop-text.begin c.args.scenario.now.end) c.loop-text.counter.net) (step_of c.args.column.now c.args.scenario.now c.args.row_steps.from c.args.row_steps.every c.loop-text.begin (c.loop-text.begin + c.args.row_steps.every) c.loop-text.counter.figures c.run_before.new.self.figures c.loop-text.counter.net c.run_before.new.self.net (g.W.Sink.contents c.args.writer.now) (g.W.Sink.contents c.loop-text.writer) c.loop-text.invariant.so_far refl c.run_before.ensures.early c.run_before.ensures.figures c.run_before.ensures.some.fits)) in
    let some = subst (λ (r : Reached). AreOfSomeRun next r) net c.in_ok-restart.ensures.some in
    let range = c.requires.scenario.in_limits.end_range.1 in
    let most : p.end ≤ LATEST_END = omega (arith, range) in
    record {
      so_far = subst (λ (r : Reached). IsSoFar c.args.column.now p c.args.row_steps.from c.args.row_steps.every until next r (g.W.Sink.contents c.args.writer.now) new) (sym net) (step_next c.args.column.now c.args.scenario.now c.args.row_steps.from c.args.row_steps.every c.loop-text.begin (c.loop-text.begin + c.args.row_steps.every) c.loop-text.counter.figures c.run_before.new.self.figures c.loop-text.counter.net c.run_before.new.self.net (g.W.Sink.contents c.args.writer.now) (g.W.Sink.contents c.loop-text.writer) c.loop-text.invariant.so_far refl c.run_before.ensures.early c.run_before.ensures.figures c.run_before.ensures.some.fits held new wrote next going of some most);
      failures = c.put_rows.ensures.failures ∙ ap (λ (e : SessionEnded). writes_after e (g.W.Sink.failures c.loop-text.writer)) c.in_ok-put_rows.was ∙ c.loop-text.invariant.failures;
    }
