use Rattle.std.proofs.Common.{◌≡◌, ◌<◌, MatchBool, Err, IfErr, sym, subst, rules}
use Rattle.sim_time.specs.declared.limits.TheConstants.{MOST_EVENTS}
use Rattle.figures_text.specs.Steps.{IsGoingOn}
use Rattle.sessions.specs.RowLimit.{IsPastFault}
use Rattle.sessions.proofs.Figured.{end_of_run}
use Rattle.sessions.proofs.RowLimits.{goes_past, not_past, past_refused}
use Rattle.sessions.proofs.Stepped.{stands_there}
use Rattle.sessions.proofs.row_limit.stop_at.Goals as goal

pub returns-in_err-run_before-clause-faults : goal.returns-in_err-run_before-clause-faults
returns-in_err-run_before-clause-faults g c = λ p opened.
    let fault = c.in_err-run_before.field-0.0 in
    let is : c.from_residual.result ≡ Err fault = search rules in
    subst (λ r. IfErr r (IsPastFault p c.args.limit)) (sym is) (past_refused p c.args.limit c.args.counter.now.net c.run_before.new.self.net fault opened.at c.run_before.ensures.early c.in_err-run_before.ensures.faults)

pub returns-then-goes_past-clause-faults : goal.returns-then-goes_past-clause-faults
returns-then-goes_past-clause-faults g c = λ p opened.
    let r = c.run_before.new.self.net in
    let stands = stands_there p c.args.limit c.args.counter.now.net r opened.at c.run_before.ensures.early c.in_ok-run_before.ensures.held in
    let end = end_of_run p r (record { lines = stands.lines; comes = stands.comes }) in
    let both = subst (λ b. MatchBool b ((r.position < MOST_EVENTS) × IsGoingOn p c.args.limit r.state) (¬ ((r.position < MOST_EVENTS) × IsGoingOn p c.args.limit r.state))) c.if-goes_past.true (c.goes_past.ensures p end) in
    goes_past p c.args.limit r stands both.0 both.1

pub returns-clause-done : goal.returns-clause-done
returns-clause-done g c = λ p opened.
    let r = c.run_before.new.self.net in
    let stands = stands_there p c.args.limit c.args.counter.now.net r opened.at c.run_before.ensures.early c.in_ok-run_before.ensures.held in
    let end = end_of_run p r (record { lines = stands.lines; comes = stands.comes }) in
    let stops = subst (λ b. MatchBool b ((r.position < MOST_EVENTS) × IsGoingOn p c.args.limit r.state) (¬ ((r.position < MOST_EVENTS) × IsGoingOn p c.args.limit r.state))) c.if-goes_past.false (c.goes_past.ensures p end) in
    not_past p c.args.limit r stands stops
