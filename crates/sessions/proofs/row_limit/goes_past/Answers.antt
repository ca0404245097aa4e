use Rattle.std.proofs.Common.{◌<◌, arith}
use Rattle.sim_time.specs.declared.limits.TheConstants.{MOST_EVENTS}
use Rattle.figures_text.specs.Steps.{IsGoingOn}
use Rattle.sessions.proofs.RowLimits.{both_or_not}
use Rattle.sessions.proofs.row_limit.goes_past.Goals as goal

pub returns-then-position-lt-MOST_EVENTS : goal.returns-then-position-lt-MOST_EVENTS
returns-then-position-lt-MOST_EVENTS g c = λ p end.
    let net = c.args.counter.now.net in
    let less = c.if-position-lt-MOST_EVENTS.true in
    let count = c.position.ensures.count in
    let few : net.position < MOST_EVENTS = omega (arith, less, count) in
    both_or_not (net.position < MOST_EVENTS) (IsGoingOn p c.args.moment net.state) c.goes_on.result few (c.goes_on.ensures p end)
