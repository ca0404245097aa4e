use Rattle.std.proofs.Common.{◌-◌, Ok, arith}
use Rattle.net_watch.specs.Watched.{goes_on}
use Rattle.net_watch.proofs.Alone.{second_alone}
use Rattle.debugger.proofs.LastEvents.{reported_last}
use Rattle.debugger.proofs.Walks.{has_earlier}
use Rattle.debugger.proofs.passed.event_at.Goals as goal

pub net_at-requires-clause-position : goal.net_at-requires-clause-position
net_at-requires-clause-position c =
    let there = c.requires.position in
    has_earlier c.args.checkpoints.now (record { state = there.0; position = c.args.position }) (c.args.position - 1) there.1 (omega arith)

pub returns-in-Ok-clause-ok : goal.returns-in-Ok-clause-ok
returns-in-Ok-clause-ok c =
    let start = c.args.checkpoints.now in
    let new = c.run_by_two.new in
    let event = second_alone _ _ _ c.in-Ok.ensures.watched (λ b checkpoints. checkpoints.holds.0) in
    reported_last start c.args.breaks.now _ new.net.position c.args.position new.second.reported (goes_on (Ok c.in-Ok.field-0)) (event.holds.1 start c.in_ok-net.ensures.on_run tt) (let at = c.in_ok-net.ensures.goes in omega (arith, at, c.requires.some))
