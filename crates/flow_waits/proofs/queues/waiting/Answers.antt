use Rattle.net_machine.specs.Nodes.{parts_of}
use Rattle.trace_text.specs.Dump.{numbers_below}
use Rattle.flow_waits.specs.Waits.{waiting_numbered}
use Rattle.flow_waits.proofs.Gathered.{next_number, none_left}
use Rattle.flow_waits.proofs.queues.waiting.Goals as goal

pub loop-number-preserved : goal.loop-number-preserved
loop-number-preserved c =
    next_number (waiting_numbered c.args.flow (parts_of c.args.nodes.now)) c.loop-number.number c.args.count _ c.loop-number.all.items c.gather_numbered.new.all.items
    c.loop-number-test.true c.loop-number.invariant (cc c.in_ok-gather_numbered.ensures)

pub returns : goal.returns
unfolding numbers_below
returns c = none_left (waiting_numbered c.args.flow (parts_of c.args.nodes.now)) c.loop-number.number c.args.count _ c.loop-number.all.items c.loop-number-test.false c.loop-number.invariant
