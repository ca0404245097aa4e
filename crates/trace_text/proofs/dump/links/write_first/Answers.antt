use Rattle.std.proofs.Common.{string_bytes}
use Rattle.net_machine.specs.Nodes.{parts_of}
use Rattle.trace_text.specs.Chosen.{chosen_link}
use Rattle.trace_text.specs.Dump.{numbers_below}
use Rattle.trace_text.proofs.DumpLines.{next_number, none_left}
use Rattle.trace_text.proofs.dump.links.write_first.Goals as goal

pub loop-number-preserved : goal.loop-number-preserved
loop-number-preserved c =
    next_number (chosen_link c.args.flow) (parts_of c.args.nodes.now) c.loop-number.number c.args.count _ (string_bytes c.loop-number.out) (string_bytes c.write_numbered.new.out)
    c.loop-number-test.true c.loop-number.invariant (cc c.in_ok-write_numbered.ensures)

pub returns : goal.returns
unfolding numbers_below
returns c = none_left (chosen_link c.args.flow) (parts_of c.args.nodes.now) c.loop-number.number c.args.count _ (string_bytes c.loop-number.out) c.loop-number-test.false c.loop-number.invariant
