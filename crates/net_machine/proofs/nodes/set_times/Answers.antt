use Rattle.std.proofs.Common.{◌≡◌, length, sym, ◌∙◌, None, arith}
use Rattle.std.proofs.lemmas.List.{ext_get_or}
use Rattle.net_machine.specs.Nodes.{next_times}
use Rattle.net_machine.proofs.AtNodes.{length-next_times, next_time_at}
use Rattle.net_machine.proofs.nodes.set_times.Goals as goal

pub returns : goal.returns
returns c =
    let nodes = c.args.nodes.now in
    let size : length c.loop-at.timetable ≡ length nodes = c.loop-at.invariant.size in
    ext_get_or None c.loop-at.timetable (next_times nodes)
    (size ∙ sym (length-next_times nodes))
    (λ i under. c.loop-at.invariant.timed i (omega (arith, under, size, c.loop-at-test.false)) ∙ sym (next_time_at nodes i))
