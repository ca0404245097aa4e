-- The packets at the links of the numbers behind are still to be gathered.
use Rattle.std.proofs.Common.{◌≡◌, ◌++◌, ◌-◌}
use Rattle.std.specs.List.{flat_map, range_with_len}
use Rattle.net_machine.specs.Nodes.{parts_of}
use Rattle.flow_waits.specs.Waits.{waiting_numbered}
use Rattle.flow_waits.proofs.queues.waiting.Given as goal

abbrev pub invariant-loop-number : goal.invariant-loop-number
invariant-loop-number l =
    l.all.items ++ flat_map (waiting_numbered l.flow (parts_of l.nodes)) (range_with_len l.number (l.count - l.number))
    ≡ flat_map (waiting_numbered l.flow (parts_of l.nodes)) (range_with_len 0 l.count)
