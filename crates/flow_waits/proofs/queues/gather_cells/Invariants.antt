-- The packets behind are still to be gathered, the next of them at its place.
use Rattle.std.proofs.Common.{◌≡◌, ◌++◌, ◌+◌, length}
use Rattle.std.specs.List.{flat_map, enumerate_from}
use Rattle.flow_waits.specs.Waits.{waiting_one}
use Rattle.flow_waits.proofs.queues.gather_cells.Given as goal

abbrev pub invariant-loop-packet : goal.invariant-loop-packet
invariant-loop-packet l =
    (goal.iterator-loop-packet).can_next l.packet-iterator × (goal.iterator-loop-packet).is_finite l.packet-iterator
    × (l.place + length l.packet-iterator ≡ 1 + length l.fn.cells)
    × (l.all.items ++ flat_map (waiting_one l.flow l.link) (enumerate_from l.place l.packet-iterator)
    ≡ l.initial.all.items ++ flat_map (waiting_one l.flow l.link) (enumerate_from 1 l.fn.cells))
