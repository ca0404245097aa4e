use Rattle.std.proofs.Common.{◌≡◌, ◌+◌, ◌-◌, ◌*◌, ◌^◌, ◌<◌, ◌++◌, length, map}
use Rattle.reno_sender.specs.Sending.{spaced}
use Rattle.node_core.specs.Links.{packets_of}
use Rattle.node_core.specs.Row.{data_packet}
use Rattle.node_core.proofs.cells.push_run.Given as goal

-- what is made so far, and the rest of the run, is the whole
abbrev pub invariant-loop-made : goal.invariant-loop-made
invariant-loop-made l = record {
  numbers : l.number + (l.count - l._made) * l.mss < 2 ^ 63;
  longer : length l.cells ≡ length l.fn.cells + l._made;
  whole : packets_of l.cells ++ map (data_packet l.origin.flow l.mss) (spaced l.number l.mss (l.count - l._made)) ≡ packets_of l.fn.cells ++ map (data_packet l.origin.flow l.mss) (spaced l.first l.mss l.count);
}
