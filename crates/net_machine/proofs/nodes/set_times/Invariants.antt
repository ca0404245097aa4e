use Rattle.std.proofs.Common.{◌≡◌, ℕ, ◌<◌, length}
use Rattle.tournament.specs.Timed.{time_at, time_of}
use Rattle.tournament.specs.Keyed.{next_key}
use Rattle.net_machine.specs.Nodes.{node_at}
use Rattle.net_machine.proofs.nodes.set_times.Given as goal

-- the times of the nodes so far are there
abbrev pub invariant-loop-at : goal.invariant-loop-at
invariant-loop-at l = record {
  size : length l.timetable ≡ length l.nodes;
  timed : (i : ℕ) → i < l.at → time_at l.timetable i ≡ time_of (next_key (node_at l.nodes i).pending);
}
