use Rattle.std.proofs.Common.{◌≡◌, ◌+◌, ◌≤◌, ◌++◌, map, length}
use Rattle.port.specs.Port.{dropped_for}
use Rattle.port.proofs.port.taking.tell_drops.Given as goal

-- the acts so far, and those to come
abbrev pub invariant-loop-cell : goal.invariant-loop-cell
invariant-loop-cell l = record {
  acts : l.acts.acts ++ map (dropped_for l.link l.reason) l.dropped ≡ l.initial.acts.acts ++ map (dropped_for l.link l.reason) l.initial.dropped;
  places : l.acts.room + length l.acts.acts ≡ l.initial.acts.room + length l.initial.acts.acts;
  enough : length l.dropped ≤ l.acts.room;
}

abbrev pub decreases-loop-cell : goal.decreases-loop-cell
decreases-loop-cell l = length l.dropped
