-- The events behind are still to be counted.
use Rattle.std.proofs.Common.{◌≡◌, drop}
use Rattle.debugger.specs.UnderWay.{all_counted}
use Rattle.debugger.proofs.under_way.count_pending.Given as goal

abbrev pub invariant-loop-event : goal.invariant-loop-event
invariant-loop-event l = all_counted l.counts.items (drop l.event-index l.pending) ≡ all_counted l.initial.counts.items l.pending
