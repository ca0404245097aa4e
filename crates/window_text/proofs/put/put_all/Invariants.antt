-- what was counted was taken, and no other bytes; no put has failed
use Rattle.std.proofs.Common.{◌≡◌, ◌-◌, length}
use Rattle.window_text.specs.Puts.{TakesFirst}
use Rattle.window_text.proofs.put.put_all.Given as goal

abbrev pub invariant-loop-done : goal.invariant-loop-done
invariant-loop-done g l =
    TakesFirst l.done l.bytes (g.S.Sink.contents l.fn.sink) (g.S.Sink.contents l.sink) × (g.S.Sink.failures l.sink ≡ g.S.Sink.failures l.fn.sink)

abbrev pub decreases-loop-done : goal.decreases-loop-done
decreases-loop-done g l = length l.bytes - l.done
