-- A window that is run has a line, where it may span some time.
use Rattle.std.proofs.Common.{◌≡◌, ◌<◌, ◌≤◌, ◌+◌, ◌-◌, ◌^◌, min, ℕ, length, Option, Some, IfSome, subst, arith}
use Rattle.sim_time.specs.declared.limits.TheConstants.{LATEST_END}
use Rattle.net_machine.specs.Run.{Reached, IsRun}
use Rattle.window_core.specs.Batches.{BatchValue}
use Rattle.window_law.proofs.EveryRun.{same_end}
use Rattle.window_engine.specs.Engines.{GoesOn, IsNext, next_time}

-- a run ends below 2^64 ns
ends_soon : (net : Reached) → IsRun net → net.state.end ≤ LATEST_END
ends_soon net is =
    let end = same_end is.scenario net.position is.lines net.state is.is in
    let most = is.is_scenario.in_limits.end_range.1 in
    omega (arith, end, most)

-- so a window that is to end after its first event has one
pub moves_on : (old new : Reached) (batch : BatchValue) (until slice time : ℕ) → IsRun old → 1 ≤ slice → until ≡ min (time + slice) (2 ^ 64 - 1) → next_time old.state ≡ Some time → time < old.state.end
    → ((t : ℕ) → IsNext until old.state t → 0 < length batch.lines) → GoesOn old batch new → old.position < new.position
moves_on old new batch until slice time is some ends least within more gone =
    let end = ends_soon old is in
    let lines = more time record { least = least; within = within; below = omega (arith, end, some, ends, within) } in
    let at = gone.position in
    omega (arith, at, lines)

-- and its events were committed
pub window_more : (old new : ℕ) (o : Option BatchValue) (batch : BatchValue) → o ≡ Some batch → IfSome o (λ _. old < new) → old < new
window_more old new o batch is some = subst (λ (x : Option BatchValue). IfSome x (λ _. old < new)) is some
