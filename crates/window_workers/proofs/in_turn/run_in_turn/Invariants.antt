-- the groups so far are done, and the others are as they were
use Rattle.std.proofs.Common.{◌≡◌, ◌<◌, ◌≤◌, ℕ, length, None}
use Rattle.table_run.specs.State.{State, due}
use Rattle.window_core.specs.Group.{state_of}
use Rattle.window_core.specs.Groups.{up_to}
use Rattle.window_core.specs.Window.{IsFrom, value_at}
use Rattle.window_workers.proofs.in_turn.run_in_turn.Given as goal

abbrev pub invariant-loop-i : goal.invariant-loop-i
invariant-loop-i l =
    (l.window ≡ record l.fn.window { groups = l.window.groups })
    × (length l.window.groups ≡ length l.fn.window.groups)
    × ((edge : State) → IsFrom edge l.fn.window → IsFrom edge l.window)
    × ((n : ℕ) → l.i ≤ n → value_at l.window.groups n ≡ value_at l.fn.window.groups n)
    × ((n : ℕ) → n < l.i → due (up_to l.fn.window.until (state_of (value_at l.window.groups n))) ≡ None)
