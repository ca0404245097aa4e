use Rattle.std.proofs.Common.{ℕ, ◌<◌, ◌≤◌, length}
use Rattle.work_board.specs.Seats.{IsOf, HoldsNothing}
use Rattle.window_workers.specs.Sweeps.{HasMet}
use Rattle.window_workers.proofs.work.work.Given as goal

abbrev pub invariant-loop-piece : goal.invariant-loop-piece
invariant-loop-piece l =
    IsOf l.board l.seat × HoldsNothing l.seat × ((j : ℕ) → l.first ≤ j → j < l.piece → HasMet l.seat j)

abbrev pub invariant-loop-before : goal.invariant-loop-before
invariant-loop-before l =
    IsOf l.board l.seat × HoldsNothing l.seat
    × ((j : ℕ) → l.first ≤ j → j < length l.board.pieces → HasMet l.seat j)
    × ((j : ℕ) → j < l.before → HasMet l.seat j)
