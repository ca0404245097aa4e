use Rattle.work_board.specs.Seats.{IsOf, HoldsNothing}
use Rattle.tests_nets.proofs.boards.work.Given as goal

abbrev pub invariant-loop-turn : goal.invariant-loop-turn
invariant-loop-turn l = IsOf l.board l.seat × HoldsNothing l.seat
