use Rattle.work_board.specs.Seats.{IsOf, HoldsNothing}
use Rattle.tests_nets.proofs.boards.fn.all_work.scope.Given as goal

abbrev pub invariant-loop-start : goal.invariant-loop-start
invariant-loop-start g l = IsOf l.board l.mine × HoldsNothing l.mine

abbrev pub invariant-loop-handle : goal.invariant-loop-handle
invariant-loop-handle g l =
    (goal.iterator-loop-handle g).can_next l.handle-iterator ×
    (goal.iterator-loop-handle g).is_finite l.handle-iterator
