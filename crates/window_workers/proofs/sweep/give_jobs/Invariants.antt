-- what is left of the seat and of the ticket is still of the board and of the result table, and what is left of the formatters is right
use Rattle.std.specs.Arc.{arc_value}
use Rattle.work_board.specs.Seats.{IsOf, HoldsNothing}
use Rattle.window_text.specs.ResultTables.{IsTicketOf}
use Rattle.window_text.specs.Parts.{AreRight}
use Rattle.window_workers.proofs.sweep.give_jobs.Given as goal

abbrev pub invariant-loop-thread : goal.invariant-loop-thread
invariant-loop-thread g l =
    IsOf (arc_value l.tasks).board l.seat × HoldsNothing l.seat × IsTicketOf (arc_value l.tasks).result_table l.ticket
    × AreRight (arc_value l.tasks).sheaf l.formatters.items
