-- A board and a job may go to another thread, and a pool of jobs may be shared, and a gate.
use denote.Param.Send.{IsSend, IsSync, sendable, view_send}
use denote.Param.SendFields.{declared_send, declared_sync}
use Rattle.std.proofs.Crossing as heap
use Rattle.std.proofs.Crossing.{crosses}
use Rattle.std.proofs.alloc.Global.TheSendSync as global
use Rattle.std.specs.contracts.alloc.Global as Global
use Rattle.std.specs.contracts.impls.GlobalAllocator.TheImpl.{ghosts as heap_ghosts}
use Rattle.std.specs.contracts.snapshot.Snapshot as Snapshot
use Rattle.std.specs.contracts.vec.Vec as Vec
use Rattle.atomic_table.proofs.owned.Table.TheSendSync as table
use Rattle.atomic_table.specs.contracts.owned.Table as Table
use Rattle.line_merge.proofs.Sent.{sheaf_sync}
use Rattle.thread_pool.specs.contracts.pool.ThreadPool as ThreadPool
use Rattle.work_board.proofs.Sent.{board_sync, piece_send, seat_send}
use Rattle.work_board.specs.contracts.board.Board as Board
use Rattle.work_board.specs.contracts.board.Board.TheInside as InsideBoard
use Rattle.work_board.specs.contracts.order.Order as Order
use Rattle.work_board.specs.contracts.order.OrderTableRulePieceViewSnapshotVecPiece.TheImpl.{ghosts as order_ghosts}
use Rattle.work_board.specs.contracts.piece.Piece as Piece
use Rattle.work_board.specs.contracts.view.View as View
use Rattle.window_text.proofs.ResultTableSent.{result_table_send, result_table_sync, ticket_send, sheaf_send}
use Rattle.window_workers.proofs.gate.Gate.TheSendSync as gate
use Rattle.window_text.proofs.parts.Parts.TheSendSync as parts
use Rattle.window_text.proofs.formatter.TextFormatter.TheSendSync as formatter
use Rattle.window_workers.specs.contracts.gate.Gate as Gate
use Rattle.window_workers.specs.contracts.job.Begin as Begin
use Rattle.window_workers.specs.contracts.job.Job as Job
use Rattle.window_workers.specs.contracts.job.Job.TheInside as InsideJob
use Rattle.window_workers.specs.contracts.job.Tasks as Tasks

pieces_send : IsSend (Table.the_row Piece.the_row View.the_row (Snapshot.the_row (Vec.the_row Piece.the_row Global.the_row heap_ghosts)) Order.the_row Global.the_row order_ghosts heap_ghosts)
pieces_send = table.the_send Piece.the_row View.the_row (Snapshot.the_row (Vec.the_row Piece.the_row Global.the_row heap_ghosts)) Order.the_row Global.the_row order_ghosts heap_ghosts piece_send global.the_send heap.frees

board_send : IsSend Board.the_row
board_send = view_send _ _ _ _ _ (declared_send InsideBoard.the_type (pieces_send, (search sendable, (global.the_send, tt))))

tasks_send : IsSend Tasks.the_row
tasks_send = declared_send Tasks.the_type (board_send, (parts.the_send, (sheaf_send, (result_table_send, tt))))

tasks_sync : IsSync Tasks.the_row
tasks_sync = declared_sync Tasks.the_type (board_sync, (parts.the_sync, (sheaf_sync, (result_table_sync, tt))))

begin_send : IsSend Begin.the_row
begin_send = declared_send Begin.the_type (seat_send, (ticket_send, (search sendable, (search sendable, (formatter.the_send, tt)))))

pub job_send : IsSend Job.the_row
job_send = view_send _ _ _ _ _ (declared_send InsideJob.the_type (heap.Arc-send _ tasks_send tasks_sync, (begin_send, tt)))

pub pool_sync : IsSync (ThreadPool.the_row Job.the_row)
pool_sync = search (sendable, crosses, job_send) depth 30

pub gate_sync : IsSync Gate.the_row
gate_sync = gate.the_sync
