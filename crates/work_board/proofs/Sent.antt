-- A piece, a seat and a board may go to another thread.
use denote.Param.Send.{IsSend, IsSync, sendable, view_send, view_sync}
use Rattle.work_board.specs.contracts.seat.Seat as Seat
use Rattle.work_board.specs.contracts.seat.Seat.TheInside as InsideSeat
use Rattle.work_board.specs.contracts.board.Board as Board
use Rattle.work_board.specs.contracts.board.Board.TheInside as InsideBoard
use Rattle.work_board.specs.contracts.piece.Piece as Piece
use Rattle.work_board.specs.contracts.piece.Piece.TheInside as Inside
use denote.Param.SendFields.{declared_send, declared_sync}
use Rattle.node_group.specs.contracts.group.Group as Group
use Rattle.node_group.specs.contracts.group.GroupFault as Fault
use Rattle.std.specs.contracts.snapshot.Snapshot as Snapshot
use Rattle.std.specs.contracts.option.Option as Option
use Rattle.std.proofs.Crossing as heap
use Rattle.work_board.specs.contracts.view.View as View
use Rattle.work_board.specs.contracts.order.Order as Order
use Rattle.work_board.specs.contracts.order.OrderTableRulePieceViewSnapshotVecPiece.TheImpl.{ghosts as order_ghosts}
use Rattle.atomic_table.specs.contracts.owned.Table as Table
use Rattle.std.specs.contracts.vec.Vec as Vec
use Rattle.std.specs.contracts.alloc.Global as Global
use Rattle.std.specs.contracts.impls.GlobalAllocator.TheImpl.{ghosts as heap_ghosts}
use Rattle.node_group.specs.contracts.group.Group.TheInside as InsideGroup
use Rattle.node_group.specs.contracts.group_state.GroupState as GroupState
use Rattle.node_group.specs.contracts.group_state.GroupState.TheInside as InsideGroupState
use Rattle.net_partition.specs.contracts.partition.Partition as Partition
use Rattle.node_group.proofs.area.Area.TheSendSync as area
use Rattle.net_machine.proofs.places.LinkEnds.TheSendSync as ends
use Rattle.node_core.proofs.Sent.{line_send}
use Rattle.node_core.proofs.outbox.Outbox.TheSendSync as outbox
use Rattle.atomic_table.proofs.shared.Seat.TheSendSync as seat
use Rattle.atomic_table.proofs.owned.Table.TheSendSync as table
use Rattle.std.proofs.alloc.Global.TheSendSync as global
use Rattle.node_group.proofs.group.GroupFault.TheSendSync as fault

group_state_partition : IsSend (Snapshot.the_row Partition.the_row)
group_state_partition = search sendable depth 20

inside_group_state_send : IsSend InsideGroupState.the_row
inside_group_state_send = declared_send InsideGroupState.the_type (search sendable, (group_state_partition, (heap.Vec-send _ ends.the_send, (area.the_send, (outbox.the_send, (heap.Vec-send _ line_send, (search sendable, (search sendable, (search sendable, (global.the_send, tt))))))))))

group_state_send : IsSend GroupState.the_row
group_state_send = view_send _ _ _ _ _ inside_group_state_send

pub group_send : IsSend Group.the_row
group_send = view_send _ _ _ _ _ (declared_send InsideGroup.the_type (group_state_send, tt))

pub snap_send : IsSend (Snapshot.the_row Group.the_row)
snap_send = search sendable depth 20

pub fault_send : IsSend (Option.the_row Fault.the_row)
fault_send = search (sendable, fault.the_send) depth 20

pub inside_send : IsSend Inside.the_row
inside_send = declared_send Inside.the_type (group_send, (search sendable, (snap_send, (fault_send, (search sendable depth 20, tt)))))

pub piece_send : IsSend Piece.the_row
piece_send = view_send _ _ _ _ _ inside_send

pub seat_send : IsSend Seat.the_row
seat_send = view_send _ _ _ _ _ (declared_send InsideSeat.the_type (seat.the_send _ _ piece_send, tt))

pub table_sync : IsSync (Table.the_row Piece.the_row View.the_row (Snapshot.the_row (Vec.the_row Piece.the_row Global.the_row heap_ghosts)) Order.the_row Global.the_row order_ghosts heap_ghosts)
table_sync = table.the_sync Piece.the_row View.the_row (Snapshot.the_row (Vec.the_row Piece.the_row Global.the_row heap_ghosts)) Order.the_row Global.the_row order_ghosts heap_ghosts piece_send global.the_send global.the_sync heap.frees

pub board_sync : IsSync Board.the_row
board_sync = view_sync _ _ _ _ _ (declared_sync InsideBoard.the_type (table_sync, (search sendable, (global.the_sync, tt))))
