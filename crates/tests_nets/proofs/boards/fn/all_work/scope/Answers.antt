use denote.Param.Send.{sendable}
use Rattle.work_board.proofs.Sent.{seat_send, board_sync}
use Rattle.tests_nets.proofs.boards.fn.all_work.scope.Goals as goal

pub spawn-requires-send-F : goal.spawn-requires-send-F
spawn-requires-send-F g c κs = search (sendable, seat_send, board_sync) depth 30
