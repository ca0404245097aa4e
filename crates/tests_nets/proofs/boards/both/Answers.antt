use denote.Param.Send.{sendable}
use Rattle.work_board.proofs.Sent.{seat_send, board_sync}
use Rattle.tests_nets.proofs.boards.both.Goals as goal

pub join-requires-send-F : goal.join-requires-send-F
join-requires-send-F g c κs within = search (sendable, seat_send, board_sync) depth 30
