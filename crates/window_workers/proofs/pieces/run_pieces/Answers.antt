use Rattle.std.proofs.Common.{◌∙◌, ap, sym, length}
use Rattle.work_board.specs.Boards.{BoardState}
use Rattle.window_workers.proofs.Full.{fault_full}
use Rattle.window_workers.proofs.Gathering.{none_waits, ends_done, stops}
use Rattle.window_workers.proofs.pieces.run_pieces.Goals as goal

pub gather-requires : goal.gather-requires
gather-requires g c = none_waits c.in-Ok-sweep.seat c.in-Ok-clear.slots.items c.in-Ok-sweep.ensures.swept (c.in-Ok-clear.ensures.len ∙ sym (ap length c.in-Ok-sweep.ensures.board.laid)) c.in-Ok-clear.ensures.each

pub returns-clause-done : goal.returns-clause-done
returns-clause-done g c =
    let count = c.in-Ok-clear.ensures.len ∙ sym (ap length c.in-Ok-sweep.ensures.board.laid) in let cleared = c.in-Ok-clear in
    let waits = none_waits c.in-Ok-sweep.seat cleared.slots.items c.in-Ok-sweep.ensures.swept count cleared.ensures.each in
    ends_done c.gather.result c.args.pieces.items c.in-Ok-sweep.seat.view cleared.slots.items (c.in-Ok-sweep.ensures.board.laid ∙ ap (λ (b : BoardState). b.pieces) c.in-Ok-sweep.ensures.same ∙ c.in-Ok.ensures.pieces) count waits cleared.ensures.each c.gather.ensures.ok c.gather.ensures.after

pub returns-clause-err : goal.returns-clause-err
returns-clause-err g c =
    let count = c.in-Ok-clear.ensures.len ∙ sym (ap length c.in-Ok-sweep.ensures.board.laid) in let cleared = c.in-Ok-clear in
    let waits = none_waits c.in-Ok-sweep.seat cleared.slots.items c.in-Ok-sweep.ensures.swept count cleared.ensures.each in
    stops c.gather.result c.args.pieces.items c.in-Ok-sweep.seat.view cleared.slots.items (c.in-Ok-sweep.ensures.board.laid ∙ ap (λ (b : BoardState). b.pieces) c.in-Ok-sweep.ensures.same ∙ c.in-Ok.ensures.pieces) count waits cleared.ensures.each c.gather.ensures.err

pub returns-clause-full : goal.returns-clause-full
returns-clause-full g c =
    fault_full c.gather.result c.args.pieces.items c.in-Ok-sweep.seat.view c.in-Ok-clear.slots.items (c.in-Ok-sweep.ensures.board.laid ∙ ap (λ (b : BoardState). b.pieces) c.in-Ok-sweep.ensures.same ∙ c.in-Ok.ensures.pieces) c.in-Ok-clear.ensures.each c.gather.ensures.full
