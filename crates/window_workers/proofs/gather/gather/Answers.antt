use Rattle.std.proofs.Common.{arith, ap, length}
use Rattle.std.specs.Vec.Iter.{into_iter_items}
use Rattle.window_workers.proofs.Full.{among_rest, full_more}
use Rattle.window_workers.proofs.Gathering.{next_finished, next_out, never}
use Rattle.window_workers.proofs.gather.gather.Goals as goal

pub loop-slot-preserved-in-Finished : goal.loop-slot-preserved-in-Finished
loop-slot-preserved-in-Finished c =
    let was = c.loop-slot.invariant in let s = c.loop-slot in
    let next = next_finished c.args.slots.items (into_iter_items s.slot-iterator) (into_iter_items c.next.new.self) c.in-Some.slot s.any_out s.refusal s.groups.items c.in-Finished.piece c.in-Some.ensures.steps.0 c.in-Finished.is c.fault.ensures.after (was.0, was.1, was.2, was.3, was.7) in
    let all = c.args.slots.items in let rest = into_iter_items s.slot-iterator in let more = into_iter_items c.next.new.self in (
      next.0,
      rw (c.or-refusal.ensures, c.fault.ensures.fault) next.1,
      rw (c.push_reserved.ensures.items, c.into_group.ensures.group) next.2,
      next.3,
      omega (arith, ap length c.in-Some.ensures.steps.0, was.4, c.push_reserved.ensures.len, c.push_reserved.ensures.capacity),
      among_rest all rest more c.in-Some.slot c.in-Some.ensures.steps.0 was.5,
      rw (c.or-refusal.ensures, c.fault.ensures.fault) (full_more all rest more c.in-Some.slot s.refusal c.in-Finished.piece c.in-Some.ensures.steps.0 c.in-Finished.is was.5 was.6 c.fault.ensures.reported c.fault.ensures.after),
      next.4,
    )

pub unreachable-requires : goal.unreachable-requires
unreachable-requires c = never (into_iter_items c.loop-slot.slot-iterator) (into_iter_items c.next.new.self) c.in-Some.slot c.in-Waiting.field-0 c.in-Some.ensures.steps.0 c.in-Waiting.is c.loop-slot.invariant.3

pub loop-slot-preserved : goal.loop-slot-preserved
loop-slot-preserved c =
    let was = c.loop-slot.invariant in let s = c.loop-slot in
    let next = next_out c.args.slots.items (into_iter_items s.slot-iterator) (into_iter_items c.next.new.self) c.in-Some.slot s.any_out s.refusal s.groups.items c.in-Some.ensures.steps.0 c.in-Out.is (was.0, was.1, was.2, was.3, was.7) in
    (next.0, next.1, next.2, next.3, omega (arith, ap length c.in-Some.ensures.steps.0, was.4), among_rest c.args.slots.items (into_iter_items s.slot-iterator) (into_iter_items c.next.new.self) c.in-Some.slot c.in-Some.ensures.steps.0 was.5, was.6, next.4)
