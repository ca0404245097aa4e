use Rattle.std.proofs.Common.{◌≡◌, ◌+◌, ◌≤◌, ◌++◌, ◌||◌, All, length, map, vec_len}
use Rattle.std.specs.Prelude.{vec_capacity}
use Rattle.std.specs.Option.{option_or}
use Rattle.std.specs.Vec.Iter.{into_iter_items}
use Rattle.window_workers.specs.WindowOutcomes.{NoneWaits, any_out, first_refusal, finished_of}
use Rattle.window_workers.proofs.Full.{AreAmong, IsOfFull}
use Rattle.window_workers.proofs.Gathering.{HasFired, group_in}
use Rattle.window_workers.proofs.gather.gather.Given as goal

abbrev pub invariant-loop-slot : goal.invariant-loop-slot
invariant-loop-slot l =
    let rest = into_iter_items l.slot-iterator in let all = l.fn.slots.items in
    ((l.any_out || any_out rest) ≡ any_out all)
    × (option_or l.refusal (first_refusal rest) ≡ first_refusal all)
    × (l.groups.items ++ map group_in (finished_of rest) ≡ map group_in (finished_of all))
    × NoneWaits rest
    × (vec_len l.groups + length rest ≤ vec_capacity l.groups)
    × AreAmong rest all
    × IsOfFull l.refusal all
    × (All HasFired (finished_of rest) → All HasFired (finished_of all))
