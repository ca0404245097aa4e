-- The digits before the last six, and these.
use Rattle.std.proofs.Common.{◌≡◌, ◌++◌, take, decimal, arith}
use Rattle.std.proofs.lemmas.Fmt.{decimal_nonempty}
use Rattle.trace_text.proofs.ByThousands.{decimal_six, length_six}
use Rattle.trace_text.specs.Digits.{three_digits}
use Rattle.trace_text.proofs.Written.{both_written}
use Rattle.trace_text.proofs.digits.write_nine.Goals as goal

pub write_first-at-requires-clause-room : goal.write_first-at-requires-clause-room
write_first-at-requires-clause-room c = let some = decimal_nonempty c.args.n (omega (arith, c.requires.number)) in omega (arith, c.requires.room)

pub write_group-at-requires-clause-room : goal.write_group-at-requires-clause-room
write_group-at-requires-clause-room c =
    let long = length_six c.args.n c.if-n-lt1000000.false (omega (arith, c.requires.number)) in
    omega (arith, rw (c.split-millions.ensures.thousands, c.split-thousands.ensures.thousands) at c.write_first-at.ensures.end, c.requires.room)

pub write_group-requires-clause-room : goal.write_group-requires-clause-room
write_group-requires-clause-room c =
    let long = length_six c.args.n c.if-n-lt1000000.false (omega (arith, c.requires.number)) in
    omega (arith, rw (c.split-millions.ensures.thousands, c.split-thousands.ensures.thousands) at c.write_first-at.ensures.end, c.write_group-at.ensures.end, c.requires.room)

pub returns-clause-written : goal.returns-clause-written
returns-clause-written c =
    let low_six = three_digits c.split-millions.result.1 ++ three_digits c.split-thousands.result.1 in
    let low : take c.write_group.result c.write_group.new.bytes ≡ take c.write_first-at.result c.write_first-at.new.bytes ++ low_six = both_written _ _ _ (three_digits c.split-millions.result.1) (three_digits c.split-thousands.result.1) c.write_group-at.ensures.written c.write_group.ensures.written in
    rw (decimal_six c.args.n c.if-n-lt1000000.false (omega (arith, c.requires.number)), ← c.split-thousands.ensures.thousands, ← c.split-thousands.ensures.ones, ← c.split-millions.ensures.thousands, ← c.split-millions.ensures.ones)
    (both_written _ _ _ (decimal c.split-millions.result.0) low_six c.write_first-at.ensures.written low)

pub returns-clause-end : goal.returns-clause-end
returns-clause-end c =
    let long = length_six c.args.n c.if-n-lt1000000.false (omega (arith, c.requires.number)) in
    omega (arith, rw (c.split-millions.ensures.thousands, c.split-thousands.ensures.thousands) at c.write_first-at.ensures.end, c.write_group-at.ensures.end, c.write_group.ensures.end)
