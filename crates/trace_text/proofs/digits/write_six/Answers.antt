-- The digits before the last three, and these.
use Rattle.std.proofs.Common.{arith}
use Rattle.std.proofs.lemmas.Fmt.{decimal_nonempty}
use Rattle.trace_text.proofs.ByThousands.{decimal_group, length_group}
use Rattle.trace_text.proofs.Written.{both_written}
use Rattle.trace_text.proofs.digits.write_six.Goals as goal

pub write_first-requires-clause-room : goal.write_first-requires-clause-room
write_first-requires-clause-room c = let some = decimal_nonempty c.args.n (omega (arith, c.requires.number)) in omega (arith, c.requires.room)

pub write_first-at-requires-clause-room : goal.write_first-at-requires-clause-room
write_first-at-requires-clause-room c = let some = decimal_nonempty c.args.n (omega (arith, c.requires.number)) in omega (arith, c.requires.room)

pub write_group-requires-clause-room : goal.write_group-requires-clause-room
write_group-requires-clause-room c =
    let long = length_group c.args.n c.if-n-lt1000.false (omega (arith, c.requires.number)) in
    omega (arith, rw (c.split-thousands.ensures.thousands) at c.write_first-at.ensures.end, c.requires.room)

pub returns-clause-written : goal.returns-clause-written
returns-clause-written c =
    rw (decimal_group c.args.n c.if-n-lt1000.false (omega (arith, c.requires.number)), ← c.split-thousands.ensures.thousands, ← c.split-thousands.ensures.ones)
    (both_written _ _ _ _ _ c.write_first-at.ensures.written c.write_group.ensures.written)

pub returns-clause-end : goal.returns-clause-end
returns-clause-end c =
    let long = length_group c.args.n c.if-n-lt1000.false (omega (arith, c.requires.number)) in
    omega (arith, rw (c.split-thousands.ensures.thousands) at c.write_first-at.ensures.end, c.write_group.ensures.end)
