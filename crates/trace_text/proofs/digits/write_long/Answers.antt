-- The digits before the last nine, and these.
use Rattle.std.proofs.Common.{◌≡◌, ◌-◌, ◌*◌, ◌/◌, ◌%◌, arith}
use Rattle.trace_text.proofs.ByThousands.{decimal_nine, length_nine}
use Rattle.trace_text.proofs.Written.{both_written}
use Rattle.trace_text.proofs.digits.write_long.Goals as goal

pub write_eighteen-at-requires-clause-room : goal.write_eighteen-at-requires-clause-room
write_eighteen-at-requires-clause-room c =
    let long = length_nine c.args.n c.requires.long (omega (arith, c.ranges.n.fits)) in omega (arith, c.requires.room)

pub write_all_nine-requires-clause-room : goal.write_all_nine-requires-clause-room
write_all_nine-requires-clause-room c =
    let long = length_nine c.args.n c.requires.long (omega (arith, c.ranges.n.fits)) in
    omega (arith, c.requires.room, c.write_eighteen-at.ensures.end)

pub returns-clause-written : goal.returns-clause-written
returns-clause-written c =
    let low : c.args.n - c.args.n / 1000000000 * 1000000000 ≡ c.args.n % 1000000000 = omega arith in
    rw (decimal_nine c.args.n c.requires.long (omega (arith, c.ranges.n.fits)), ← low)
    (both_written _ _ _ _ _ c.write_eighteen-at.ensures.written c.write_all_nine.ensures.written)

pub returns-clause-end : goal.returns-clause-end
returns-clause-end c =
    let long = length_nine c.args.n c.requires.long (omega (arith, c.ranges.n.fits)) in
    omega (arith, c.write_eighteen-at.ensures.end, c.write_all_nine.ensures.end)
