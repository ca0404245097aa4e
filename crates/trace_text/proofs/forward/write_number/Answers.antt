-- A number below 10 ^ 9 has at most 9 digits, and none has more than 20.
use Rattle.std.proofs.Common.{arith}
use Rattle.std.proofs.lemmas.Fmt.{length-decimal-le}
use Rattle.trace_text.proofs.forward.write_number.Goals as goal

pub write_nine-requires-clause-room : goal.write_nine-requires-clause-room
write_nine-requires-clause-room c =
    let digits = length-decimal-le 9 c.args.n (omega arith) c.if-n-lt-LONG.true (omega (arith, c.if-n-lt-LONG.true)) in
    omega (arith, c.requires.room)

pub returns-then-n-lt-LONG-clause-short : goal.returns-then-n-lt-LONG-clause-short
returns-then-n-lt-LONG-clause-short c =
    let digits = length-decimal-le 9 c.args.n (omega arith) c.if-n-lt-LONG.true (omega (arith, c.if-n-lt-LONG.true)) in
    omega (arith, c.write_nine.ensures.end)

pub write_long-requires-clause-room : goal.write_long-requires-clause-room
write_long-requires-clause-room c =
    let digits = length-decimal-le 20 c.args.n (omega arith) (omega (arith, c.ranges.n.fits)) (omega (arith, c.ranges.n.fits)) in
    omega (arith, c.requires.room)

pub returns-clause-short : goal.returns-clause-short
returns-clause-short c =
    let digits = length-decimal-le 20 c.args.n (omega arith) (omega (arith, c.ranges.n.fits)) (omega (arith, c.ranges.n.fits)) in
    omega (arith, c.write_long.ensures.end)
