-- Such a number has at most 5 digits.
use Rattle.std.proofs.Common.{◌≤◌, length, decimal, arith}
use Rattle.std.proofs.lemmas.Fmt.{length-decimal-le}
use Rattle.trace_text.proofs.forward.write_small.Goals as goal

pub returns-then-n-lt1000-clause-short : goal.returns-then-n-lt1000-clause-short
returns-then-n-lt1000-clause-short c =
    let digits : length (decimal c.from.result) ≤ 5 = length-decimal-le 5 c.from.result (omega arith) (omega (arith, c.if-n-lt1000.true)) (omega (arith, c.if-n-lt1000.true)) in
    omega (arith, c.write_first.ensures.end)

pub write_six-requires-clause-room : goal.write_six-requires-clause-room
write_six-requires-clause-room c =
    let digits : length (decimal c.from-2.result) ≤ 5 = length-decimal-le 5 c.from-2.result (omega arith) (omega (arith, c.ranges.n.fits)) (omega (arith, c.ranges.n.fits)) in
    omega (arith, c.requires.room)

pub returns-clause-short : goal.returns-clause-short
returns-clause-short c =
    let digits : length (decimal c.from-2.result) ≤ 5 = length-decimal-le 5 c.from-2.result (omega arith) (omega (arith, c.ranges.n.fits)) (omega (arith, c.ranges.n.fits)) in
    omega (arith, c.write_six.ensures.end)
