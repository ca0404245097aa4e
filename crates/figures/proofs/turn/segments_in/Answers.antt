use Rattle.std.proofs.Common.{sym, arith}
use Rattle.std.proofs.Math.Nat.{one-mul, div-eq_of_eq-mul_left}
use Rattle.figures.proofs.turn.segments_in.Goals as goal

pub returns-then-bytes-mss : goal.returns-then-bytes-mss
returns-then-bytes-mss c = sym (div-eq_of_eq-mul_left {n = c.args.mss} {m = c.args.bytes} {k = 1} c.requires (let one = one-mul c.args.mss in omega (arith, one, c.if-bytes-mss.true)))
