use Rattle.std.proofs.Common.{arith}
use Rattle.std.proofs.lemmas.Nat.{mul-le}
use Rattle.figures.proofs.tally.Tally.percentile.Goals as goal

pub class_at-class-requires-clause-rank : goal.class_at-class-requires-clause-rank
class_at-class-requires-clause-rank c =
    let most = mul-le c.args.percent c.args.self.now.count 100 c.args.self.now.count c.requires.percent (omega arith) in
    omega (arith, c.div_ceil-rank.ensures, most)
