use Rattle.std.proofs.Common.{ap, ◌==◌}
use Rattle.line_merge.proofs.Sheaves.{counted}
use Rattle.line_merge.proofs.sheaf.Sheaf.is_empty.Goals as goal

pub returns : goal.returns
returns c = ap (λ n. n == 0) (counted c.self.inside c.self.invariant c.args.self.now c.self.view_is)
