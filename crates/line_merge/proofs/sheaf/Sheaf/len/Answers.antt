use Rattle.line_merge.proofs.Sheaves.{counted}
use Rattle.line_merge.proofs.sheaf.Sheaf.len.Goals as goal

pub returns : goal.returns
returns c = counted c.self.inside c.self.invariant c.args.self.now c.self.view_is
