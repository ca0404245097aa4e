use Rattle.std.proofs.Common.{arith}
use Rattle.std.proofs.lemmas.List.{drop_all}
use Rattle.debug_session.proofs.said.Said.clear.Goals as goal

pub returns : goal.returns
returns c = drop_all 768 c.self.inside.short (omega arith)
