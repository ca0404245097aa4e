use Rattle.std.proofs.Common.{sym, subst}
use Rattle.std.specs.Prelude.{◌↔◌, IsTrue}
use Rattle.node_core.specs.TraceLine.{shown}
use Rattle.node_core.specs.declared.line.After.{After}
use Rattle.breakpoints.specs.Values.{MeetsKept}
use Rattle.breakpoints.proofs.NodeShown.{node_shown}
use Rattle.breakpoints.proofs.values.Values.meets_kept.Goals as goal

pub returns : goal.returns
returns c = λ before is stepped.
    subst (λ (after : After). IsTrue c.meets_kept_at.result ↔ MeetsKept c.args.self.now after) (sym (node_shown before c.args.net.now (shown c.args.line.now) is stepped)) c.meets_kept_at.ensures
