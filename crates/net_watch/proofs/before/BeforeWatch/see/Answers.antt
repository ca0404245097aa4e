use Rattle.std.proofs.Common.{ℕ, refl, subst}
use Rattle.node_core.specs.TraceLine.{shown}
use Rattle.net_watch.specs.RunsBefore.{IsNextBefore}
use Rattle.net_watch.proofs.Early.{before_more}
use Rattle.net_watch.proofs.before.BeforeWatch.see.Goals as goal

pub returns-clause-has : goal.returns-clause-has
returns-clause-has c began from runs was = (
  refl,
  (
    was.1.0,
    before_more began.moment from c.args._before.now.value c.args._after.now (shown c.args._line.now) was.1.1 (subst (λ (n : ℕ). IsNextBefore n c.args._before.now.value.state) was.1.0 c.requires.goes) c.requires.stepped,
  ),
)
