use Rattle.std.proofs.Common.{refl, subst, arith}
use Rattle.node_core.specs.TraceLine.{shown}
use Rattle.window_engine.specs.Singly.{IsBefore}
use Rattle.window_engine.proofs.OneByOne.{going_on, step_end}
use Rattle.window_engine.proofs.singly.PagingWatch.see.Goals as goal

pub returns-in-Ok-clause-has : goal.returns-in-Ok-clause-has
returns-in-Ok-clause-has c began from runs was = (
  was.0,
  was.1,
  was.2,
  λ empty none.
      let so = was.3 empty none in
      let old = c.args._before.now.value in
      let before = subst (λ u. IsBefore u old.state) was.1 c.requires.goes in (
        so.0,
        going_on began.until c.args.self.now.last c.max-self.result from old c.args.after.now (shown c.args.line.now) c.args.self.now.page.now c.put_line.new.self c.position-position.result so.1 before c.requires.stepped c.position-position.ensures.count c.in-Ok.ensures.ok c.max-self.ensures,
      ),
)

pub returns-in-Ok-clause-fits : goal.returns-in-Ok-clause-fits
returns-in-Ok-clause-fits c =
    let same = step_end c.args._before.now.value.state c.args.after.now.state (shown c.args.line.now) c.requires.stepped.0 in
    let fits = c.requires.fits in
    let low = fits.0 in (
      omega (arith, low, same),
      λ whole. let high = fits.1 whole in omega (arith, high, same),
    )

pub returns-in-Err-clause-has : goal.returns-in-Err-clause-has
returns-in-Err-clause-has c began from runs was = (was.0, was.1, was.2, λ empty none. refl)

pub returns-in-Err-clause-fits : goal.returns-in-Err-clause-fits
returns-in-Err-clause-fits c =
    let same = step_end c.args._before.now.value.state c.args.after.now.state (shown c.args.line.now) c.requires.stepped.0 in
    let fits = c.requires.fits in
    let low = fits.0 in (
      omega (arith, low, same),
      λ whole. let high = fits.1 whole in omega (arith, high, same),
    )
