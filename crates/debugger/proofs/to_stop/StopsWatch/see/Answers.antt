use Rattle.std.proofs.Common.{List, ◌∙◌, sym, subst, arith}
use Rattle.node_core.specs.TraceLine.{shown}
use Rattle.breakpoints.specs.declared.breaks.Break.{Break}
use Rattle.breakpoints.specs.Breaks.{IsHit}
use Rattle.breakpoints.specs.Seen.{AreSeen}
use Rattle.breakpoints.proofs.States.{as_many}
use Rattle.breakpoints.proofs.Judged.{was_found, was_not}
use Rattle.debugger.proofs.UnderWay.{counted_next}
use Rattle.debugger.proofs.Watched.{passes_on, sought_next, missed_next}
use Rattle.debugger.proofs.to_stop.StopsWatch.see.Goals as goal

pub is_stop-found-requires : goal.is_stop-found-requires
is_stop-found-requires c = as_many c.args.self.now.breaks.now c.args.before.now.value.state c.as_slice-seen.result.now (c.as_slice-seen.ensures.value ∙ c.requires.fits.2)

pub see_again-requires-clause-is_run : goal.see_again-requires-clause-is_run
see_again-requires-clause-is_run c = c.requires.fits.0

pub see_again-requires-clause-stepped : goal.see_again-requires-clause-stepped
see_again-requires-clause-stepped c = c.requires.stepped

pub see_again-requires-clause-seen : goal.see_again-requires-clause-seen
see_again-requires-clause-seen c = subst (λ (breaks : List Break). AreSeen breaks c.args.before.now.value.state c.args.self.now.seen.items) (sym c.as_slice-breaks.ensures.value) c.requires.fits.2

pub returns-in-Ok-true-clause-has : goal.returns-in-Ok-true-clause-has
returns-in-Ok-true-clause-has c began from runs was = (
  was.0,
  was.1,
  λ start at none.
      let old = c.args.before.now.value in
      let new = c.args.after.now in
      let self = c.args.self.now in
      let line = shown c.args.line.now in
      let fits = c.requires.fits in
      let counted = counted_next old new line self.counts.items c.as_slice-counts.result.now fits.0 c.requires.stepped fits.1 (c.as_slice-counts.ensures.value ∙ c.count_on.ensures) in
      let hit = was_found (IsHit self.breaks.now old.state line new.state) c.is_stop-found.result c.in-Ok-true.field-0 c.in-Ok-true.is c.in-Ok-true.field-0-test (c.is_stop-found.ensures old fits.0 c.requires.stepped counted (c.as_slice-seen.ensures.value ∙ fits.2)) in
      sought_next start began.breaks.now from.position old new line began.first self.first self.found c.position-position.result began.refused self.refused was.1 c.position-position.ensures.count (let far = runs.position in omega (arith, far)) (passes_on start from old at runs)
      c.requires.stepped (was.2 start at none) (subst (λ (breaks : List Break). IsHit breaks old.state line new.state) was.0 hit),
)

pub returns-in-Ok-false-clause-has : goal.returns-in-Ok-false-clause-has
returns-in-Ok-false-clause-has c began from runs was = (
  was.0,
  was.1,
  λ start at none.
      let old = c.args.before.now.value in
      let new = c.args.after.now in
      let self = c.args.self.now in
      let line = shown c.args.line.now in
      let fits = c.requires.fits in
      let counted = counted_next old new line self.counts.items c.as_slice-counts.result.now fits.0 c.requires.stepped fits.1 (c.as_slice-counts.ensures.value ∙ c.count_on.ensures) in
      let missed = was_not (IsHit self.breaks.now old.state line new.state) c.is_stop-found.result c.in-Ok-false.field-0 c.in-Ok-false.is c.in-Ok-false.field-0-test (c.is_stop-found.ensures old fits.0 c.requires.stepped counted (c.as_slice-seen.ensures.value ∙ fits.2)) in
      missed_next start began.breaks.now from.position old new line began.first self.found began.refused self.refused (passes_on start from old at runs) c.requires.stepped (was.2 start at none) (subst (λ (breaks : List Break). IsHit breaks old.state line new.state → ⊥) was.0 missed),
)

pub returns-in-Ok-true-clause-fits : goal.returns-in-Ok-true-clause-fits
returns-in-Ok-true-clause-fits c = (
  c.position-position.ensures.is_run,
  counted_next c.args.before.now.value c.args.after.now (shown c.args.line.now) c.args.self.now.counts.items c.count_on.new.counts.items c.requires.fits.0 c.requires.stepped c.requires.fits.1 c.count_on.ensures,
  subst (λ (breaks : List Break). AreSeen breaks c.args.after.now.state c.see_again.new.seen.items) c.as_slice-breaks.ensures.value c.see_again.ensures,
)

pub returns-in-Ok-false-clause-fits : goal.returns-in-Ok-false-clause-fits
returns-in-Ok-false-clause-fits c = (
  c.position-position.ensures.is_run,
  counted_next c.args.before.now.value c.args.after.now (shown c.args.line.now) c.args.self.now.counts.items c.count_on.new.counts.items c.requires.fits.0 c.requires.stepped c.requires.fits.1 c.count_on.ensures,
  subst (λ (breaks : List Break). AreSeen breaks c.args.after.now.state c.see_again.new.seen.items) c.as_slice-breaks.ensures.value c.see_again.ensures,
)

pub returns-in-Err-clause-fits : goal.returns-in-Err-clause-fits
returns-in-Err-clause-fits c = (
  c.position-position.ensures.is_run,
  counted_next c.args.before.now.value c.args.after.now (shown c.args.line.now) c.args.self.now.counts.items c.count_on.new.counts.items c.requires.fits.0 c.requires.stepped c.requires.fits.1 c.count_on.ensures,
  subst (λ (breaks : List Break). AreSeen breaks c.args.after.now.state c.see_again.new.seen.items) c.as_slice-breaks.ensures.value c.see_again.ensures,
)
