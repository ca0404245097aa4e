use Rattle.std.proofs.Common.{List, IfOk, refl, sym, ◌∙◌, subst, arith}
use Rattle.node_core.specs.TraceLine.{shown}
use Rattle.breakpoints.specs.declared.breaks.Break.{Break}
use Rattle.debugger.specs.declared.passed.LastEvent.{LastEvent}
use Rattle.breakpoints.specs.Breaks.{IsFirstHit}
use Rattle.breakpoints.specs.Seen.{AreSeen}
use Rattle.debugger.proofs.LastEvents.{last_event}
use Rattle.breakpoints.proofs.States.{as_many}
use Rattle.debugger.proofs.Watched.{passes_on}
use Rattle.debugger.proofs.passed.OneEventWatch.see.Goals as goal

pub event_reported-self-requires : goal.event_reported-self-requires
event_reported-self-requires c = as_many c.args.self.now.breaks.now c.args.before.now.value.state c.as_slice-seen.result.now (c.as_slice-seen.ensures.value ∙ c.requires.fits.1)

pub see_again-requires-clause-is_run : goal.see_again-requires-clause-is_run
see_again-requires-clause-is_run c = c.requires.fits.0

pub see_again-requires-clause-stepped : goal.see_again-requires-clause-stepped
see_again-requires-clause-stepped c = c.requires.stepped

pub see_again-requires-clause-seen : goal.see_again-requires-clause-seen
see_again-requires-clause-seen c = subst (λ (breaks : List Break). AreSeen breaks c.args.before.now.value.state c.args.self.now.seen.items) (sym c.as_slice-breaks.ensures.value) c.requires.fits.1

pub returns-clause-has : goal.returns-clause-has
returns-clause-has c began from runs was = (
  was.0,
  λ start at none.
      let old = c.args.before.now.value in
      let new = c.args.after.now in
      let line = shown c.args.line.now in
      let reported = c.event_reported-self.result in
      let next = c.requires.stepped in
      let here = (was.1 start at none).0 in
      let first = subst (λ (breaks : List Break). IfOk reported (λ (event : LastEvent). IsFirstHit breaks old.state line new.state event.hit)) was.0 (c.event_reported-self.ensures.first old c.requires.fits.0 next (c.as_slice-seen.ensures.value ∙ c.requires.fits.1)) in
      (omega (arith, here, next.1), last_event start began.breaks.now old new line new.position reported (passes_on start from old at runs) next refl c.event_reported-self.ensures.shows first),
)

pub returns-clause-fits : goal.returns-clause-fits
returns-clause-fits c = (
  c.position-count.ensures.is_run,
  subst (λ (breaks : List Break). AreSeen breaks c.args.after.now.state c.see_again.new.seen.items) c.as_slice-breaks.ensures.value c.see_again.ensures,
)
