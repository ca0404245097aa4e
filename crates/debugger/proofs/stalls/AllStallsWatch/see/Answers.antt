use Rattle.std.proofs.Common.{refl, ◌∙◌}
use Rattle.node_core.specs.TraceLine.{shown}
use Rattle.debugger.specs.Stalls.{stalls_upto}
use Rattle.debugger.proofs.Found.{still_begins}
use Rattle.debugger.proofs.StallsFound.{stalls_found}
use Rattle.debugger.proofs.UnderWay.{counted_next}
use Rattle.debugger.proofs.Watched.{passes_on}
use Rattle.debugger.proofs.stalls.AllStallsWatch.see.Goals as goal

pub push_stalls-requires-clause-is_run : goal.push_stalls-requires-clause-is_run
push_stalls-requires-clause-is_run c = c.requires.fits.0

pub push_stalls-requires-clause-stepped : goal.push_stalls-requires-clause-stepped
push_stalls-requires-clause-stepped c = c.requires.stepped

pub push_stalls-requires-clause-counted : goal.push_stalls-requires-clause-counted
push_stalls-requires-clause-counted c =
    counted_next c.args.before.now.value c.args.after.now (shown c.args.line.now) c.args.self.now.counts.now.items c.as_slice.result.now c.requires.fits.0 c.requires.stepped c.requires.fits.1 (c.as_slice.ensures.value ∙ c.count_on.ensures)

pub returns-in-Ok-clause-has : goal.returns-in-Ok-clause-has
returns-in-Ok-clause-has c began from runs was = (
  was.0,
  λ start before at upto.
      let old = c.args.before.now.value in
      let so = was.1 start before at upto in
      (stalls_found start old c.args.after.now (shown c.args.line.now) before c.args.self.now.out.now.items c.push_stalls.new.out.items (passes_on start from old at runs) c.requires.stepped so.0 c.in-Ok.ensures.ok, so.1),
)

pub returns-in-Err-clause-has : goal.returns-in-Err-clause-has
returns-in-Err-clause-has c began from runs was = (
  was.0,
  λ start before at upto.
      let so = was.1 start before at upto in
      (still_begins before (stalls_upto start c.args.before.now.value.position) c.args.self.now.out.now.items c.push_stalls.new.out.items so.0 c.in-Err.ensures.err, refl),
)

pub returns-in-Ok-clause-fits : goal.returns-in-Ok-clause-fits
returns-in-Ok-clause-fits c = (
  c.position-count.ensures.is_run,
  counted_next c.args.before.now.value c.args.after.now (shown c.args.line.now) c.args.self.now.counts.now.items c.count_on.new.counts.items c.requires.fits.0 c.requires.stepped c.requires.fits.1 c.count_on.ensures,
)

pub returns-in-Err-clause-fits : goal.returns-in-Err-clause-fits
returns-in-Err-clause-fits c = (
  c.position-count.ensures.is_run,
  counted_next c.args.before.now.value c.args.after.now (shown c.args.line.now) c.args.self.now.counts.now.items c.count_on.new.counts.items c.requires.fits.0 c.requires.stepped c.requires.fits.1 c.count_on.ensures,
)
