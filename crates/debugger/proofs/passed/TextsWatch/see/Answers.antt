use Rattle.std.proofs.Common.{◌≡◌, ◌++◌, ◌∙◌, take, drop, length, refl, ap, subst, arith}
use Rattle.std.specs.List.{concat}
use Rattle.node_core.specs.TraceLine.{shown}
use Rattle.trace_text.specs.Line.{line_bytes}
use Rattle.debugger.specs.declared.passed.LineOrder.{LineOrder}
use Rattle.debugger.specs.Passed.{beside, ordered_texts, texts_between}
use Rattle.debugger.proofs.Between.{reported_more, still_within}
use Rattle.debugger.proofs.Found.{found_begins}
use Rattle.debugger.proofs.Watched.{passes_on}
use Rattle.debugger.proofs.passed.TextsWatch.see.Goals as goal

pub returns-in-Ok-clause-has : goal.returns-in-Ok-clause-has
returns-in-Ok-clause-has c began from runs was = (
  was.0,
  was.1,
  was.2,
  λ start m before low at whole reported.
      let old = c.args._before.now.value in
      let new = c.args.after.now in
      let self = c.args.self.now in
      let so = was.3 start m before low at whole reported in
      let text = line_bytes c.position.result (shown c.args.line.now) in
      let made = subst (λ (order : LineOrder). c.put_line.new.out.items ≡ take self.start self.out.now.items ++ beside order (drop self.start self.out.now.items) text) was.2 c.in-Ok.ensures.ok in (
        reported_more start began.order m c.position.result self.start old new (shown c.args.line.now) before self.out.now.items c.put_line.new.out.items (let far = runs.position in omega (arith, low, far)) (passes_on start from old at runs) c.requires.stepped
            c.position.ensures.count (was.1 ∙ whole) so.0 made,
        so.1,
      ),
)

pub returns-in-Ok-clause-fits : goal.returns-in-Ok-clause-fits
returns-in-Ok-clause-fits c =
    let self = c.args.self.now in
    let text = line_bytes c.position.result (shown c.args.line.now) in
    let fits = c.requires.fits in
    let still = still_within self.out.now.items c.put_line.new.out.items (beside self.order (drop self.start self.out.now.items) text) self.start (omega (arith, fits)) c.in-Ok.ensures.ok in
    omega (arith, still)

pub returns-in-Err-clause-has : goal.returns-in-Err-clause-has
returns-in-Err-clause-has c began from runs was = (
  was.0,
  was.1,
  was.2,
  λ start m before low at whole reported.
      let self = c.args.self.now in
      let so = was.3 start m before low at whole reported in
      (ap (take (length before)) c.in-Err.ensures.err ∙ found_begins (concat (ordered_texts began.order (texts_between start m c.args._before.now.value.position))) before self.out.now.items so.0, refl),
)

pub returns-in-Err-clause-fits : goal.returns-in-Err-clause-fits
returns-in-Err-clause-fits c =
    let same = ap length c.in-Err.ensures.err in
    let fits = c.requires.fits in
    omega (arith, same, fits)
