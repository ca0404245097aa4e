use Rattle.std.proofs.Common.{◌≡◌, ◌++◌, List, refl, subst}
use Rattle.port.specs.declared.acts.Act.{Act}
use Rattle.node_core.specs.TraceLine.{shown}
use Rattle.debugger.specs.declared.drops.DropsOf.{DropsOf}
use Rattle.debugger.specs.Drops.{drops_in, past_drops}
use Rattle.debugger.proofs.DropsFound.{drops_more}
use Rattle.debugger.proofs.Found.{still_begins}
use Rattle.debugger.proofs.Watched.{passes_on}
use Rattle.debugger.proofs.drops.DropsWatch.see.Goals as goal

pub returns-in-Ok-clause-has : goal.returns-in-Ok-clause-has
returns-in-Ok-clause-has c began from runs was = (
  was.0,
  was.1,
  λ start before at upto.
      let old = c.args._before.now.value in
      let new = c.args.after.now in
      let self = c.args.self.now in
      let so = was.2 start before at upto in
      let acts = subst (λ (acts : List Act). c.push_drops.new.out.items ≡ self.out.now.items ++ drops_in self.of c.position.result acts) c.as_slice.ensures c.in-Ok.ensures.ok in
      let made = subst (λ (of : DropsOf). c.push_drops.new.out.items ≡ self.out.now.items ++ drops_in of c.position.result (shown c.args.line.now).acts) was.1 acts in (
        drops_more start began.of c.position.result old new (shown c.args.line.now) before self.out.now.items c.push_drops.new.out.items (passes_on start from old at runs) c.requires.stepped c.position.ensures.count so.0 made,
        so.1,
      ),
)

pub returns-in-Err-clause-has : goal.returns-in-Err-clause-has
returns-in-Err-clause-has c began from runs was = (
  was.0,
  was.1,
  λ start before at upto.
      let self = c.args.self.now in
      let so = was.2 start before at upto in
      let old = c.args._before.now.value in
      (still_begins before (past_drops start began.of old.position) self.out.now.items c.push_drops.new.out.items so.0 c.in-Err.ensures.err, refl),
)
