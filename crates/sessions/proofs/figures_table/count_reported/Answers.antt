use Rattle.std.proofs.Common.{IfOk, sym, subst}
use Rattle.scenario_image.specs.declared.parts.ScenarioParts.{ScenarioParts}
use Rattle.net_machine.specs.Run.{Reached}
use Rattle.figures.specs.declared.figures.Figures.{Figures}
use Rattle.sessions.specs.FiguresOutput.{AreCounted, IsOpenedRun}
use Rattle.sessions.proofs.figures_table.count_reported.Goals as goal

pub returns-clause-counted : goal.returns-clause-counted
returns-clause-counted g c =
    let old = c.args.counter.now in
    let P : Figures → Reached → Type 0 = λ f r. IfOk c.count_from-ended.result (λ _. (p : ScenarioParts) → IsOpenedRun p old.figures old.net → AreCounted p c.args.moment f r) in
    subst (P c.tell_end.new.self.figures) (sym c.tell_end.ensures.net) (subst (λ (f : Figures). P f c.count_from-ended.new.self.net) (sym c.tell_end.ensures.figures) c.count_from-ended.ensures.counted)
