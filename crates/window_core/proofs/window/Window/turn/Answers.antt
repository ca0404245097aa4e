use Rattle.std.proofs.Common.{sym, ap, subst, ◌∙◌}
use Rattle.line_merge.specs.Batches.{BatchValue}
use Rattle.window_core.specs.Window.{WindowValue, HasGoneOn, states_of}
use Rattle.window_law.specs.Windows.{none_fired}
use Rattle.window_core.specs.WindowOf.{window_of}
use Rattle.window_core.proofs.Taken.{gone_taken, inside_taken, turned_unfired}
use Rattle.window_core.proofs.window.Window.turn.Goals as goal

pub invariant_of-self : goal.invariant_of-self
invariant_of-self c = inside_taken c.self.inside c.replace.new.dest c.self.inside.spare c.self.invariant

pub returns-clause-run : goal.returns-clause-run
returns-clause-run c edge from =
    let w = c.self.inside in
    let v = c.turn_over.new.self in
    let t = c.replace.new.dest in
    subst (λ (b : BatchValue). HasGoneOn edge b.lines record (window_of w) { taken = t }) (sym c.replace.ensures.value)
    (subst (λ (x : WindowValue). HasGoneOn edge x.taken.lines record x { taken = t }) (sym c.self.view_is) (gone_taken v t edge v.taken.lines (c.in_ok-turn_over.ensures.run edge from)))

pub returns-clause-unfired : goal.returns-clause-unfired
returns-clause-unfired c =
    let old = c.args.self.now in
    let v = c.turn_over.new.self in
    ap (λ (x : WindowValue). none_fired (states_of x.groups)) c.self.view_is ∙ turned_unfired old record v { taken = old.taken } v.taken c.in_ok-turn_over.ensures.ok
