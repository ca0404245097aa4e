use Rattle.std.proofs.Common.{length, sym, ap, subst, ◌∙◌}
use Rattle.std.proofs.lemmas.List.{length-map}
use Rattle.line_merge.specs.Batches.{BatchValue}
use Rattle.node_group.specs.Group.{GroupValue}
use Rattle.line_merge.specs.Merged.{all_of}
use Rattle.line_merge.specs.Sheaves.{merged}
use Rattle.window_core.specs.Window.{WindowValue, HasGoneOn}
use Rattle.window_law.specs.Windows.{AreBelow}
use Rattle.window_core.specs.WindowOf.{window_of}
use Rattle.window_core.proofs.Readings.{lines_of_groups}
use Rattle.window_core.proofs.Taken.{turned_size}
use Rattle.window_core.proofs.window.Window.turn_into.Goals as goal

pub of-requires-clause-nexts : goal.of-requires-clause-nexts
of-requires-clause-nexts c =
    let turned = c.in_ok-turn_with.ensures in
    ap length c.deref_mut.ensures.value
    ∙ c.self.invariant.nexts
    ∙ sym c.self.invariant.window.split.count
    ∙ ap (λ (v : WindowValue). length v.groups) c.self.view_is
    ∙ turned_size c.args.self.now c.turn_with.new.self (merged c.turn_with.new.sheaf) turned.ok
    ∙ sym (ap length turned.lists ∙ length-map c.args.self.now.groups (λ (g : GroupValue). g.lines))

pub of-requires-clause-tournament : goal.of-requires-clause-tournament
of-requires-clause-tournament c =
    let turned = c.in_ok-turn_with.ensures in
    c.self.invariant.ranks
    ∙ sym c.self.invariant.window.split.count
    ∙ ap (λ (v : WindowValue). length v.groups) c.self.view_is
    ∙ turned_size c.args.self.now c.turn_with.new.self (merged c.turn_with.new.sheaf) turned.ok
    ∙ sym (ap length turned.lists ∙ length-map c.args.self.now.groups (λ (g : GroupValue). g.lines))

pub of-requires-clause-order : goal.of-requires-clause-order
of-requires-clause-order c = c.in-Ok.ensures.room ∙ c.in_ok-count.ensures.ok.count_is ∙ ap length (lines_of_groups c.args.self.now.groups) ∙ sym (ap (λ ls. length (all_of ls)) c.in_ok-turn_with.ensures.lists)

pub returns-clause-run : goal.returns-clause-run
returns-clause-run c edge from =
    let sheaf = c.turn_with.new.sheaf in
    subst (λ (b : BatchValue). HasGoneOn edge b.lines (window_of c.self.inside)) (sym c.of.ensures.batch) (subst (HasGoneOn edge (merged sheaf).lines) (sym c.self.view_is) (c.in_ok-turn_with.ensures.run edge from))

pub returns-clause-below : goal.returns-clause-below
returns-clause-below c = subst (λ (b : BatchValue). AreBelow c.args.self.now.until b.lines) (sym c.of.ensures.batch) c.in_ok-turn_with.ensures.below
