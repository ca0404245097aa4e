use Rattle.std.proofs.Common.{◌≡◌, sym, ap, refl, ◌∙◌}
use Rattle.tournament.proofs.Maps.{not_some, same_some}
use Rattle.debugger.specs.Debugging.{Debugging}
use Rattle.debugger.proofs.moves.Debugger.undo_move.Goals as goal

pub invariant_of-self : goal.invariant_of-self
invariant_of-self c = record {
  moves = record { shown = c.self.invariant.moves.left c.in-Some.net (sym c.in-Some.ensures.value); left = λ was e. absurd (not_some (sym c.take.ensures.after ∙ e)) };
  nodes = c.self.invariant.nodes;
}

pub invariant_of-self-in-None : goal.invariant_of-self-in-None
invariant_of-self-in-None c = record {
  moves = record { shown = c.self.invariant.moves.shown; left = λ was e. absurd (not_some (sym c.take.ensures.after ∙ e)) };
  nodes = c.self.invariant.nodes;
}

pub returns-in-Some-clause-none : goal.returns-in-Some-clause-none
returns-in-Some-clause-none c = λ e. absurd (not_some (sym (c.in-Some.ensures.value ∙ ap (λ (d : Debugging). d.left) c.self.view_is ∙ e)))

pub returns-in-Some-clause-undone : goal.returns-in-Some-clause-undone
returns-in-Some-clause-undone c =
    λ was e.
    let start = ap (λ (d : Debugging). d.start) c.self.view_is in
    let breaks = ap (λ (d : Debugging). d.breaks) c.self.view_is in
    let workers = ap (λ (d : Debugging). d.workers) c.self.view_is in
    let same : c.in-Some.net ≡ was = same_some c.in-Some.net was (c.in-Some.ensures.value ∙ ap (λ (d : Debugging). d.left) c.self.view_is ∙ e) in
    (refl, (λ i. record { start = start i; shown = same i; left = c.take.ensures.after i; breaks = breaks i; workers = workers i }))

pub returns-in-None-clause-none : goal.returns-in-None-clause-none
returns-in-None-clause-none c =
    λ _.
    let left = c.take.ensures.after ∙ c.in-None.ensures.value in
    let kept : ◌≡◌ {A = Debugging} (record { start = c.self.inside.checkpoints; shown = c.self.inside.net; left = c.take.new.self; breaks = c.self.inside.breaks; workers = c.self.inside.window_settings.workers }) (record { start = c.self.inside.checkpoints; shown = c.self.inside.net; left = c.self.inside.left; breaks = c.self.inside.breaks; workers = c.self.inside.window_settings.workers }) = (λ i. record { start = c.self.inside.checkpoints; shown = c.self.inside.net; left = left i; breaks = c.self.inside.breaks; workers = c.self.inside.window_settings.workers }) in
    (refl, kept ∙ c.self.view_is)

pub returns-in-None-clause-undone : goal.returns-in-None-clause-undone
returns-in-None-clause-undone c = λ was e. absurd (not_some (c.in-None.ensures.value ∙ ap (λ (d : Debugging). d.left) c.self.view_is ∙ e))
