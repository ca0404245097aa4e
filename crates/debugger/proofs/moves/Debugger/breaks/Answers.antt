use Rattle.std.proofs.Common.{◌≤◌, length, subst, ap, ◌∙◌}
use Rattle.debugger.specs.Debugging.{Debugging}
use Rattle.debugger.proofs.moves.Debugger.breaks.Goals as goal

pub returns-clause-value : goal.returns-clause-value
returns-clause-value c = c.as_slice.ensures.value ∙ ap (λ (d : Debugging). d.breaks) c.self.view_is

pub returns-clause-few : goal.returns-clause-few
returns-clause-few c = subst (λ (d : Debugging). length d.breaks ≤ 64) c.self.view_is c.as_slice.ensures.few
