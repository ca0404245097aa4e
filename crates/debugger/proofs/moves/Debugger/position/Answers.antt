use Rattle.std.proofs.Common.{ap, subst, ◌∙◌}
use Rattle.debugger.specs.Moves.{Passes}
use Rattle.debugger.specs.Debugging.{Debugging}
use Rattle.debugger.proofs.moves.Debugger.position.Goals as goal

pub returns-clause-count : goal.returns-clause-count
returns-clause-count c = c.position.ensures.count ∙ ap (λ (d : Debugging). d.shown.position) c.self.view_is

pub returns-clause-on_run : goal.returns-clause-on_run
returns-clause-on_run c = subst (λ (d : Debugging). Passes d.start d.shown) c.self.view_is c.self.invariant.moves.shown
