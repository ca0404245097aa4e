use Rattle.std.proofs.Common.{ap, ◌∙◌}
use Rattle.debugger.specs.Debugging.{Debugging}
use Rattle.debugger.specs.Drops.{missing_in}
use Rattle.debugger.proofs.moves.Debugger.missing.Goals as goal

pub returns : goal.returns
returns c = c.missing_in.ensures ∙ ap (λ (d : Debugging). missing_in c.args.flow d.shown.state) c.self.view_is
