use Rattle.std.proofs.Common.{ap, ◌∙◌}
use Rattle.debugger.specs.Debugging.{Debugging}
use Rattle.breakpoints.specs.Seen.{read_in}
use Rattle.debugger.proofs.moves.Debugger.read.Goals as goal

pub returns : goal.returns
returns c = c.read_in.ensures ∙ ap (λ (d : Debugging). read_in c.args.now c.args.what d.shown.state) c.self.view_is
