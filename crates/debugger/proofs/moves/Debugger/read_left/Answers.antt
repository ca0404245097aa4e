use Rattle.std.proofs.Common.{ap, ◌∙◌}
use Rattle.debugger.specs.Debugging.{Debugging}
use Rattle.breakpoints.specs.Seen.{read_left_in}
use Rattle.debugger.proofs.moves.Debugger.read_left.Goals as goal

pub returns : goal.returns
returns c = c.read_left_in.ensures ∙ ap (λ (d : Debugging). read_left_in c.args.now c.args.what d.left) c.self.view_is
