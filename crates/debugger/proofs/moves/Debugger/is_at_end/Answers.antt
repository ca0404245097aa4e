use Rattle.std.proofs.Common.{ap, ◌∙◌, is_none}
use Rattle.table_run.specs.State.{due}
use Rattle.debugger.specs.Debugging.{Debugging}
use Rattle.debugger.proofs.moves.Debugger.is_at_end.Goals as goal

pub returns : goal.returns
returns c = c.is_ended.ensures ∙ ap (λ (d : Debugging). is_none (due d.shown.state)) c.self.view_is
