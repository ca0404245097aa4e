use Rattle.std.proofs.Common.{◌≡◌, ◌++◌, subst}
use Rattle.std.specs.Result.{OnOk}
use Rattle.flow_waits.specs.Waits.{waits_bytes}
use Rattle.debugger.specs.Debugging.{Debugging}
use Rattle.debugger.proofs.moves.Debugger.waits_text.Goals as goal

pub returns-clause-ok : goal.returns-clause-ok
returns-clause-ok c =
    subst (λ (d : Debugging). OnOk c.waits_text.result (c.waits_text.new.out.items ≡ c.args.out.now.items ++ waits_bytes c.args.names.now c.args.flow d.shown.state)) c.self.view_is c.waits_text.ensures.ok

pub returns-clause-err : goal.returns-clause-err
returns-clause-err c = c.waits_text.ensures.err
