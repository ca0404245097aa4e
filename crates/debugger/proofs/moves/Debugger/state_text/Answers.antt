use Rattle.std.proofs.Common.{◌≡◌, ◌++◌, subst}
use Rattle.std.specs.Result.{OnOk}
use Rattle.trace_text.specs.Dump.{dump_bytes}
use Rattle.debugger.specs.Debugging.{Debugging}
use Rattle.debugger.proofs.moves.Debugger.state_text.Goals as goal

pub returns-clause-ok : goal.returns-clause-ok
returns-clause-ok c =
    subst (λ (d : Debugging). OnOk c.dump_text.result (c.dump_text.new.out.items ≡ c.args.out.now.items ++ dump_bytes d.shown)) c.self.view_is c.dump_text.ensures.ok

pub returns-clause-err : goal.returns-clause-err
returns-clause-err c = c.dump_text.ensures.err
