use Rattle.std.proofs.Common.{◌≡◌, ◌++◌, subst}
use Rattle.std.specs.Result.{OnOk}
use Rattle.trace_text.specs.DumpParts.{part_bytes}
use Rattle.debugger.specs.Debugging.{Debugging}
use Rattle.debugger.proofs.moves.Debugger.part_text.Goals as goal

pub returns-clause-ok : goal.returns-clause-ok
returns-clause-ok c =
    subst (λ (d : Debugging). OnOk c.part_text.result (c.part_text.new.out.items ≡ c.args.out.now.items ++ part_bytes c.args.part d.shown)) c.self.view_is c.part_text.ensures.ok

pub returns-clause-err : goal.returns-clause-err
returns-clause-err c = c.part_text.ensures.err
