use Rattle.std.proofs.Common.{arith}
use Rattle.window_text.proofs.Parted.{rights_none}
use Rattle.window_text.proofs.text.clear_all.Goals as goal

pub loop-formatter-preserved : goal.loop-formatter-preserved
loop-formatter-preserved c =
    let same = c.loop-formatter.auto.formatters in
    let below = c.loop-formatter-test.true in
    rights_none c.args.sheaf.now c.loop-formatter.formatters c.loop-formatter.formatter-index _ (omega (arith, same, below)) c.loop-formatter.invariant c.clear.ensures.parts
