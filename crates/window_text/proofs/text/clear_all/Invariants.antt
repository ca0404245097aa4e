-- those so far have made nothing
use Rattle.std.proofs.Common.{take}
use Rattle.window_text.specs.Parts.{AreRight}
use Rattle.window_text.proofs.text.clear_all.Given as goal

abbrev pub invariant-loop-formatter : goal.invariant-loop-formatter
invariant-loop-formatter l = AreRight l.sheaf (take l.formatter-index l.formatters)
