-- The acts so far are appended.
use Rattle.std.proofs.Common.{◌≡◌, ◌++◌, map, take}
use Rattle.trace_text.specs.Words.{spaced_words}
use Rattle.trace_text.specs.Line.{act_word}
use Rattle.trace_text.proofs.act.append_acts.Given as goal

abbrev pub invariant-loop-act : goal.invariant-loop-act
invariant-loop-act l =
    l.out.items ≡ l.initial.out.items ++ spaced_words (map act_word (take l.act-index l.acts))
