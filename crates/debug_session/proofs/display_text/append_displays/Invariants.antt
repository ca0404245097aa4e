-- What was appended and what is left are all lines.
use Rattle.std.proofs.Common.{◌≡◌, ◌+◌, ◌++◌, drop}
use Rattle.prompt_words.specs.Displays.{displays_from}
use Rattle.debug_session.specs.Readouts.{now_of, was_of}
use Rattle.debug_session.proofs.display_text.append_displays.Given as goal

abbrev pub invariant-loop-index : goal.invariant-loop-index
invariant-loop-index l =
    l.out.items ++ displays_from l.names (was_of l.readout) (now_of l.readout) (l.index + 1) (drop l.index l.displays) ≡ l.fn.out.items ++ displays_from l.names (was_of l.readout) (now_of l.readout) 1 l.displays
