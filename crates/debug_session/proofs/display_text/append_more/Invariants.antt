-- What was appended and what is left is all.
use Rattle.std.proofs.Common.{◌≡◌, ◌++◌, drop, codes}
use Rattle.std.specs.List.{flat_map}
use Rattle.prompt_words.specs.Displays.{one_shown}
use Rattle.debug_session.specs.Readouts.{now_of, was_of}
use Rattle.debug_session.proofs.display_text.append_more.Given as goal

abbrev pub invariant-loop-value : goal.invariant-loop-value
invariant-loop-value l =
    l.out.items ++ flat_map (one_shown (was_of l.readout) (now_of l.readout) (codes ", ") l.of) (drop l.value-index l.values)
    ≡ l.fn.out.items ++ flat_map (one_shown (was_of l.readout) (now_of l.readout) (codes ", ") l.of) l.values
