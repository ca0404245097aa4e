-- The numbers so far are appended.
use Rattle.std.proofs.Common.{string_bytes, ◌≡◌, ◌++◌, map, take}
use Rattle.trace_text.specs.Words.{spaced_words}
use Rattle.trace_text.specs.Dump.{readout_text}
use Rattle.trace_text.proofs.dump.links.write_control.Given as goal

abbrev pub invariant-loop-readout : goal.invariant-loop-readout
invariant-loop-readout l =
    string_bytes l.out ≡ string_bytes l.initial.out ++ spaced_words (map (readout_text l.queue) (take l.readout-index l.readouts))
