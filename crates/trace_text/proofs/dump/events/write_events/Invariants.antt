-- The events behind are still to be appended.
use Rattle.std.proofs.Common.{string_bytes, ◌≡◌, ◌++◌, drop}
use Rattle.std.specs.List.{flat_map}
use Rattle.trace_text.specs.Chosen.{chosen_event}
use Rattle.trace_text.proofs.dump.events.write_events.Given as goal

abbrev pub invariant-loop-key : goal.invariant-loop-key
invariant-loop-key l =
    string_bytes l.out ++ flat_map (chosen_event l.flow) (drop l.key-index l.key-items) ≡ string_bytes l.initial.out ++ flat_map (chosen_event l.flow) l.key-items
