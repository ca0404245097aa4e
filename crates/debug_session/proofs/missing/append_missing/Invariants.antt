-- What was appended and what is left is all.
use Rattle.std.proofs.Common.{◌≡◌, ◌++◌, drop}
use Rattle.std.specs.List.{flat_map}
use Rattle.debug_session.specs.Missing.{missing_head, drop_text}
use Rattle.debug_session.proofs.missing.append_missing.Given as goal

abbrev pub invariant-loop-dropped : goal.invariant-loop-dropped
invariant-loop-dropped l = l.out.items ++ flat_map (drop_text l.names l.of) (drop l.dropped-index l.drops) ≡ (l.fn.out.items ++ missing_head l.of) ++ flat_map (drop_text l.names l.of) l.drops
