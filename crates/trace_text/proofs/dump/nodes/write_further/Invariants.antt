-- The numbers behind are still to be appended.
use Rattle.std.proofs.Common.{string_bytes, ◌≡◌, ◌++◌, drop, codes, decimal}
use Rattle.std.specs.List.{flat_map}
use Rattle.trace_text.proofs.dump.nodes.write_further.Given as goal

abbrev pub invariant-loop-n : goal.invariant-loop-n
invariant-loop-n l =
    string_bytes l.out ++ flat_map (λ n. codes "," ++ decimal n) (drop l.n-index l.numbers) ≡ string_bytes l.initial.out ++ flat_map (λ n. codes "," ++ decimal n) l.numbers
