-- Those so far are written.
use Rattle.std.proofs.Common.{◌≡◌, ◌++◌, codes, take, string_bytes}
use Rattle.std.specs.List.{flat_map}
use Rattle.flow_waits.specs.Waits.{awaited_text}
use Rattle.flow_waits.proofs.awaited.write_further.Given as goal

abbrev pub invariant-loop-it : goal.invariant-loop-it
invariant-loop-it l = string_bytes l.out ≡ string_bytes l.initial.out ++ flat_map (λ it. codes ", " ++ awaited_text l.names it) (take l.it-index l.rest)
