-- The links behind are still to be looked through.
use Rattle.std.proofs.Common.{string_bytes, ◌≡◌, ◌==◌, ◌++◌, drop}
use Rattle.std.specs.List.{flat_map, filter}
use Rattle.node_core.specs.Part.{LinkState}
use Rattle.trace_text.specs.Chosen.{chosen_link}
use Rattle.trace_text.proofs.dump.links.write_own.Given as goal

abbrev pub invariant-loop-link : goal.invariant-loop-link
invariant-loop-link l =
    string_bytes l.out ++ flat_map (chosen_link l.flow) (filter (λ (link : LinkState). link.port.link == l.number) (drop l.link-index l.links))
    ≡ string_bytes l.initial.out ++ flat_map (chosen_link l.flow) (filter (λ (link : LinkState). link.port.link == l.number) l.links)
