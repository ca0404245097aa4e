-- The links behind are still to be looked through.
use Rattle.std.proofs.Common.{◌≡◌, ◌==◌, ◌++◌, drop}
use Rattle.std.specs.List.{flat_map, filter}
use Rattle.node_core.specs.Part.{LinkState}
use Rattle.flow_waits.specs.Waits.{waiting_at}
use Rattle.flow_waits.proofs.queues.gather_own.Given as goal

abbrev pub invariant-loop-link : goal.invariant-loop-link
invariant-loop-link l =
    l.all.items ++ flat_map (waiting_at l.flow) (filter (λ (link : LinkState). link.port.link == l.number) (drop l.link-index l.links))
    ≡ l.initial.all.items ++ flat_map (waiting_at l.flow) (filter (λ (link : LinkState). link.port.link == l.number) l.links)
