-- The events behind are still to be looked through.
use Rattle.std.proofs.Common.{◌≡◌, ◌++◌, drop}
use Rattle.std.specs.List.{flat_map}
use Rattle.sim_time.specs.declared.key.Key.{Key}
use Rattle.node_core.specs.declared.event.Event.{Event}
use Rattle.flow_waits.specs.Waits.{arriving}
use Rattle.flow_waits.proofs.awaited.under_way.Given as goal

abbrev pub invariant-loop-key : goal.invariant-loop-key
invariant-loop-key l =
    l.all.items ++ flat_map (λ (entry : Key × Event). arriving l.flow entry.0 entry.1) (drop l.key-index l.pending)
    ≡ flat_map (λ (entry : Key × Event). arriving l.flow entry.0 entry.1) l.pending
