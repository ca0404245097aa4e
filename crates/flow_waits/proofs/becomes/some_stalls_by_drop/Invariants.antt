-- No packet that was dropped before is of a flow that is stalled.
use Rattle.std.proofs.Common.{◌≡◌, drop}
use Rattle.std.specs.List.{list_any}
use Rattle.flow_waits.specs.Stalled.{is_stalled_by_drop}
use Rattle.flow_waits.proofs.becomes.some_stalls_by_drop.Given as goal

abbrev pub invariant-loop-act : goal.invariant-loop-act
invariant-loop-act l = list_any (is_stalled_by_drop l.net.state) (drop l.act-index l.acts) ≡ list_any (is_stalled_by_drop l.net.state) l.acts
