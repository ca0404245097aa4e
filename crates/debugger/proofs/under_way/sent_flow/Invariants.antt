-- None of the acts before sends a packet.
use Rattle.std.proofs.Common.{◌≡◌, drop}
use Rattle.debugger.specs.UnderWay.{sent_flow}
use Rattle.debugger.proofs.under_way.sent_flow.Given as goal

abbrev pub invariant-loop-act : goal.invariant-loop-act
invariant-loop-act l = sent_flow (drop l.act-index l.acts) ≡ sent_flow l.acts
