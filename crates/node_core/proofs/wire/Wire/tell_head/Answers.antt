use Rattle.std.proofs.Common.{Some, None, Option, subst}
use Rattle.std.proofs.lemmas.Bool.{false≢true}
use Rattle.std.specs.Prelude.{IsSome}
use Rattle.sim_time.specs.declared.key.Key.{Key}
use Rattle.node_core.specs.declared.event.Event.{Event}
use Rattle.node_core.proofs.Wires.{wire, front_least}
use Rattle.node_core.proofs.wire.Wire.tell_head.Goals as goal

pub returns-in-Some : goal.returns-in-Some
returns-in-Some c =
    front_least (wire c.self.inside.node c.self.inside.link c.self.inside.taken c.self.inside.under_way) c.args.self.now c.self.view_is c.self.invariant (Some (c.in-Some.packet, c.in-Some.time)) c.in-Some.ensures

pub returns-in-None : goal.returns-in-None
returns-in-None c =
    let none = front_least (wire c.self.inside.node c.self.inside.link c.self.inside.taken c.self.inside.under_way) c.args.self.now c.self.view_is c.self.invariant None c.in-None.ensures in
    absurd (false≢true (subst (λ (o : Option (Key × Event)). IsSome o) none c.requires))
