-- How a firing of a group ends: nothing left the node, or a packet came to a node of the group, or it waits for another.
use Rattle.std.proofs.Common.{◌≡◌, ℕ, Bool, true, false, List, [], ◌∷◌, ◌++◌, refl, sym, ap, subst, ◌∙◌, Some, None, Option}
use Rattle.sim_time.specs.declared.key.Key.{Key}
use Rattle.tournament.specs.Keyed.{least}
use Rattle.node_core.specs.declared.event.Event.{Event}
use Rattle.node_core.specs.Row.{Leaving}
use Rattle.node_core.specs.TraceLine.{TraceLine}
use Rattle.node_core.specs.WireState.{WireState}
use Rattle.net_machine.specs.Wiring.{place_at}
use Rattle.net_machine.specs.Region.{effect_at, link_left, packet_left, CanRun, CanGoOn, GoneOn, HasHappened}
use Rattle.node_group.specs.declared.area.Area.{Area}
use Rattle.node_group.specs.Seats.{Seats, seated}
use Rattle.node_group.specs.Passing.{is_seated, nodes_of, with_node, CanPass, HasPassed}
use Rattle.node_group.specs.Group.{GroupValue, member, IsFiring, IsDueBelow}
use Rattle.node_group.proofs.Firing.{runnable_here}
use Rattle.node_group.proofs.EventRun.{HasRun, effect, next, ran, ends_quiet}
use Rattle.node_group.proofs.SentOn.{IsSending, link, packets, number_is, over, can_pass}
use Rattle.node_group.proofs.EndsInside.{ends_inside}
use Rattle.node_group.proofs.EndsAcross.{ends_across}

module _ {g : GroupValue} {end place : ℕ} {k : Key} {v : Event} {e : HasRun g end place k v} {l : Leaving} (s : IsSending e l) where
  ends_passed : (new : Area) → HasPassed g.links record { nodes_by_number = ran e; exits = g.held } (link s) (packets s) new → IsFiring end g (next e new.nodes_by_number new.exits)
  ends_passed new has = by (is_seated (ran e) (place_at g.links (link s)).node) refl
    where
      by : (b : Bool) → is_seated (ran e) (place_at g.links (link s)).node ≡ b → IsFiring end g (next e new.nodes_by_number new.exits)
      by true here = subst (λ (wires : List WireState). IsFiring end g (next e new.nodes_by_number wires)) (sym (has.exits_stay here)) (ends_inside s here new.nodes_by_number (has.come here))
      by false here = subst (λ (all : Seats). IsFiring end g (next e all new.exits)) (sym (has.members_stay here)) (ends_across s here new.exits (has.waits here))

module _ {g : GroupValue} {end place : ℕ} (d : IsDueBelow end g place) where
  abbrev runs : (k : Key) (v : Event) → least (member g place).pending ≡ Some (k, v) → HasRun g end place k v
  runs k v here = record { is = d.is; on = d.on; below = d.below; first = d.first; here = here; early = d.soon k v here; fits = d.fits }

  abbrev sends : (k : Key) (v : Event) (here : least (member g place).pending ≡ Some (k, v)) (l : Leaving) → (effect_at (seated g.seats) place k v).leaving ≡ Some l → IsSending (runs k v here) l
  sends k v here l is = record { is = is }

  pub can_run : CanRun g.links (seated g.seats) place
  can_run = record {
    within = d.first.within;
    pending = d.pending;
    runnable = λ k v here. runnable_here g d.is d.on end d.below place d.first k v here (d.soon k v here) d.fits;
    few = d.is.few place;
    leaves = λ k v l here is. over (sends k v here l is);
  }

  abbrev area : Area
  area = record { nodes_by_number = g.seats; exits = g.held }

  pub can_go : CanGoOn nodes_of with_node (CanPass g.links) area place
  can_go k v l here is = can_pass (sends k v here l is)

  module _ (line : TraceLine) (new : Area) (has : HasHappened nodes_of with_node (HasPassed g.links) area new place line) where
    abbrev e : HasRun g end place line.key line.event
    e = runs line.key line.event has.is_least

    by_leaving : (o : Option Leaving) → (effect_at (seated g.seats) place line.key line.event).leaving ≡ o → IsFiring end g (next e new.nodes_by_number new.exits)
    by_leaving None none =
        let same : new ≡ record { nodes_by_number = ran e; exits = g.held } = subst (λ o. GoneOn (HasPassed g.links) (effect e) o record { nodes_by_number = ran e; exits = g.held } new) none has.goes in
        subst (λ (a : Area). IsFiring end g (next e a.nodes_by_number a.exits)) (sym same) (ends_quiet e none)
    by_leaving (Some l) is =
        let s = sends line.key line.event has.is_least l is in
        let passed : HasPassed g.links record { nodes_by_number = ran e; exits = g.held } (link_left (effect e) l) (packet_left l) new = subst (λ o. GoneOn (HasPassed g.links) (effect e) o record { nodes_by_number = ran e; exits = g.held } new) is has.goes in
        ends_passed s new (subst (λ n. HasPassed g.links record { nodes_by_number = ran e; exits = g.held } n (packet_left l) new) (number_is s) passed)

    -- the group has fired, and the line is told behind the others
    pub has_fired : (lines : List TraceLine) → lines ≡ g.lines ++ line ∷ [] → IsFiring end g (record g { seats = new.nodes_by_number; held = new.exits; lines = lines })
    has_fired lines same =
        subst (λ (all : List TraceLine). IsFiring end g (record g { seats = new.nodes_by_number; held = new.exits; lines = all })) (sym (same ∙ ap (λ (x : TraceLine). g.lines ++ x ∷ []) has.reported))
        (by_leaving (effect_at (seated g.seats) place line.key line.event).leaving refl)
