-- The event that is due in a net is one of the region of all its nodes, where no message is outgoing.
use Rattle.std.proofs.Common.{◌≡◌, ◌≢◌, ℕ, ◌+◌, ◌<◌, List, [], set, replicate, refl, sym, subst, ◌∙◌, Some, None, Option}
use Rattle.std.specs.Option.{option_map}
use Rattle.sim_time.specs.declared.key.Key.{Key}
use Rattle.sim_time.specs.declared.limits.TheConstants.{MOST_EVENTS}
use Rattle.packet_chain.specs.Stamped.{Stamped}
use Rattle.tournament.specs.Keyed.{least, next_key}
use Rattle.node_core.specs.declared.event.Event.{Event}
use Rattle.node_core.specs.Row.{Leaving}
use Rattle.node_core.specs.TraceLine.{TraceLine}
use Rattle.node_core.specs.Node.{NodeState}
use Rattle.table_run.specs.State.{due, step}
use Rattle.net_machine.specs.declared.places.LinkEnds.{LinkEnds}
use Rattle.net_machine.specs.Run.{Reached, Stepped}
use Rattle.net_machine.specs.Nodes.{node_at, net_state, reached, IsFirst}
use Rattle.net_machine.specs.NetOf.{IsNet}
use Rattle.net_machine.specs.Region.{effect_at, node_after, come_over, GoneOn, CanRun, CanGoOn, CanCome, HasHappened}
use Rattle.net_machine.proofs.First.{due_at, first_due, pending_first}
use Rattle.net_machine.proofs.Steps.{its_key, ready, ran, last, over, can_come, quiet_step, quiet_net, come_step, come_net}

-- all nodes of a net as a region
abbrev pub all : List NodeState → List NodeState
all nodes = nodes

abbrev pub put_at : List NodeState → ℕ → NodeState → List NodeState
put_at nodes place node = set nodes place node

abbrev pub HaveCome : List LinkEnds → List NodeState → ℕ → List Stamped → List NodeState → Type 0
HaveCome ends nodes link packets new = new ≡ come_over ends nodes link packets

-- the event that is due in a net is that of a node
pub record IsNetDue (nodes : List NodeState) (ends : List LinkEnds) (out : List (List Stamped)) (end position place : ℕ) : Type 0 where
  pub is : IsNet nodes ends out end position
  pub first : IsFirst nodes place
  pub fits : position < MOST_EVENTS
  pub soon : (k : Key) (v : Event) → least (node_at nodes place).pending ≡ Some (k, v) → k.time < end
  pub pending : next_key (node_at nodes place).pending ≢ None

pub net_due : (nodes : List NodeState) (all_ends ends : List LinkEnds) (out : List (List Stamped)) (end position node place : ℕ) (r : Reached) → ends ≡ all_ends → IsNet nodes all_ends out end position → reached nodes end position ≡ r → option_map (λ (entry : Key × Event). entry.0.node) (due r.state) ≡ Some node
    → r.position < MOST_EVENTS → place ≡ node → IsNetDue nodes ends out end position place
net_due nodes all_ends ends out end position node place r ends_are net same due_is few at =
    let is : IsNet nodes ends out end position = subst (λ (e : List LinkEnds). IsNet nodes e out end position) (sym ends_are) net in
    let d = due_at nodes end position node r same due_is in
    let first = first_due nodes is.placed end node place d at in
    record {
      is = is;
      first = first;
      fits = subst (λ (x : Reached). x.position < MOST_EVENTS) (sym same) few;
      soon = λ k v here. subst (λ (q : Key). q.time < end) (its_key nodes ends out end position is place first d.key d.next k v here) d.in_time;
      pending = pending_first nodes end node place d first;
    }

module _ {nodes : List NodeState} {ends : List LinkEnds} {out : List (List Stamped)} {end position place : ℕ} (d : IsNetDue nodes ends out end position place) where
  pub can_run : CanRun ends nodes place
  can_run = record {
    within = d.first.within;
    pending = d.pending;
    runnable = λ k v here. ready nodes ends out end position d.is place d.first k v here (d.soon k v here) d.fits;
    few = d.is.wired.few place;
    leaves = λ k v l here left. over nodes ends out end position d.is place d.first k v here (d.soon k v here) l left;
  }

  pub can_go : CanGoOn all put_at (CanCome ends) nodes place
  can_go k v l here left = can_come nodes ends out end position d.is place d.first k v here (d.soon k v here) l left d.fits

  module _ (line : TraceLine) (new : List NodeState) (has : HasHappened all put_at (HaveCome ends) nodes new place line) where
    abbrev k : Key
    k = line.key

    abbrev v : Event
    v = line.event

    early : k.time < end
    early = d.soon k v has.is_least

    by_leaving : (o : Option Leaving) → (effect_at nodes place k v).leaving ≡ o → (step (net_state nodes end) ≡ Some (line, net_state new end)) × IsNet new ends (replicate 16 []) end (position + 1)
    by_leaving None none =
        let is_ran : new ≡ ran nodes ends out end position d.is place d.first k v has.is_least early = subst (λ o. GoneOn (HaveCome ends) (effect_at nodes place k v) o (set nodes place (node_after nodes place k v)) new) none has.goes in (
          quiet_step nodes ends out end position d.is place d.first k v has.is_least early none ∙ (λ i. Some (sym has.reported i, net_state (sym is_ran i) end)),
          subst (λ (n : List NodeState). IsNet n ends (replicate 16 []) end (position + 1)) (sym is_ran) (quiet_net nodes ends out end position d.is place d.first k v has.is_least early none d.fits),
        )
    by_leaving (Some l) left =
        let is_last : new ≡ last nodes ends out end position d.is place d.first k v has.is_least early l left = subst (λ o. GoneOn (HaveCome ends) (effect_at nodes place k v) o (set nodes place (node_after nodes place k v)) new) left has.goes in (
          come_step nodes ends out end position d.is place d.first k v has.is_least early l left ∙ (λ i. Some (sym has.reported i, net_state (sym is_last i) end)),
          subst (λ (n : List NodeState). IsNet n ends (replicate 16 []) end (position + 1)) (sym is_last) (come_net nodes ends out end position d.is place d.first k v has.is_least early l left d.fits),
        )

    both : (step (net_state nodes end) ≡ Some (line, net_state new end)) × IsNet new ends (replicate 16 []) end (position + 1)
    both = by_leaving (effect_at nodes place k v).leaving refl

    pub is_step : Stepped (reached nodes end position) (Some line) (reached new end (position + 1))
    is_step = (both.0, refl)

    pub is_net : (after : List (List Stamped)) → after ≡ replicate 16 [] → IsNet new ends after end (position + 1)
    is_net after empty = subst (λ (o : List (List Stamped)). IsNet new ends o end (position + 1)) (sym empty) both.1
