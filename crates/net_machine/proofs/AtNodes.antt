-- What a change of one node does to what is pending at all.
use Rattle.std.proofs.Common.{◌≡◌, ◌≢◌, ℕ, ◌<◌, List, length, set, map, sym, ap, subst, ◌∙◌, Some, None, Option, ⊎_elim, arith}
use Rattle.std.proofs.lemmas.Bool.{cases_eq}
use Rattle.std.proofs.lemmas.List.{get_or-set_same, get_or-set_other, length-set, length-map, map-set, set-get_or}
use Rattle.std.proofs.Math.ListN.{get_or-map}
use Rattle.std.specs.FinMap as fin
use Rattle.std.specs.List.{AllByRecursion}
use Rattle.sim_time.specs.declared.key.Key.{Key}
use Rattle.tournament.specs.Leading.{rank_at, Leads}
use Rattle.tournament.specs.Timed.{time_at, time_of, times_of}
use Rattle.tournament.specs.Keyed.{apply, least, next_key, EachKey}
use Rattle.tournament.specs.Gathered.{gathered, map_at, AtHome}
use Rattle.tournament.proofs.Maps.{each_apply}
use Rattle.tournament.proofs.Timed.{time-at, times_set}
use Rattle.tournament.proofs.Gathered.{rank-next, home_set, gathered-apply, gathered_has, none_gathered, IsFirst as IsFirstMap, is_first}
use Rattle.node_core.specs.declared.event.Event.{Event}
use Rattle.node_core.specs.Pending.{Events, EventChange}
use Rattle.node_core.specs.Node.{NodeState}
use Rattle.net_machine.specs.Nodes.{no_node, node_at, pendings, next_keys, next_times, net_pending, IsPlaced, IsFirst}

pub pending_at : (nodes : List NodeState) (i : ℕ) → map_at (pendings nodes) i ≡ (node_at nodes i).pending
pending_at nodes i = get_or-map (λ (n : NodeState). n.pending) nodes i no_node

module _ (nodes : List NodeState) (placed : IsPlaced nodes) where
  -- a node changes by changes at it
  module _ (i : ℕ) (within : i < length nodes) (x : NodeState) (number : x.number ≡ (node_at nodes i).number) (cs : List EventChange) (here : AllByRecursion (λ (c : EventChange). c.0.node ≡ i) cs)
      (change : x.pending ≡ apply cs (node_at nodes i).pending) where
    pending_within : i < length (pendings nodes)
    pending_within = omega (arith, within, length-map nodes (λ (n : NodeState). n.pending))

    changed_map : x.pending ≡ apply cs (map_at (pendings nodes) i)
    changed_map = change ∙ ap (apply cs) (sym (pending_at nodes i))

    pub placed_set : IsPlaced (set nodes i x)
    placed_set = record {
      number = λ j under.
          let inside : j < length nodes = subst (λ n. j < n) (length-set nodes i x) under in
          ⊎_elim
          (λ (at : j ≡ i). ap (λ (n : NodeState). n.number) (ap (node_at (set nodes i x)) at ∙ get_or-set_same nodes i x no_node within) ∙ number ∙ placed.number i within ∙ sym at)
          (λ (apart : j ≢ i). ap (λ (n : NodeState). n.number) (get_or-set_other nodes i j x no_node apart) ∙ placed.number j inside)
          (cases_eq j i);
      at_home = subst (AtHome (λ k. k.node)) (sym (map-set (λ (n : NodeState). n.pending) nodes i x))
          (home_set (λ k. k.node) (pendings nodes) placed.at_home i pending_within x.pending
          (subst (EachKey (λ k. k.node ≡ i)) (sym changed_map) (each_apply (λ k. k.node ≡ i) cs (map_at (pendings nodes) i) here (placed.at_home i))));
    }

    pub pending_set : net_pending (set nodes i x) ≡ apply cs (net_pending nodes)
    pending_set =
        ap gathered (map-set (λ (n : NodeState). n.pending) nodes i x ∙ ap (set (pendings nodes) i) changed_map)
        ∙ gathered-apply (λ k. k.node) cs (pendings nodes) placed.at_home i pending_within here

  -- a key of a node is pending in the net
  pub node_key : (i : ℕ) (k : Key) (v : Event) → fin.get (node_at nodes i).pending k ≡ Some v → fin.get (net_pending nodes) k ≡ Some v
  node_key i k v there = gathered_has (λ q. q.node) (pendings nodes) placed.at_home i k v (ap (λ (m : Events). fin.get m k) (pending_at nodes i) ∙ there)

-- the next key of each node, by its place
pub next_at : (nodes : List NodeState) (i : ℕ) → rank_at (next_keys nodes) i ≡ next_key (node_at nodes i).pending
next_at nodes i = rank-next (pendings nodes) i ∙ ap next_key (pending_at nodes i)

-- and its time
pub next_time_at : (nodes : List NodeState) (i : ℕ) → time_at (next_times nodes) i ≡ time_of (next_key (node_at nodes i).pending)
next_time_at nodes i = time-at (next_keys nodes) i ∙ ap time_of (next_at nodes i)

pub length-next_times : (nodes : List NodeState) → length (next_times nodes) ≡ length nodes
length-next_times nodes = length-map (next_keys nodes) time_of ∙ length-map (pendings nodes) next_key ∙ length-map nodes (λ (n : NodeState). n.pending)

-- the next keys follow a node
next_set : (nodes : List NodeState) (i : ℕ) (x : NodeState) → next_keys (set nodes i x) ≡ set (next_keys nodes) i (next_key x.pending)
next_set nodes i x = ap (map next_key) (map-set (λ (n : NodeState). n.pending) nodes i x) ∙ map-set next_key (pendings nodes) i x.pending

-- so does the timetable
pub timed_set : (nodes : List NodeState) (times : List (Option ℕ)) (i : ℕ) (x : NodeState) → times ≡ next_times nodes → set times i (time_of (next_key x.pending)) ≡ next_times (set nodes i x)
timed_set nodes times i x is = ap (λ t. set t i (time_of (next_key x.pending))) is ∙ sym (ap times_of (next_set nodes i x) ∙ times_set (next_keys nodes) i (next_key x.pending))

-- and it stands where the node's next key does
pub timed_stays : (nodes : List NodeState) (times : List (Option ℕ)) (i : ℕ) (x : NodeState) → times ≡ next_times nodes → next_key x.pending ≡ next_key (node_at nodes i).pending → times ≡ next_times (set nodes i x)
timed_stays nodes times i x is same = is ∙ ap times_of (sym (next_set nodes i x ∙ ap (set (next_keys nodes) i) (same ∙ sym (next_at nodes i)) ∙ set-get_or (next_keys nodes) i None))

module _ (nodes : List NodeState) (placed : IsPlaced nodes) where
  pub net_none : ((place : ℕ) → rank_at (next_keys nodes) place ≡ None) → least (net_pending nodes) ≡ None
  net_none none = none_gathered (λ k. k.node) (pendings nodes) placed.at_home none

  first_map : (i : ℕ) (key : Key) → Leads (next_keys nodes) i key → IsFirstMap (λ k. k.node) (pendings nodes) i key
  first_map i key leads = is_first (λ k. k.node) (pendings nodes) placed.at_home i key leads

  -- the node that leads
  pub first_node : (i : ℕ) (key : Key) → Leads (next_keys nodes) i key → IsFirst nodes i
  first_node i key leads =
      let first = first_map i key leads in
      record {
        within = omega (arith, first.within, length-map nodes (λ (n : NodeState). n.pending));
        same = first.same ∙ ap least (pending_at nodes i);
      }

  pub first_key : (i : ℕ) (key : Key) → Leads (next_keys nodes) i key → Some key ≡ next_key (net_pending nodes)
  first_key i key leads =
      let first = first_map i key leads in
      sym first.next ∙ sym (ap (Rattle.std.specs.Option.option_map (λ (entry : Key × Event). entry.0)) first.same)
