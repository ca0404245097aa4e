-- The node at which an event is due is the first.
use Rattle.std.proofs.Common.{◌≡◌, ◌≢◌, ℕ, ◌<◌, ◌≤◌, List, length, refl, sym, ap, subst, ◌∙◌, Some, None, Option, cond, ⊎_elim}
use Rattle.std.proofs.lemmas.Bool.{cases_lt, lt-ltb}
use Rattle.std.proofs.lemmas.List.{length-map}
use Rattle.std.proofs.Math.ListN.{get_or-eq_default}
use Rattle.std.specs.Option.{option_map}
use Rattle.sim_time.specs.declared.key.Key.{Key}
use Rattle.tournament.specs.Keyed.{nothing_due, least, next_key}
use Rattle.tournament.specs.Gathered.{map_at}
use Rattle.tournament.proofs.Maps.{not_some, same_some, least_is, is_least}
use Rattle.tournament.proofs.Gathered.{next_empty, get-gathered, gathered_has}
use Rattle.node_core.specs.declared.event.Event.{Event}
use Rattle.node_core.specs.Node.{NodeState}
use Rattle.table_run.specs.State.{below, due}
use Rattle.table_run.proofs.Due.{of_below}
use Rattle.net_machine.specs.declared.due.Due.{Due}
use Rattle.net_machine.specs.Due.{due_of}
use Rattle.net_machine.specs.Run.{Reached}
use Rattle.net_machine.specs.Nodes.{node_at, pendings, net_pending, net_state, reached, IsPlaced, IsFirst}
use Rattle.net_machine.proofs.AtNodes.{pending_at}

-- an event is due at a node
pub record IsDueAt (nodes : List NodeState) (end node : ℕ) : Type 0 where
  pub key : Key
  pub event : Event
  pub is : least (net_pending nodes) ≡ Some (key, event)
  pub next : Some key ≡ next_key (net_pending nodes)
  pub in_time : key.time < end
  pub at : key.node ≡ node

of_entry : (nodes : List NodeState) (end node : ℕ) (o : Option (Key × Event)) → due (net_state nodes end) ≡ o → option_map (λ (entry : Key × Event). entry.0.node) o ≡ Some node → IsDueAt nodes end node
of_entry nodes end node None is at = absurd (not_some at)
of_entry nodes end node (Some entry) is at =
    let both = of_below end (least (net_pending nodes)) entry.0 entry.1 is in
    record { key = entry.0; event = entry.1; is = both.0; next = sym (ap (option_map (λ (e : Key × Event). e.0)) both.0); in_time = both.1; at = same_some entry.0.node node at }

pub due_at : (nodes : List NodeState) (end position node : ℕ) (r : Reached) → reached nodes end position ≡ r → option_map (λ (entry : Key × Event). entry.0.node) (due r.state) ≡ Some node → IsDueAt nodes end node
due_at nodes end position node r same at =
    of_entry nodes end node (due (net_state nodes end)) refl (ap (λ (x : Reached). option_map (λ (entry : Key × Event). entry.0.node) (due x.state)) same ∙ at)

module _ (nodes : List NodeState) (placed : IsPlaced nodes) (key : Key) (event : Event) (is : least (net_pending nodes) ≡ Some (key, event)) where
  -- the least of all is the least at its node
  here : least (map_at (pendings nodes) key.node) ≡ Some (key, event)
  here =
      let first = least_is (net_pending nodes) key event is in
      is_least (map_at (pendings nodes) key.node) key event (record {
        pending = sym (get-gathered (λ k. k.node) (pendings nodes) placed.at_home key) ∙ first.pending;
        none_less = λ q w there. first.none_less q w (gathered_has (λ k. k.node) (pendings nodes) placed.at_home key.node q w there);
      })

  within : key.node < length nodes
  within =
      ⊎_elim
      (λ (less : key.node < length nodes). less)
      (λ (past : length nodes ≤ key.node).
      let past_all : length (pendings nodes) ≤ key.node = subst (λ n. n ≤ key.node) (sym (length-map nodes (λ (n : NodeState). n.pending))) past in
      let none : map_at (pendings nodes) key.node ≡ nothing_due Event = get_or-eq_default (pendings nodes) (nothing_due Event) past_all in
      absurd (not_some (sym (next_empty Event) ∙ ap next_key (sym none) ∙ ap (option_map (λ (entry : Key × Event). entry.0)) here)))
      (cases_lt key.node (length nodes))

  pub first_here : IsFirst nodes key.node
  first_here = record { within = within; same = is ∙ sym here ∙ ap least (pending_at nodes key.node) }

-- so is the node at which an event is due
pub first_due : (nodes : List NodeState) → IsPlaced nodes → (end node place : ℕ) → IsDueAt nodes end node → place ≡ node → IsFirst nodes place
first_due nodes placed end node place due_is same = subst (IsFirst nodes) (due_is.at ∙ sym same) (first_here nodes placed due_is.key due_is.event due_is.is)

-- and something is pending at it
pub pending_first : (nodes : List NodeState) (end node place : ℕ) → IsDueAt nodes end node → IsFirst nodes place → next_key (node_at nodes place).pending ≢ None
pending_first nodes end node place due_is first none = not_some (sym (due_is.next ∙ ap (option_map (λ (e : Key × Event). e.0)) first.same ∙ none))

-- where and when the event is that is due, and so at which node
pub place_due : (next : Due) (o : Option (Key × Event)) → option_map due_of o ≡ Some next → option_map (λ (entry : Key × Event). entry.0.node) o ≡ Some next.place
place_due next None is = absurd (not_some is)
place_due next (Some entry) is = ap (option_map (λ (d : Due). d.place)) is

-- the least key of the node at which an event is due is that event's
pub key_due : (nodes : List NodeState) (end node place : ℕ) → IsDueAt nodes end node → IsFirst nodes place → next_key (node_at nodes place).pending ≡ option_map (λ (entry : Key × Event). entry.0) (due (net_state nodes end))
key_due nodes end node place d first =
    sym (ap (option_map (λ (entry : Key × Event). entry.0)) first.same)
    ∙ ap (option_map (λ (entry : Key × Event). entry.0)) d.is
    ∙ sym (ap (option_map (λ (entry : Key × Event). entry.0)) (ap (below end) d.is ∙ ap (λ b. cond b (Some (d.key, d.event)) None) (lt-ltb d.key.time end d.in_time)))
