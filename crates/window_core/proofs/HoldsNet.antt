-- The group states of a net together hold its state.
use Rattle.std.proofs.Common.{◌≡◌, ℕ, ◌<◌, ◌≤◌, ◌==◌, cond, List, [], length, refl, sym, ap, ◌∙◌, None, get_or, ⊎_elim, arith}
use Rattle.std.proofs.lemmas.Bool.{cases_lt, ne_eqb}
use Rattle.std.proofs.lemmas.List.{length-map, get_or_past}
use Rattle.std.proofs.Math.ListN.{get_or-map}
use Rattle.std.specs.FinMap.{get, get-empty}
use Rattle.sim_time.specs.declared.key.Key.{Key}
use Rattle.tournament.specs.Keyed.{nothing_due}
use Rattle.node_core.specs.declared.event.Event.{Event}
use Rattle.node_core.specs.Node.{NodeState}
use Rattle.node_core.specs.WireState.{WireState}
use Rattle.table_run.specs.State.{State, no_part, part_at}
use Rattle.net_machine.specs.declared.places.LinkEnds.{LinkEnds}
use Rattle.net_machine.specs.Nodes.{no_node, net_state, IsPlaced}
use Rattle.net_partition.specs.Partition.{group_in}
use Rattle.node_group.specs.Seats.{Seats, seated}
use Rattle.window_law.specs.Groups.{GroupState, no_group, group_at}
use Rattle.window_law.specs.Standing.{Stands}
use Rattle.node_group.specs.Group.{state_of}
use Rattle.node_group.specs.GroupStates.{AreSeatsOf, AreIdle}
use Rattle.node_group.proofs.Seated.{length-seated}
use Rattle.node_group.proofs.OfNet.{mine, past_seats, pending_mine, idle_none}

-- a group holds what is its own of a state
pub record HoldsPart (group : ℕ → ℕ) (s : State) (h : ℕ) (g : GroupState) : Type 0 where
  pub size : length g.parts ≡ length s.parts
  pub parts : (node : ℕ) → group node ≡ h → part_at s node ≡ get_or g.parts node no_part
  pub pending : (k : Key) → get g.pending k ≡ cond (group k.node == h) (get s.pending k) None
  pub held : g.held ≡ nothing_due Event
  pub lines : g.lines ≡ []

pub group_state_holds : (nodes : List NodeState) (links : List LinkEnds) (end position : ℕ) (placed : IsPlaced nodes) (entries : List ℕ) (size : length entries ≡ length nodes) (number until : ℕ) (seats : Seats) (held : List WireState) (are : AreSeatsOf entries number nodes seats) (idle : AreIdle links nodes held)
    → HoldsPart (group_in entries) (net_state nodes end) number (state_of record { number = number; entries = entries; links = links; seats = seats; held = held; lines = []; until = until; position = position })
group_state_holds nodes links end position placed entries size number until seats held are idle = record {
  size =
      length-map (seated seats) (λ (n : NodeState). n.part) ∙ length-seated seats ∙ are.count ∙ size ∙ sym (length-map nodes (λ (n : NodeState). n.part));
  parts = λ node own.
      get_or-map (λ (n : NodeState). n.part) nodes node no_node
      ∙ ap (λ (n : NodeState). n.part) (sym (here node own))
      ∙ sym (get_or-map (λ (n : NodeState). n.part) (seated seats) node no_node);
  pending = pending_mine entries number nodes seats are placed size;
  held = idle_none links nodes held idle;
  lines = refl;
}
  where
    here : (node : ℕ) → group_in entries node ≡ number → get_or (seated seats) node no_node ≡ get_or nodes node no_node
    here node own =
        ⊎_elim
        (λ (under : node < length entries). mine entries number nodes seats are node under own)
        (λ (past : length entries ≤ node). past_seats entries number nodes seats are node past ∙ sym (get_or_past nodes node no_node (omega (arith, past, size))))
        (cases_lt node (length entries))

-- groups that hold each its own hold the state
pub all_stand : (group : ℕ → ℕ) (s : State) (groups : List GroupState) → ((node : ℕ) → group node < length groups) → ((h : ℕ) → h < length groups → HoldsPart group s h (group_at groups h)) → Stands group s groups
all_stand group s groups few each = record {
  few = few;
  sizes = λ node. (each (group node) (few node)).size;
  parts = λ node. (each (group node) (few node)).parts node refl;
  pending = λ h k.
      ⊎_elim
      (λ (under : h < length groups). (each h under).pending k)
      (λ (past : length groups ≤ h).
      let under = few k.node in
      ap (λ (g : GroupState). get g.pending k) (get_or_past groups h no_group past) ∙ get-empty _ k
      ∙ sym (ap (λ b. cond b (get s.pending k) None) (ne_eqb (group k.node) h (λ same. absurd (let no : ⊥ = omega (arith, under, past, same) in no)))))
      (cases_lt h (length groups));
  held = λ h.
      ⊎_elim
      (λ (under : h < length groups). (each h under).held)
      (λ (past : length groups ≤ h). ap (λ (g : GroupState). g.held) (get_or_past groups h no_group past))
      (cases_lt h (length groups));
  lines = λ h.
      ⊎_elim
      (λ (under : h < length groups). (each h under).lines)
      (λ (past : length groups ≤ h). ap (λ (g : GroupState). g.lines) (get_or_past groups h no_group past))
      (cases_lt h (length groups));
}
