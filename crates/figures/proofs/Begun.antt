-- The figures of a run, before an event and after it.
use Rattle.std.proofs.Common.{◌≡◌, ℕ, ◌<◌, ◌≤◌, List, [], length, get_or, sym, ap, subst, ◌∙◌, arith, Option, ⊎_elim}
use Rattle.std.specs.Prelude.{IfSome}
use Rattle.std.proofs.lemmas.List.{length-map}
use Rattle.std.proofs.lemmas.Bool.{cases_lt}
use Rattle.std.proofs.Math.ListN.{get_or-map, get_or-eq_default}
use Rattle.table_run.specs.Flow.{next_at}
use Rattle.node_core.specs.Part.{PartState, sender_in}
use Rattle.node_core.specs.Node.{NodeState}
use Rattle.table_run.specs.State.{State, no_part, part_at}
use Rattle.net_machine.specs.Nodes.{parts_of, no_node, node_at}
use Rattle.figures.specs.declared.sender.SenderFigures.{SenderFigures}
use Rattle.figures.specs.declared.figures.Figures.{Figures}
use Rattle.figures.specs.Turns.{Keeps}
use Rattle.figures.specs.Senders.{IsBegun, completed_of}
use Rattle.figures.specs.Moments.{Moment, turns_at}
use Rattle.figures.specs.Figures.{AreAfter}

pub part_is : (nodes : List NodeState) (s : State) (place : ℕ) → parts_of nodes ≡ s.parts → (node_at nodes place).part ≡ part_at s place
part_is nodes s place is = sym (get_or-map (λ (n : NodeState). n.part) nodes place no_node) ∙ ap (λ ps. get_or ps place no_part) is

pub begun_is : (since before : ℕ) (earlier : List Moment) (done : ℕ → Option ℕ) (nodes : List NodeState) (s : State) (f : Figures) → parts_of nodes ≡ s.parts → length f.senders.items ≡ length nodes →
    ((place : ℕ) (other : SenderFigures) → place < length nodes → IsBegun (done place) (node_at nodes place).part.role (get_or f.senders.items place other)) →
    ((node : ℕ) → node < length s.parts → done node ≡ completed_of (turns_at node earlier)) → AreAfter (record { since = since; state = s; before = before; earlier = earlier }) [] s f
begun_is since before earlier done nodes s f parts size each completed =
    let count : length s.parts ≡ length nodes = ap length (sym parts) ∙ length-map nodes (λ (n : NodeState). n.part) in
    record {
      size = size ∙ sym count;
      each = λ node other within.
          let is : IsBegun (done node) (node_at nodes node).part.role (get_or f.senders.items node other) = each node other (omega (arith, within, count)) in
          record {
            counted = is.figures (turns_at node earlier) (completed node within);
            keeps = subst (λ (p : PartState). IfSome (sender_in p.role) (λ found. Keeps (get_or f.senders.items node other).kept found.1)) (part_is nodes s node parts) is.keeps;
          };
    }

-- the next bytes for which the receivers wait, none's being 0
pub received_are : (nodes : List NodeState) (s : State) (all : List ℕ) → parts_of nodes ≡ s.parts → length all ≡ length nodes → ((place other : ℕ) → place < length nodes → get_or all place other ≡ next_at (node_at nodes place).part.role)
    → (node : ℕ) → get_or all node 0 ≡ next_at (part_at s node).role
received_are nodes s all parts size each node =
    let count : length s.parts ≡ length nodes = ap length (sym parts) ∙ length-map nodes (λ (n : NodeState). n.part) in
    ⊎_elim
    (λ (within : node < length nodes). each node 0 within ∙ ap (λ (p : PartState). next_at p.role) (part_is nodes s node parts))
    (λ (past : length nodes ≤ node).
    get_or-eq_default all 0 (omega (arith, past, size)) ∙ ap (λ (p : PartState). next_at p.role) (sym (get_or-eq_default s.parts no_part (omega (arith, past, count)))))
    (cases_lt node (length nodes))
