-- The senders after a step of the run.
use Rattle.std.proofs.Common.{◌≡◌, ◌≢◌, ℕ, ◌<◌, ◌≤◌, length, get_or, set, sym, ap, ◌∙◌, Option, Some, None, arith, ⊎_elim}
use Rattle.std.specs.Option.{option_map}
use Rattle.std.proofs.lemmas.Bool.{cases_eq, cases_lt}
use Rattle.std.proofs.Math.ListN.{get_or-eq_default}
use Rattle.std.proofs.lemmas.List.{get_or-set_same, get_or-set_other, length-set}
use Rattle.sim_time.specs.declared.key.Key.{Key}
use Rattle.node_core.specs.declared.event.Event.{Event}
use Rattle.node_core.specs.Part.{PartState, sender_in}
use Rattle.node_core.specs.Row.{row}
use Rattle.node_core.specs.TraceLine.{TraceLine}
use Rattle.tournament.proofs.Maps.{not_some, same_some}
use Rattle.table_run.specs.State.{State, no_part, part_at, due, step_at, step}
use Rattle.figures.specs.Moments.{cause_of}
use Rattle.figures.proofs.Rows.{after_event, row_keeps, row_links}

-- a step is that of the event that is due
pub record IsStep (s : State) (line : TraceLine) (t : State) : Type 0 where
  pub parts : t.parts ≡ set s.parts line.key.node (row (part_at s line.key.node) line.key line.event).part
  pub acts : line.acts ≡ (row (part_at s line.key.node) line.key line.event).acts

of_due : (s : State) (o : Option (Key × Event)) (line : TraceLine) (t : State) → option_map (step_at s) o ≡ Some (line, t) → IsStep s line t
of_due s None line t e = absurd (not_some e)
of_due s (Some entry) line t e =
    let same : step_at s entry ≡ (line, t) = same_some (step_at s entry) (line, t) e in
    let its_line : (step_at s entry).0 ≡ line = ap (λ (x : TraceLine × State). x.0) same in
    let key : entry.0 ≡ line.key = ap (λ (l : TraceLine). l.key) its_line in
    let event : entry.1 ≡ line.event = ap (λ (l : TraceLine). l.event) its_line in
    record {
      parts = ap (λ (x : TraceLine × State). x.1.parts) (sym same)
          ∙ ap (λ (k : Key). set s.parts k.node (row (part_at s k.node) k entry.1).part) key
          ∙ ap (λ (v : Event). set s.parts line.key.node (row (part_at s line.key.node) line.key v).part) event;
      acts = ap (λ (l : TraceLine). l.acts) (sym its_line) ∙ ap (λ (k : Key). (row (part_at s k.node) k entry.1).acts) key ∙ ap (λ (v : Event). (row (part_at s line.key.node) line.key v).acts) event;
    }

pub is_step : (s : State) (line : TraceLine) (t : State) → step s ≡ Some (line, t) → IsStep s line t
is_step s line t e = of_due s (due s) line t e

pub size_stays : (s : State) (line : TraceLine) (t : State) → IsStep s line t → length t.parts ≡ length s.parts
size_stays s line t is = ap length is.parts ∙ length-set s.parts line.key.node (row (part_at s line.key.node) line.key line.event).part

-- the node of the event
pub sender_here : (s : State) (line : TraceLine) (t : State) → IsStep s line t → sender_in (part_at t line.key.node).role ≡ after_event (sender_in (part_at s line.key.node).role) (cause_of line.event) line.key.time
sender_here s line t is =
    ⊎_elim
    (λ (within : line.key.node < length s.parts).
    let part : part_at t line.key.node ≡ (row (part_at s line.key.node) line.key line.event).part =
    ap (λ ps. get_or ps line.key.node no_part) is.parts ∙ get_or-set_same s.parts line.key.node (row (part_at s line.key.node) line.key line.event).part no_part within in
    ap (λ (p : PartState). sender_in p.role) part ∙ row_keeps (part_at s line.key.node) line.key line.event)
    (λ (past : length s.parts ≤ line.key.node).
    let none : part_at s line.key.node ≡ no_part = get_or-eq_default s.parts no_part past in
    let size : length t.parts ≤ line.key.node = omega (arith, past, size_stays s line t is) in
    let still : part_at t line.key.node ≡ no_part = get_or-eq_default t.parts no_part size in
    ap (λ (p : PartState). sender_in p.role) still ∙ sym (ap (λ (p : PartState). after_event (sender_in p.role) (cause_of line.event) line.key.time) none))
    (cases_lt line.key.node (length s.parts))

-- the others
pub part_elsewhere : (s : State) (line : TraceLine) (t : State) → IsStep s line t → (node : ℕ) → node ≢ line.key.node → part_at t node ≡ part_at s node
part_elsewhere s line t is node other =
    ap (λ ps. get_or ps node no_part) is.parts ∙ get_or-set_other s.parts line.key.node node (row (part_at s line.key.node) line.key line.event).part no_part other

pub sender_elsewhere : (s : State) (line : TraceLine) (t : State) → IsStep s line t → (node : ℕ) → node ≢ line.key.node → sender_in (part_at t node).role ≡ sender_in (part_at s node).role
sender_elsewhere s line t is node other = ap (λ (p : PartState). sender_in p.role) (part_elsewhere s line t is node other)

-- the node of the event is what its row leaves
pub part_here : (s : State) (line : TraceLine) (t : State) → IsStep s line t → line.key.node < length s.parts → part_at t line.key.node ≡ (row (part_at s line.key.node) line.key line.event).part
part_here s line t is within =
    ap (λ ps. get_or ps line.key.node no_part) is.parts ∙ get_or-set_same s.parts line.key.node (row (part_at s line.key.node) line.key line.event).part no_part within

-- each node keeps its number of links
pub links_stay : (s : State) (line : TraceLine) (t : State) → IsStep s line t → (node : ℕ) → node < length s.parts → length (part_at t node).links ≡ length (part_at s node).links
links_stay s line t is node within =
    ⊎_elim
    (λ (here : node ≡ line.key.node).
    let at : part_at t node ≡ (row (part_at s line.key.node) line.key line.event).part =
    ap (λ ps. get_or ps node no_part) is.parts ∙ ap (λ n. get_or (set s.parts line.key.node (row (part_at s line.key.node) line.key line.event).part) n no_part) here
    ∙ get_or-set_same s.parts line.key.node (row (part_at s line.key.node) line.key line.event).part no_part (omega (arith, within, here)) in
    ap (λ (p : PartState). length p.links) at ∙ row_links (part_at s line.key.node) line.key line.event ∙ ap (λ n. length (part_at s n).links) (sym here))
    (λ (apart : node ≢ line.key.node). ap (λ (p : PartState). length p.links) (part_elsewhere s line t is node apart))
    (cases_eq node line.key.node)
