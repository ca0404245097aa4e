-- A node and one of its links change, and the changes of a row are made.
use Rattle.std.proofs.Common.{◌≡◌, ◌≢◌, ℕ, ◌<◌, ◌≤◌, length, set, refl, sym, ap, subst, ◌∙◌, Option, arith, inl, inr, ◌⊎◌, ⊎_elim}
use Rattle.std.proofs.lemmas.Bool.{cases_eq, cases_lt}
use Rattle.std.proofs.lemmas.List.{get_or-set_same, get_or-set_other, length-set}
use Rattle.std.proofs.Math.ListN.{get_or-eq_default}
use Rattle.std.specs.FinMap as map
use Rattle.sim_time.specs.declared.key.Key.{Key}
use Rattle.port.specs.Port.{PortStep}
use Rattle.node_core.specs.declared.timer.Timer.{Timer}
use Rattle.node_core.specs.declared.event.Event.{Event}
use Rattle.node_core.specs.declared.role.Role.{Role}
use Rattle.node_core.specs.Timers.{timer_key}
use Rattle.node_core.specs.Part.{LinkState, PartState, link_at, no_link}
use Rattle.node_core.specs.Row.{Effect, with_step, timer_moved}
use Rattle.tournament.specs.Keyed.{apply}
use Rattle.table_run.specs.State.{State, part_at, no_part, stepped}
use Rattle.table_run.specs.Sound.{IsLinkOf}
use Rattle.table_run.proofs.PortMoves.{StaysLink}
use Rattle.table_run.proofs.Changes.{row_changes}

-- what a row makes of a node: its role, the timer that moves, and what is done at one of its links
pub record Shape : Type 0 where
  pub role : Role
  pub timer : Timer
  pub event : Event
  pub old : Option ℕ
  pub new : Option ℕ
  pub index : ℕ
  pub step : PortStep

-- the effect of that
abbrev pub shaped : PartState → Key → Shape → Effect
shaped part k r = with_step part r.role (timer_moved (timer_key k.node r.timer) r.event r.old r.new) r.index r.step

abbrev pub link_before : State → Key → Shape → LinkState
link_before s k r = link_at (part_at s k.node).links r.index

abbrev pub link_after : State → Key → Shape → LinkState
link_after s k r = record (link_before s k r) { port = r.step.port }

-- the state after it
pub record IsMoved (s : State) (k : Key) (r : Shape) (t : State) : Type 0 where
  pub end_same : t.end ≡ s.end
  pub count_same : length t.parts ≡ length s.parts
  pub elsewhere : (node : ℕ) → node ≢ k.node → part_at t node ≡ part_at s node
  pub here_role : (part_at t k.node).role ≡ r.role
  pub here_links : (part_at t k.node).links ≡ set (part_at s k.node).links r.index (link_after s k r)
  pub pending_is : t.pending ≡ apply (row_changes k.node r.timer r.event r.old r.new (part_at t k.node).links r.index r.step.departure) (map.remove s.pending k)

pub node_there : (s : State) (node index : ℕ) → index < length (part_at s node).links → node < length s.parts
node_there s node index within =
    ⊎_elim (λ (less : node < length s.parts). less)
    (λ (past : length s.parts ≤ node). let none : length (part_at s node).links ≡ 0 = ap (λ (x : PartState). length x.links) (get_or-eq_default s.parts no_part past) in absurd (omega (arith, within, none)))
    (cases_lt node (length s.parts))

pub is_moved : (s : State) (k : Key) (r : Shape) → r.index < length (part_at s k.node).links → IsMoved s k r (stepped s k (shaped (part_at s k.node) k r))
is_moved s k r within =
    let there = node_there s k.node r.index within in
    let effect = shaped (part_at s k.node) k r in
    let here : part_at (stepped s k effect) k.node ≡ effect.part = get_or-set_same s.parts k.node effect.part no_part there in
    record {
      end_same = refl;
      count_same = length-set s.parts k.node effect.part;
      elsewhere = λ node other. get_or-set_other s.parts k.node node effect.part no_part other;
      here_role = ap (λ (x : PartState). x.role) here;
      here_links = ap (λ (x : PartState). x.links) here;
      pending_is = ap (λ (x : PartState). apply (row_changes k.node r.timer r.event r.old r.new x.links r.index r.step.departure) (map.remove s.pending k)) (sym here);
    }

-- the links of a node, one by one: the one that changes, and the others
pub record AtChanged (s t : State) (k : Key) (r : Shape) (node index : ℕ) : Type 0 where
  pub at_node : node ≡ k.node
  pub at_index : index ≡ r.index
  pub link_is : link_at (part_at t node).links index ≡ link_after s k r

pub record AtOther (s t : State) (k : Key) (r : Shape) (node index : ℕ) : Type 0 where
  pub apart : node ≡ k.node → index ≢ r.index
  pub link_is : link_at (part_at t node).links index ≡ link_at (part_at s node).links index

module _ (s t : State) (k : Key) (r : Shape) (M : IsMoved s k r t) (within : r.index < length (part_at s k.node).links) where
  pub changed_is : link_at (part_at t k.node).links r.index ≡ link_after s k r
  changed_is = ap (λ ls. link_at ls r.index) M.here_links ∙ get_or-set_same (part_at s k.node).links r.index (link_after s k r) no_link within

  pub link_cases : (node index : ℕ) → AtChanged s t k r node index ⊎ AtOther s t k r node index
  link_cases node index =
      ⊎_elim
      (λ (here : node ≡ k.node).
      ⊎_elim
      (λ (same : index ≡ r.index). inl (record { at_node = here; at_index = same; link_is = ap (λ n. link_at (part_at t n).links index) here ∙ ap (link_at (part_at t k.node).links) same ∙ changed_is }))
      (λ (other : index ≢ r.index). inr (record { apart = λ _. other; link_is = ap (λ n. link_at (part_at t n).links index) here ∙ ap (λ ls. link_at ls index) M.here_links ∙ get_or-set_other (part_at s k.node).links r.index index (link_after s k r) no_link other ∙ ap (λ n. link_at (part_at s n).links index) (sym here) }))
      (cases_eq index r.index))
      (λ (other : node ≢ k.node). inr (record { apart = λ here. absurd (other here); link_is = ap (λ (x : PartState). link_at x.links index) (M.elsewhere node other) }))
      (cases_eq node k.node)

  pub links_same : (node : ℕ) → length (part_at t node).links ≡ length (part_at s node).links
  links_same node =
      ⊎_elim
      (λ (here : node ≡ k.node). ap (λ n. length (part_at t n).links) here ∙ ap length M.here_links ∙ length-set (part_at s k.node).links r.index (link_after s k r) ∙ ap (λ n. length (part_at s n).links) (sym here))
      (λ (other : node ≢ k.node). ap (λ (x : PartState). length x.links) (M.elsewhere node other))
      (cases_eq node k.node)

  module _ (stays : StaysLink (link_before s k r).port r.step.port) where
    pub number_same : (node index : ℕ) → (link_at (part_at t node).links index).port.link ≡ (link_at (part_at s node).links index).port.link
    number_same node index =
        ⊎_elim
        (λ (c : AtChanged s t k r node index). ap (λ (l : LinkState). l.port.link) c.link_is ∙ stays.same_link ∙ sym (ap (λ n. (link_at (part_at s n).links index).port.link) c.at_node ∙ ap (λ i. (link_at (part_at s k.node).links i).port.link) c.at_index))
        (λ (o : AtOther s t k r node index). ap (λ (l : LinkState). l.port.link) o.link_is)
        (link_cases node index)

    -- a link of a node before is one after, and the other way round
    pub link_on : (node index number : ℕ) → IsLinkOf s node index number → IsLinkOf t node index number
    link_on node index number is = record { within = subst (λ l. index < l) (sym (links_same node)) is.within; its_number = number_same node index ∙ is.its_number }

    pub link_back : (node index number : ℕ) → IsLinkOf t node index number → IsLinkOf s node index number
    link_back node index number is = record { within = subst (λ l. index < l) (links_same node) is.within; its_number = sym (number_same node index) ∙ is.its_number }
