-- What the links between nodes are after one of them has run its event, and after packets have come to another.
use Rattle.std.proofs.Common.{◌≡◌, ◌≢◌, ℕ, ◌+◌, ◌<◌, ◌≤◌, List, length, set, refl, sym, ap, subst, ◌∙◌, Some, Option, ⊎_elim, arith}
use Rattle.std.proofs.lemmas.Bool.{cases_eq}
use Rattle.std.proofs.lemmas.List.{get_or-set_same, get_or-set_other, length-set}
use Rattle.packet_chain.specs.Stamped.{Stamped}
use Rattle.node_core.specs.EventQueueState.{Incoming, incoming_at, no_incoming}
use Rattle.node_core.specs.Part.{LinkState, link_at}
use Rattle.node_core.specs.Row.{Leaving}
use Rattle.node_core.specs.Node.{NodeState, delivered}
use Rattle.net_machine.specs.Nodes.{no_node, node_at}
use Rattle.table_run.proofs.Ready.{IsSameLink, LinksStay}

-- what holds of a node that is put in place, and of the others
pub at_each : (nodes : List NodeState) (i : ℕ) (x : NodeState) → i < length nodes → (P : ℕ → NodeState → Type 0) → P i x → ((j : ℕ) → j ≢ i → P j (node_at nodes j)) → (j : ℕ) → P j (node_at (set nodes i x) j)
at_each nodes i x within P here there j =
    ⊎_elim
    (λ (at : j ≡ i). subst (λ n. P n (node_at (set nodes i x) n)) (sym at) (subst (P i) (sym (get_or-set_same nodes i x no_node within)) here))
    (λ (apart : j ≢ i). subst (P j) (sym (get_or-set_other nodes i j x no_node apart)) (there j apart))
    (cases_eq j i)

pub same_itself : (l : LinkState) → IsSameLink l l
same_itself l = record { same_to = refl; same_number = refl; same_rate = refl; same_delay = refl }

-- a node has run its event
module _ (nodes after : List NodeState) (place : ℕ) (inside : place < length nodes) (x : NodeState) (others : after ≡ set nodes place x) (same_in : x.incoming ≡ (node_at nodes place).incoming) (leaving : Option Leaving) (stay : LinksStay (node_at nodes place).part.links x.part.links leaving) where
  at_nodes : (P : ℕ → NodeState → Type 0) → P place x → ((i : ℕ) → i ≢ place → P i (node_at nodes i)) → (i : ℕ) → P i (node_at after i)
  at_nodes P here there i = subst (λ (all : List NodeState). P i (node_at all i)) (sym others) (at_each nodes place x inside P here there i)

  pub same_link : (i j : ℕ) → IsSameLink (link_at (node_at nodes i).part.links j) (link_at (node_at after i).part.links j)
  same_link i j = at_nodes (λ n (y : NodeState). IsSameLink (link_at (node_at nodes n).part.links j) (link_at y.part.links j)) (stay.same_links j) (λ n apart. same_itself (link_at (node_at nodes n).part.links j)) i

  pub same_count : (i : ℕ) → length (node_at after i).part.links ≡ length (node_at nodes i).part.links
  same_count i = at_nodes (λ n (y : NodeState). length y.part.links ≡ length (node_at nodes n).part.links) stay.same_length (λ n apart. refl) i

  pub same_coming : (i : ℕ) → (node_at after i).incoming ≡ (node_at nodes i).incoming
  same_coming i = at_nodes (λ n (y : NodeState). y.incoming ≡ (node_at nodes n).incoming) same_in (λ n apart. refl) i

  -- a link over which nothing left has sent no more
  pub same_sent : (i j : ℕ) → ((l : Leaving) → leaving ≡ Some l → i ≡ place → j ≢ l.index) → (link_at (node_at after i).part.links j).port.sent ≡ (link_at (node_at nodes i).part.links j).port.sent
  same_sent i j other =
      at_nodes (λ n (y : NodeState). n ≡ i → (link_at y.part.links j).port.sent ≡ (link_at (node_at nodes n).part.links j).port.sent)
      (λ at. stay.others_sent j (λ l is. other l is (sym at))) (λ n apart at. refl) i refl

  pub same_elsewhere : (i : ℕ) → i ≢ place → node_at after i ≡ node_at nodes i
  same_elsewhere i apart = ap (λ (all : List NodeState). node_at all i) others ∙ get_or-set_other nodes place i x no_node apart

-- packets have come to a node over one of its incoming links
module _ (nodes after : List NodeState) (place index : ℕ) (packets : List Stamped) (inside : place < length nodes) (within : index < length (node_at nodes place).incoming) (come : after ≡ set nodes place (delivered (node_at nodes place) index packets)) where
  abbrev new : NodeState
  new = delivered (node_at nodes place) index packets

  at_all : (P : ℕ → NodeState → Type 0) → P place new → ((i : ℕ) → i ≢ place → P i (node_at nodes i)) → (i : ℕ) → P i (node_at after i)
  at_all P here there i = subst (λ (all : List NodeState). P i (node_at all i)) (sym come) (at_each nodes place new inside P here there i)

  pub same_part : (i : ℕ) → (node_at after i).part ≡ (node_at nodes i).part
  same_part i = at_all (λ n (y : NodeState). y.part ≡ (node_at nodes n).part) refl (λ n apart. refl) i

  pub coming_count : (i : ℕ) → length (node_at after i).incoming ≡ length (node_at nodes i).incoming
  coming_count i = at_all (λ n (y : NodeState). length y.incoming ≡ length (node_at nodes n).incoming) (length-set (node_at nodes place).incoming index _) (λ n apart. refl) i

  abbrev over : Incoming
  over = incoming_at (node_at nodes place).incoming index

  abbrev more : Incoming
  more = record over { came = over.came + length packets }

  -- what is so of the incoming link, and of the others
  at_coming : (P : ℕ → ℕ → Incoming → Type 0) → P place index more → ((i j : ℕ) → ((i ≡ place) × (j ≡ index) → ⊥) → P i j (incoming_at (node_at nodes i).incoming j)) → (i j : ℕ) → P i j (incoming_at (node_at after i).incoming j)
  at_coming P here there i j =
      at_all (λ n (y : NodeState). P n j (incoming_at y.incoming j))
      (⊎_elim
      (λ (at : j ≡ index). subst (λ m. P place m (incoming_at (set (node_at nodes place).incoming index more) m)) (sym at) (subst (P place index) (sym (get_or-set_same (node_at nodes place).incoming index more no_incoming within)) here))
      (λ (apart : j ≢ index). subst (P place j) (sym (get_or-set_other (node_at nodes place).incoming index j more no_incoming apart)) (there place j (λ both. apart both.1)))
      (cases_eq j index))
      (λ n apart. there n j (λ both. apart both.0)) i

  pub coming_link : (i j : ℕ) → (incoming_at (node_at after i).incoming j).link ≡ (incoming_at (node_at nodes i).incoming j).link
  coming_link i j = at_coming (λ n m (x : Incoming). x.link ≡ (incoming_at (node_at nodes n).incoming m).link) refl (λ n m apart. refl) i j

  pub coming_others : (i j : ℕ) → ((i ≡ place) × (j ≡ index) → ⊥) → (incoming_at (node_at after i).incoming j).came ≡ (incoming_at (node_at nodes i).incoming j).came
  coming_others i j other = at_coming (λ n m (x : Incoming). ((n ≡ place) × (m ≡ index) → ⊥) → x.came ≡ (incoming_at (node_at nodes n).incoming m).came) (λ off. absurd (off (refl, refl))) (λ n m apart off. refl) i j other

  pub coming_here : (incoming_at (node_at after place).incoming index).came ≡ over.came + length packets
  coming_here = ap (λ (all : List NodeState). (incoming_at (node_at all place).incoming index).came) come
      ∙ ap (λ (y : NodeState). (incoming_at y.incoming index).came) (get_or-set_same nodes place new no_node inside)
      ∙ ap (λ (x : Incoming). x.came) (get_or-set_same (node_at nodes place).incoming index more no_incoming within)

  pub coming_more : (i j : ℕ) → (incoming_at (node_at nodes i).incoming j).came ≤ (incoming_at (node_at after i).incoming j).came
  coming_more i j = at_coming (λ n m (x : Incoming). (incoming_at (node_at nodes n).incoming m).came ≤ x.came) (omega arith) (λ n m apart. omega arith) i j
