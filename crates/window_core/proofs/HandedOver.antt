-- What a group is after packets came to it from another.
use Rattle.std.proofs.Common.{◌≡◌, ◌≢◌, ◌≤◌, ◌<◌, ◌+◌, ◌==◌, ℕ, zero, suc, List, [], ◌∷◌, length, map, set, get_or, Bool, true, false, cond, refl, sym, ap, subst, ◌∙◌, ⊎_elim, arith, eq-eqb, ne_eqb}
use Rattle.std.proofs.lemmas.Bool.{cases_eq}
use Rattle.std.proofs.lemmas.List.{length-map, get_or-set_same, get_or-set_other}
use Rattle.packet_chain.specs.Stamped.{Stamped}
use Rattle.tournament.specs.Keyed.{apply, entering}
use Rattle.node_core.specs.EventQueueState.{Incoming, no_incoming, incoming_at}
use Rattle.node_core.specs.Node.{NodeState, delivered}
use Rattle.node_core.specs.Part.{PartState}
use Rattle.node_core.specs.WireState.{WireState, arrivals, arrivals_on, came_over}
use Rattle.net_machine.specs.declared.places.LinkEnds.{LinkEnds}
use Rattle.net_machine.specs.Nodes.{no_node, node_at, parts_of, net_pending}
use Rattle.net_machine.specs.Wiring.{place_at}
use Rattle.net_machine.proofs.Home.{come_pending}
use Rattle.node_group.specs.Group.{GroupValue, IsGroup, group_to, member, came_in, entry_at}
use Rattle.node_group.specs.Seats.{seated}
use Rattle.window_core.specs.Turning.{pending_in}
use Rattle.node_group.proofs.Seated.{length-seated}

parts_delivered : (nodes : List NodeState) (i index : ℕ) (packets : List Stamped) → parts_of (set nodes i (delivered (node_at nodes i) index packets)) ≡ parts_of nodes
parts_delivered [] i index packets = refl
parts_delivered (n ∷ nodes) zero index packets = refl
parts_delivered (n ∷ nodes) (suc i) index packets = ap (λ (ps : List PartState). n.part ∷ ps) (parts_delivered nodes i index packets)

module _ (g new : GroupValue) (is : IsGroup g) (link : ℕ) (under : link < length g.links) (to_it : group_to g link ≡ g.number) (packets : List Stamped) (rest : new ≡ record g { seats = new.seats })
    (nodes : seated new.seats ≡ set (seated g.seats) (place_at g.links link).node (delivered (member g (place_at g.links link).node) (place_at g.links link).index packets)) where
  abbrev place : ℕ
  place = (place_at g.links link).node

  abbrev index : ℕ
  index = (place_at g.links link).index

  many : length (seated g.seats) ≡ length g.entries
  many =
      length-seated g.seats
      ∙ sym (length-map g.seats (λ seat. Rattle.std.proofs.Common.is_some seat))
      ∙ ap length is.seats_are
      ∙ length-map g.entries (λ entry. entry == g.number)

  within : place < length (seated g.seats)
  within = let known = is.ends_known link under in omega (arith, known, many)

  pub parts_stay : parts_of (seated new.seats) ≡ parts_of (seated g.seats)
  parts_stay = ap parts_of nodes ∙ parts_delivered (seated g.seats) place index packets

  pub pending_over : (w : WireState) → w.link ≡ link → w.node ≡ place → came_in g link ≡ w.taken → packets ≡ w.under_way → pending_in new ≡ apply (entering (arrivals_on w)) (pending_in g)
  pending_over w number node came sent =
      ap net_pending nodes
      ∙ come_pending (seated g.seats) is.placed place within index packets (delivered (member g place) index packets) refl
      ∙ (λ i. apply (entering (arrivals (sym node i) (over i) (came i) (sent i))) (pending_in g))
    where
      over : (entry_at g link).link ≡ w.link
      over = (is.entries_are link under to_it).over ∙ sym number

  member_same : node_at (seated new.seats) place ≡ delivered (member g place) index packets
  member_same = ap (λ (ns : List NodeState). node_at ns place) nodes ∙ get_or-set_same (seated g.seats) place (delivered (member g place) index packets) no_node within

  came_at : ℕ → ℕ
  came_at l = (incoming_at (node_at (seated new.seats) (place_at g.links l).node).incoming (place_at g.links l).index).came

  same_links : (l : ℕ) → came_in new l ≡ (incoming_at (node_at (seated new.seats) (place_at g.links l).node).incoming (place_at g.links l).index).came
  same_links l = ap (λ (links : List LinkEnds). (incoming_at (node_at (seated new.seats) (place_at links l).node).incoming (place_at links l).index).came) (ap (λ (x : GroupValue). x.links) rest)

  pub came_here : came_in new link ≡ came_in g link + length packets
  came_here =
      same_links link
      ∙ ap (λ (n : NodeState). (incoming_at n.incoming index).came) member_same
      ∙ ap (λ (x : Incoming). x.came) (get_or-set_same (member g place).incoming index (record (entry_at g link) { came = came_in g link + length packets }) no_incoming (is.entries_are link under to_it).within)

  pub came_other : (l : ℕ) → l < length g.links → group_to g l ≡ g.number → l ≢ link → came_in new l ≡ came_in g l
  came_other l below ends off = same_links l ∙ ⊎_elim
      (λ (same : (place_at g.links l).node ≡ place).
      ap (λ n. (incoming_at (node_at (seated new.seats) n).incoming (place_at g.links l).index).came) same
      ∙ ap (λ (n : NodeState). (incoming_at n.incoming (place_at g.links l).index).came) member_same
      ∙ ap (λ (x : Incoming). x.came) (get_or-set_other (member g place).incoming index (place_at g.links l).index (record (entry_at g link) { came = came_in g link + length packets }) no_incoming (λ e. off (at_one same e)))
      ∙ ap (λ n. (incoming_at (member g n).incoming (place_at g.links l).index).came) (sym same))
      (λ (apart : (place_at g.links l).node ≢ place).
      ap (λ (ns : List NodeState). (incoming_at (node_at ns (place_at g.links l).node).incoming (place_at g.links l).index).came) nodes
      ∙ ap (λ (n : NodeState). (incoming_at n.incoming (place_at g.links l).index).came) (get_or-set_other (seated g.seats) place (place_at g.links l).node (delivered (member g place) index packets) no_node apart))
      (cases_eq (place_at g.links l).node place)
    where
      at_one : (place_at g.links l).node ≡ place → (place_at g.links l).index ≡ index → l ≡ link
      at_one node at =
          sym (is.entries_are l below ends).over
          ∙ (λ i. (incoming_at (member g (node i)).incoming (at i)).link)
          ∙ (is.entries_are link under to_it).over

  pub came_each : (w : WireState) → came_in g link ≡ w.taken → packets ≡ w.under_way → (l : ℕ) → l < length g.links → group_to g l ≡ g.number → came_in new l ≡ cond (l == link) (came_over w) (came_in g l)
  came_each w came sent l below ends =
      ⊎_elim
      (λ (same : l ≡ link).
      ap (came_in new) same ∙ came_here ∙ (λ i. came i + length (sent i)) ∙ sym (ap (λ b. cond b (came_over w) (came_in g l)) (eq-eqb l link same)))
      (λ (off : l ≢ link). came_other l below ends off ∙ sym (ap (λ b. cond b (came_over w) (came_in g l)) (ne_eqb l link off)))
      (cases_eq l link)
