-- Packets that come to a node of a group: what is pending over each link stays counted, and the group one of its net.
use Rattle.std.proofs.Common.{◌≡◌, ◌≢◌, ℕ, ◌+◌, ◌<◌, ◌≤◌, ◌^◌, true, List, [], ◌∷◌, length, set, All, refl, sym, ap, subst, ◌∙◌, true≢false, eq-eqb, arith}
use Rattle.std.specs.List.Sorted.{IsStrictlyIncreasing}
use Rattle.std.specs.List.{AllByRecursion}
use Rattle.packet_chain.specs.Stamped.{Stamped}
use Rattle.tournament.specs.Keyed.{apply, entering, EachKey}
use Rattle.tournament.proofs.Maps.{each_apply}
use Rattle.node_core.specs.Pending.{EventChange}
use Rattle.node_core.specs.EventQueueState.{incoming_at}
use Rattle.node_core.specs.WireState.{arrivals, stamps_of}
use Rattle.node_core.specs.Part.{PartState, link_at}
use Rattle.node_core.specs.Node.{NodeState, delivered}
use Rattle.table_run.proofs.Lists.{all_map}
use Rattle.table_run.proofs.Ready.{IsSameLink}
use Rattle.net_machine.specs.declared.places.LinkEnds.{LinkEnds}
use Rattle.net_machine.specs.Nodes.{node_at, net_pending, IsPlaced}
use Rattle.net_machine.specs.Wiring.{place_at}
use Rattle.net_machine.proofs.AtNodes.{node_key}
use Rattle.net_machine.proofs.Home.{come_pending}
use Rattle.net_partition.specs.Partition.{group_in}
use Rattle.node_group.specs.Seats.{Seats, seated, taken_nodes}
use Rattle.node_group.specs.declared.area.Area.{Area}
use Rattle.node_group.specs.Passing.{is_seated, CanPass, HasCome, HasPassed}
use Rattle.node_group.specs.Group.{GroupValue, group_from, group_to, member, exit_at, came_in, IsGroup}
use Rattle.net_machine.proofs.AfterEvent.{same_itself, same_part, coming_count, coming_link, coming_others, coming_here, coming_more}
use Rattle.node_group.proofs.Seated.{length-seated}
use Rattle.node_group.proofs.GroupKept.{seat_count, seat_taken, own_exit, same_entry, kept}

-- how many packets have come to the end of a link
abbrev pub came_at : List LinkEnds → List NodeState → ℕ → ℕ
came_at links nodes link = (incoming_at (node_at nodes (place_at links link).node).incoming (place_at links link).index).came

-- of what is pending over a link each packet is counted
abbrev pub AreCounted : List LinkEnds → List NodeState → Type 0
AreCounted links nodes = (link : ℕ) → link < length links → EachKey (λ k. k.source ≡ link + 1 → k.number ≤ came_at links nodes link) (net_pending nodes)

numbers : (node link before : ℕ) (q : List Stamped) → AllByRecursion (λ (c : EventChange). (c.0.source ≡ link + 1) × (c.0.number ≤ before + length q)) (entering (arrivals node link before q))
numbers node link before [] = tt
numbers node link before (x ∷ q) =
    ((refl, omega arith), all_map (λ (c : EventChange). (c.0.source ≡ link + 1) × (c.0.number ≤ before + 1 + length q)) (λ (c : EventChange). (c.0.source ≡ link + 1) × (c.0.number ≤ before + length (x ∷ q))) (λ c h. (h.0, let most = h.1 in omega (arith, most))) (entering (arrivals node link (before + 1) q)) (numbers node link (before + 1) q))

module _ (links : List LinkEnds) (nodes after : List NodeState) (placed : IsPlaced nodes) (link : ℕ) (packets : List Stamped) (inside : (place_at links link).node < length nodes) (within : (place_at links link).index < length (node_at nodes (place_at links link).node).incoming)
    (over : (incoming_at (node_at nodes (place_at links link).node).incoming (place_at links link).index).link ≡ link)
    (come : after ≡ set nodes (place_at links link).node (delivered (node_at nodes (place_at links link).node) (place_at links link).index packets)) where
  abbrev node : ℕ
  node = (place_at links link).node

  abbrev index : ℕ
  index = (place_at links link).index

  pub pending_come : net_pending after ≡ apply (entering (arrivals node link (came_at links nodes link) packets)) (net_pending nodes)
  pending_come =
      ap net_pending come ∙ come_pending nodes placed node inside index packets (delivered (node_at nodes node) index packets) refl
      ∙ ap (λ n. apply (entering (arrivals node n (came_at links nodes link) packets)) (net_pending nodes)) over

  counted_new : (other : ℕ) → AllByRecursion (λ (c : EventChange). c.0.source ≡ other + 1 → c.0.number ≤ came_at links after other) (entering (arrivals node link (came_at links nodes link) packets))
  counted_new other =
      all_map (λ (c : EventChange). (c.0.source ≡ link + 1) × (c.0.number ≤ came_at links nodes link + length packets)) (λ (c : EventChange). c.0.source ≡ other + 1 → c.0.number ≤ came_at links after other)
      (λ c h source.
      let same : other ≡ link = (let a = h.0 in omega (arith, a, source)) in
      let here = ap (came_at links after) same ∙ coming_here nodes after node index packets inside within come in
      let most = h.1 in
      omega (arith, here, most))
      (entering (arrivals node link (came_at links nodes link) packets)) (numbers node link (came_at links nodes link) packets)

  pub counted_come : AreCounted links nodes → AreCounted links after
  counted_come counted other under =
      subst (EachKey (λ k. k.source ≡ other + 1 → k.number ≤ came_at links after other)) (sym pending_come)
      (each_apply (λ k. k.source ≡ other + 1 → k.number ≤ came_at links after other) (entering (arrivals node link (came_at links nodes link) packets)) (net_pending nodes) (counted_new other)
      (λ k v there source. let old = counted other under k v there source in let more = coming_more nodes after node index packets inside within come (place_at links other).node (place_at links other).index in omega (arith, old, more)))

-- from another group
module _ (g : GroupValue) (is : IsGroup g) (link : ℕ) (known : link < length g.links) (from_another : group_from g link ≢ g.number) (to_this : group_to g link ≡ g.number) (packets : List Stamped) (seats : Seats) (inside : (place_at g.links link).node < length (seated g.seats))
    (come : seated seats ≡ set (seated g.seats) (place_at g.links link).node (delivered (member g (place_at g.links link).node) (place_at g.links link).index packets)) (placed : IsPlaced (seated seats)) (same_seats : taken_nodes seats ≡ taken_nodes g.seats) where
  abbrev within : (place_at g.links link).index < length (member g (place_at g.links link).node).incoming
  within = (is.entries_are link known to_this).within

  parts_stay : (i : ℕ) → (node_at (seated seats) i).part ≡ (member g i).part
  parts_stay = same_part (seated g.seats) (seated seats) (place_at g.links link).node (place_at g.links link).index packets inside within come

  -- no own exit is over it
  elsewhere : (i j : ℕ) → j < length (member g i).part.links → group_to g (exit_at g i j).port.link ≡ g.number → ((place_at g.links (exit_at g i j).port.link).node ≡ (place_at g.links link).node) × ((place_at g.links (exit_at g i j).port.link).index ≡ (place_at g.links link).index) → ⊥
  elsewhere i j under own both =
      let old = is.exits i j under in
      let same : (exit_at g i j).port.link ≡ link = same_entry g is (exit_at g i j).port.link link old.known known own to_this both.0 both.1 in
      from_another (ap (λ n. group_from g n) (sym same) ∙ ap (group_in g.entries) old.from_here ∙ own_exit g is i j under)

  pub come_keeps : IsGroup (record g { seats = seats })
  come_keeps = kept g is seats g.held g.lines record {
    same_seats = same_seats;
    placed = placed;
    count = λ i. ap (λ (p : PartState). length p.links) (parts_stay i);
    same = λ i j. subst (λ (p : PartState). IsSameLink (exit_at g i j) (link_at p.links j)) (sym (parts_stay i)) (same_itself (exit_at g i j));
    balanced = λ i j under.
        let old = is.exits i j under in
        let sent = ap (λ (p : PartState). (link_at p.links j).port.sent) (parts_stay i) in
        record {
          inside = λ own.
              coming_others (seated g.seats) (seated seats) (place_at g.links link).node (place_at g.links link).index packets inside within come (place_at g.links (exit_at g i j).port.link).node (place_at g.links (exit_at g i j).port.link).index (elsewhere i j under own)
              ∙ old.inside own ∙ sym sent;
          across = λ off. old.across off ∙ sym sent;
        };
    entries = λ other under own.
        let old = is.entries_are other under own in
        record {
          within = subst (λ n. (place_at g.links other).index < n) (sym (coming_count (seated g.seats) (seated seats) (place_at g.links link).node (place_at g.links link).index packets inside within come (place_at g.links other).node)) old.within;
          over = coming_link (seated g.seats) (seated seats) (place_at g.links link).node (place_at g.links link).index packets inside within come (place_at g.links other).node (place_at g.links other).index ∙ old.over;
        };
    counted = counted_come g.links (seated g.seats) (seated seats) is.placed link packets inside within (is.entries_are link known to_this).over come is.counted;
    wires = refl;
    by_link = is.by_link;
    there = λ other. refl;
    fits = is.fits;
  }

-- a link's end is one of the nodes
pub end_seated : (g : GroupValue) (is : IsGroup g) (link : ℕ) → link < length g.links → (place_at g.links link).node < length (seated g.seats)
end_seated g is link known = let end = is.ends_known link known in let size = seat_count g is in let all = length-seated g.seats in omega (arith, end, size, all)

-- over a link that ends inside the group
module _ (g : GroupValue) (is : IsGroup g) (link : ℕ) (known : link < length g.links) (to_this : group_to g link ≡ g.number) where
  end_within : (place_at g.links link).node < length g.seats
  end_within = let end = is.ends_known link known in let size = seat_count g is in omega (arith, end, size)

  -- a node of the group is there
  pub end_taken : is_seated g.seats (place_at g.links link).node ≡ true
  end_taken = seat_taken g is (place_at g.links link).node end_within ∙ eq-eqb (group_to g link) g.number to_this

  -- what comes later than all that is pending over the link can go on
  pub can_come_in : (packets : List Stamped) → IsStrictlyIncreasing (stamps_of packets) → All (λ stamp. EachKey (λ k. k.source ≡ link + 1 → k.time < stamp) (net_pending (seated g.seats))) (stamps_of packets) → came_in g link + length packets ≤ 2 ^ 50
      → CanPass g.links record { nodes_by_number = g.seats; exits = g.held } link packets
  can_come_in packets rising later few =
      let entry = is.entries_are link known to_this in
      record {
        end_known = end_within;
        inside = λ here. record {
          there = end_seated g is link known;
          within = entry.within;
          rising = rising;
          later = λ i d under k v there source. later i d under k v (node_key (seated g.seats) is.placed (place_at g.links link).node k v there) (source ∙ ap (λ n. n + 1) entry.over);
          few = few;
        };
        across = λ off. absurd (true≢false (sym end_taken ∙ off));
      }

  -- what has gone on has come there
  pub has_come_in : (packets : List Stamped) (new : Area) → HasPassed g.links record { nodes_by_number = g.seats; exits = g.held } link packets new → HasCome g.links g.seats new.nodes_by_number link packets × (new.exits ≡ g.held)
  has_come_in packets new has = (has.come end_taken, has.exits_stay end_taken)
