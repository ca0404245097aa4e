-- A packet that leaves a node of a group by an event: by which link, and what the link has sent then.
use Rattle.std.proofs.Common.{◌≡◌, ◌≢◌, ℕ, ◌+◌, ◌<◌, ◌≤◌, ◌^◌, Bool, true, false, List, [], ◌∷◌, length, get_or, map, refl, sym, ap, subst, ◌∙◌, Some, None, Option, is_some, ⊎_elim, ◌⊎◌, inl, inr, arith, eqb-true, ◌==◌}
use Rattle.std.proofs.lemmas.Bool.{cases_eq, eqb-false}
use Rattle.std.proofs.lemmas.List.{length-set}
use Rattle.std.proofs.Math.ListN.{get_or-map}
use Rattle.std.specs.FinMap as fin
use Rattle.sim_time.specs.declared.key.Key.{Key}
use Rattle.packet_chain.specs.Stamped.{Stamped}
use Rattle.tournament.specs.Keyed.{entering, EachKey}
use Rattle.tournament.proofs.Maps.{same_some}
use Rattle.tournament.proofs.Gathered.{gathered_has}
use Rattle.node_core.specs.declared.event.Event.{Event}
use Rattle.node_core.specs.declared.event.Event.TheVariants.{Arrive}
use Rattle.node_core.specs.Timers.{arrival_key}
use Rattle.node_core.specs.Pending.{Events}
use Rattle.node_core.specs.EventQueueState.{incoming_at}
use Rattle.node_core.specs.Part.{LinkState, PartState, link_at}
use Rattle.node_core.specs.Row.{Leaving, sent_away}
use Rattle.node_core.specs.Node.{NodeState}
use Rattle.node_core.specs.WireState.{arrivals, pending_on}
use Rattle.node_core.proofs.Wires.{each_on}
use Rattle.table_run.proofs.Ready.{LinksStay, IsDelivery}
use Rattle.net_machine.specs.Nodes.{node_at, net_pending}
use Rattle.net_machine.specs.Wiring.{place_at}
use Rattle.net_machine.proofs.AtNodes.{node_key}
use Rattle.net_machine.specs.Region.{node_after, link_left, packet_left, IsOver, CanCome}
use Rattle.net_machine.proofs.Steps.{one_all, one_rising}
use Rattle.node_group.specs.Seats.{seated}
use Rattle.node_group.specs.Held.{wire_at, held_on}
use Rattle.node_group.specs.Passing.{is_seated, CanWait, CanPass}
use Rattle.node_group.specs.Group.{GroupValue, group_to, member, exit_at, IsOwnExit}
use Rattle.window_law.proofs.Matches.{the_value}
use Rattle.node_group.proofs.HeldBack.{over_link, wire_map, held_home}
use Rattle.node_group.proofs.Come.{end_seated}
use Rattle.node_group.proofs.Seated.{seated_set}
use Rattle.net_machine.proofs.AfterEvent.{same_elsewhere}
use Rattle.node_group.proofs.GroupKept.{seat_count, seat_taken, same_exit}
use Rattle.node_group.proofs.Firing.{node_is, part_here, stay_here, leaves_here, node_ns}
use Rattle.node_group.proofs.EventRun.{HasRun, effect, due_here, nodes, ran, ns, after, seats_stay, others_stay, left, away, sent_stays, came_same}

-- a packet leaves the node
pub record IsSending {g : GroupValue} {end place : ℕ} {k : Key} {v : Event} (e : HasRun g end place k v) (l : Leaving) : Type 0 where
  pub is : left e ≡ Some l

module _ {g : GroupValue} {end place : ℕ} {k : Key} {v : Event} {e : HasRun g end place k v} {l : Leaving} (s : IsSending e l) where
  pub gone : IsDelivery (due_here e).state (g.position + length g.lines) k (effect e).part.links l
  gone = leaves_here g e.is e.on end e.below place e.first k v e.here e.early l s.is

  pub within : l.index < length (member g place).part.links
  within = subst (λ (p : PartState). l.index < length p.links) (part_here g e.is e.on end e.below place e.first k v e.here e.early)
      gone.within

  abbrev pub exit : LinkState
  exit = exit_at g place l.index

  abbrev pub link : ℕ
  link = exit.port.link

  pub its : IsOwnExit g place l.index
  its = e.is.exits place l.index within

  pub stay : LinksStay (member g place).part.links (effect e).part.links (left e)
  stay = stay_here g e.is e.on end e.below place e.first k v e.here e.early

  -- the link after the event
  abbrev pub used : LinkState
  used = link_at (effect e).part.links l.index

  pub used_is : link_at (node_at (ns e) place).part.links l.index ≡ used
  used_is = ap (λ (n : NodeState). link_at n.part.links l.index) (node_ns g e.is e.on end e.below place e.first k v e.here e.early)

  pub number_is : link_left (effect e) l ≡ link
  number_is = (stay.same_links l.index).same_number

  pub used_to : used.to ≡ (place_at g.links link).node
  used_to = (stay.same_links l.index).same_to ∙ its.to_there

  pub elsewhere : (place_at g.links link).node ≢ place
  elsewhere same = gone.elsewhere (used_to ∙ same ∙ sym (node_is g e.is e.on end e.below place e.first k v e.here e.early))

  pub same_there : node_at (ns e) (place_at g.links link).node ≡ member g (place_at g.links link).node
  same_there = same_elsewhere (nodes e) (ns e) place e.first.within (after e) (seated_set g.seats place (after e)) refl (left e) stay (place_at g.links link).node elsewhere

  pub sent_next : used.port.sent ≡ exit.port.sent + 1
  sent_next = gone.is_next ∙ ap (λ (p : PartState). (link_at p.links l.index).port.sent + 1) (part_here g e.is e.on end e.below place e.first k v e.here e.early)

  pub sent_here : (link_at (node_at (ns e) place).part.links l.index).port.sent ≡ exit.port.sent + 1
  sent_here = ap (λ (x : LinkState). x.port.sent) used_is ∙ sent_next

  -- other links have sent no more
  pub sent_else : (i j : ℕ) → ((i ≡ place) × (j ≡ l.index) → ⊥) → (link_at (node_at (ns e) i).part.links j).port.sent ≡ (exit_at g i j).port.sent
  sent_else i j other = (sent_stays e) i j (λ m some at over. other (at, over ∙ ap (λ (x : Leaving). x.index) (same_some m l (sym some ∙ s.is))))

  abbrev pub packets : List Stamped
  packets = packet_left l

  pub away_is : (away e) ≡ entering (arrivals (place_at g.links link).node link exit.port.sent packets)
  away_is =
      ap (sent_away (effect e).part.links) s.is
      ∙ (λ i. (arrival_key (used_to i) (number_is i) l.departure.arrival (sent_next i), Some (Arrive l.departure.packet)) ∷ [])

  pub few_sent : exit.port.sent + 1 ≤ 2 ^ 50
  few_sent = let most = gone.sent_most in let next = sent_next in omega (arith, most, next, e.fits)

  -- it comes after all that is pending over the link
  pub last_pending : EachKey (λ q. q.source ≡ link + 1 → q.time < l.departure.arrival) (net_pending (nodes e))
  last_pending q w there source =
      let some = the_value _ ((due_here e).has q w there) in
      (gone.last q some.0 some.1 (source ∙ ap (λ n. n + 1) (sym number_is))).0

  pub last_held : EachKey (λ q. q.source ≡ link + 1 → q.time < l.departure.arrival) (held_on g.held)
  last_held q w there source =
      let some = the_value _ ((due_here e).holds q w there) in
      (gone.last q some.0 some.1 (source ∙ ap (λ n. n + 1) (sym number_is))).0

  pub over : IsOver g.links (effect e) l
  over = record {
    has_link = subst (λ n. l.index < n) (sym stay.same_length) within;
    has_chain = (let few = e.is.few place in let here = within in omega (arith, here, few));
    known = subst (λ n. n < length g.links) (sym number_is) its.known;
  }

  -- where the link ends
  pub seat_there : is_seated (ran e) (place_at g.links link).node ≡ (group_to g link == g.number)
  seat_there =
      sym (get_or-map (λ (x : Option NodeState). is_some x) (ran e) (place_at g.links link).node None)
      ∙ ap (λ (all : List Bool). get_or all (place_at g.links link).node false) (seats_stay e)
      ∙ get_or-map (λ (x : Option NodeState). is_some x) g.seats (place_at g.links link).node None
      ∙ seat_taken g e.is (place_at g.links link).node (let end_known = e.is.ends_known link its.known in let size = seat_count g e.is in omega (arith, end_known, size))

  pub can_pass : CanPass g.links record { nodes_by_number = ran e; exits = g.held } (link_left (effect e) l) packets
  can_pass = subst (λ n. CanPass g.links record { nodes_by_number = ran e; exits = g.held } n packets) (sym number_is) record {
    end_known = (let size = length-set g.seats place (Some (node_after (seated g.seats) place k v)) in let end_known = e.is.ends_known link its.known in let many = seat_count g e.is in omega (arith, end_known, many, size));
    inside = can_come;
    across = can_wait;
  }
    where
      can_come : is_seated (ran e) (place_at g.links link).node ≡ true → CanCome g.links (ns e) link packets
      can_come here =
          let own : group_to g link ≡ g.number = eqb-true (group_to g link) g.number (sym seat_there ∙ here) in
          let entry = e.is.entries_are link its.known own in
          record {
            there = subst (λ n. (place_at g.links link).node < n) (sym (ap length (others_stay e) ∙ length-set (nodes e) place (node_at (ns e) place))) (end_seated g e.is link its.known);
            within = subst (λ (n : NodeState). (place_at g.links link).index < length n.incoming) (sym same_there) entry.within;
            rising = one_rising l.departure.arrival;
            later = one_all (λ stamp. EachKey (λ k. k.source ≡ (incoming_at (node_at (ns e) (place_at g.links link).node).incoming (place_at g.links link).index).link + 1 → k.time < stamp) (node_at (ns e) (place_at g.links link).node).pending) l.departure.arrival
                (λ q w there source.
                last_pending q w (node_key (nodes e) e.is.placed (place_at g.links link).node q w (ap (λ (n : NodeState). fin.get n.pending q) (sym same_there) ∙ there))
                (source ∙ ap (λ (n : NodeState). (incoming_at n.incoming (place_at g.links link).index).link + 1) same_there ∙ ap (λ n. n + 1) entry.over));
            few = (let came = (came_same e) link in let balance = its.inside own in let most = few_sent in omega (arith, came, balance, most));
          }

      can_wait : is_seated (ran e) (place_at g.links link).node ≡ false → CanWait g.held link packets
      can_wait off =
          let other : group_to g link ≢ g.number = eqb-false (group_to g link) g.number (sym seat_there ∙ off) in
          let many = e.is.wires in
          let known = its.known in
          let under : link < length g.held = omega (arith, many, known) in
          record {
            within = under;
            rising = one_rising l.departure.arrival;
            later = one_all (λ stamp. EachKey (λ k. k.time < stamp) (pending_on (wire_at g.held link))) l.departure.arrival
                (λ q w there.
                last_held q w (gathered_has over_link (map pending_on g.held) (held_home g.held e.is.by_link) link q w (ap (λ (m : Events). fin.get m q) (wire_map g.held link under) ∙ there))
                (each_on (wire_at g.held link) q w there ∙ ap (λ n. n + 1) (e.is.by_link link under)));
            few = (let balance = its.across other in let most = few_sent in omega (arith, balance, most));
          }

  -- THE ENDS

  -- an exit other than the one that was used has another number
  pub apart : (i j : ℕ) → j < length (member g i).part.links → ((i ≡ place) × (j ≡ l.index) → ⊥) → (exit_at g i j).port.link ≢ link
  apart i j under other same = other (same_exit g e.is i j place l.index under within same)

  -- which exit it is
  pub which : (i j : ℕ) → ((i ≡ place) × (j ≡ l.index)) ⊎ ((i ≡ place) × (j ≡ l.index) → ⊥)
  which i j =
      ⊎_elim
      (λ (node : i ≡ place).
      ⊎_elim
      (λ (same : j ≡ l.index). inl (node, same))
      (λ (off : j ≢ l.index). inr (λ both. off both.1))
      (cases_eq j l.index))
      (λ (off : i ≢ place). inr (λ both. off both.0))
      (cases_eq i place)
