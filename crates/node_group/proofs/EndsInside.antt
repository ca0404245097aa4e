-- A packet that left a node of a group has come to another node of it.
use Rattle.std.proofs.Common.{◌≡◌, ◌≢◌, ℕ, ◌+◌, ◌<◌, true, List, [], ◌∷◌, ◌++◌, length, set, refl, sym, ap, subst, ◌∙◌, ⊎_elim, eqb-true}
use Rattle.std.proofs.lemmas.List.{length-set, map-set, set-get_or}
use Rattle.std.proofs.Math.ListN.{get_or-map}
use Rattle.sim_time.specs.declared.key.Key.{Key}
use Rattle.tournament.specs.Keyed.{apply, entering}
use Rattle.node_core.specs.Pending.{EventChange}
use Rattle.node_core.specs.EventQueueState.{Incoming, incoming_at}
use Rattle.node_core.specs.Part.{LinkState, PartState, link_at}
use Rattle.node_core.specs.declared.event.Event.{Event}
use Rattle.node_core.specs.Row.{Leaving}
use Rattle.node_core.specs.Node.{NodeState, delivered}
use Rattle.node_core.specs.WireState.{arrivals}
use Rattle.table_run.proofs.Ready.{IsSameLink}
use Rattle.net_machine.specs.Nodes.{no_node, node_at, net_pending, parts_of}
use Rattle.net_machine.specs.Wiring.{place_at}
use Rattle.node_group.specs.Seats.{Seats, seated}
use Rattle.node_group.specs.Held.{held_on}
use Rattle.window_law.specs.Groups.{own_of, others_of}
use Rattle.node_group.specs.Passing.{is_seated, HasCome}
use Rattle.node_group.specs.Group.{GroupValue, group_from, group_to, member, exit_at, came_in, IsFiring}
use Rattle.node_group.proofs.Made.{own_all, others_none}
use Rattle.net_machine.proofs.AfterEvent.{same_part, coming_count, coming_link, coming_others, coming_here}
use Rattle.node_group.proofs.GroupKept.{same_entry, IsBalanced, kept}
use Rattle.node_group.proofs.Come.{came_at, pending_come, counted_come, end_seated}
use Rattle.node_group.proofs.Firing.{parts_ns, fires_by, on_run_new, one_firing}
use Rattle.node_group.proofs.EventRun.{HasRun, effect, next, nodes, ran, ns, reported, placed, seats_stay, others_stay, away, group, links_stay, count_stays, comes_same, came_same, counted, mine, fits_more}
use Rattle.node_group.proofs.SentOn.{IsSending, exit, link, its, same_there, sent_here, sent_else, packets, away_is, seat_there, apart, which}

module _ {g : GroupValue} {end place : ℕ} {k : Key} {v : Event} {e : HasRun g end place k v} {l : Leaving} (s : IsSending e l) (here : is_seated (ran e) (place_at g.links (link s)).node ≡ true) (last : Seats) (come : HasCome g.links (ran e) last (link s) (packets s)) where
  own : group_to g (link s) ≡ g.number
  own = eqb-true (group_to g (link s)) g.number (sym (seat_there s) ∙ here)

  inside_ns : (place_at g.links (link s)).node < length (ns e)
  inside_ns = subst (λ n. (place_at g.links (link s)).node < n) (sym (ap length (others_stay e) ∙ length-set (nodes e) place (node_at (ns e) place))) (end_seated g e.is (link s) (its s).known)

  within_ns : (place_at g.links (link s)).index < length (node_at (ns e) (place_at g.links (link s)).node).incoming
  within_ns = subst (λ (n : NodeState). (place_at g.links (link s)).index < length n.incoming) (sym (same_there s)) (e.is.entries_are (link s) (its s).known own).within

  over_ns : (incoming_at (node_at (ns e) (place_at g.links (link s)).node).incoming (place_at g.links (link s)).index).link ≡ (link s)
  over_ns = ap (λ (n : NodeState). (incoming_at n.incoming (place_at g.links (link s)).index).link) (same_there s) ∙ (e.is.entries_are (link s) (its s).known own).over

  part_stays : (i : ℕ) → (node_at (seated last) i).part ≡ (node_at (ns e) i).part
  part_stays = same_part (ns e) (seated last) (place_at g.links (link s)).node (place_at g.links (link s)).index (packets s) inside_ns within_ns come.nodes

  came_elsewhere : (other : ℕ) → other < length g.links → group_to g other ≡ g.number → other ≢ (link s) → came_at g.links (seated last) other ≡ came_in g other
  came_elsewhere other under its_own off =
      coming_others (ns e) (seated last) (place_at g.links (link s)).node (place_at g.links (link s)).index (packets s) inside_ns within_ns come.nodes (place_at g.links other).node (place_at g.links other).index
      (λ both. off (same_entry g e.is other (link s) under (its s).known its_own own both.0 both.1)) ∙ (came_same e) other

  came_here : came_at g.links (seated last) (link s) ≡ (exit s).port.sent + 1
  came_here = coming_here (ns e) (seated last) (place_at g.links (link s)).node (place_at g.links (link s)).index (packets s) inside_ns within_ns come.nodes ∙ ap (λ n. n + 1) ((came_same e) (link s) ∙ (its s).inside own)

  parts_last : parts_of (seated last) ≡ set (parts_of (nodes e)) k.node (effect e).part
  parts_last =
      ap parts_of come.nodes ∙ map-set (λ (n : NodeState). n.part) (ns e) (place_at g.links (link s)).node (delivered (node_at (ns e) (place_at g.links (link s)).node) (place_at g.links (link s)).index (packets s))
      ∙ ap (set (parts_of (ns e)) (place_at g.links (link s)).node) (sym (get_or-map (λ (n : NodeState). n.part) (ns e) (place_at g.links (link s)).node no_node))
      ∙ set-get_or (parts_of (ns e)) (place_at g.links (link s)).node no_node.part
      ∙ parts_ns g e.is e.on end e.below place e.first k v e.here e.early

  own_away : own_of (group e) g.number (away e) ≡ entering (arrivals (place_at g.links (link s)).node (link s) (exit s).port.sent (packets s))
  own_away = ap (own_of (group e) g.number) (away_is s) ∙ own_all (group e) g.number (entering (arrivals (place_at g.links (link s)).node (link s) (exit s).port.sent (packets s))) (own, tt)

  others_away : others_of (group e) g.number (away e) ≡ []
  others_away = ap (others_of (group e) g.number) (away_is s) ∙ others_none (group e) g.number (entering (arrivals (place_at g.links (link s)).node (link s) (exit s).port.sent (packets s))) (own, tt)

  pending_last : net_pending (seated last) ≡ apply (own_of (group e) g.number (away e)) (net_pending (ns e))
  pending_last =
      pending_come g.links (ns e) (seated last) (placed e) (link s) (packets s) inside_ns within_ns over_ns come.nodes
      ∙ ap (λ n. apply (entering (arrivals (place_at g.links (link s)).node (link s) n (packets s))) (net_pending (ns e))) ((came_same e) (link s) ∙ (its s).inside own)
      ∙ ap (λ (cs : List EventChange). apply cs (net_pending (ns e))) (sym own_away)

  waits_same : held_on g.held ≡ apply (others_of (group e) g.number (away e)) (held_on g.held)
  waits_same = sym (ap (λ (cs : List EventChange). apply cs (held_on g.held)) others_away)

  sent_last : (i j : ℕ) → (link_at (node_at (seated last) i).part.links j).port.sent ≡ (link_at (node_at (ns e) i).part.links j).port.sent
  sent_last i j = ap (λ (p : PartState). (link_at p.links j).port.sent) (part_stays i)

  balanced_last : (i j : ℕ) → j < length (member g i).part.links → IsBalanced g e.is last g.held (g.lines ++ reported e ∷ []) i j
  balanced_last i j under =
      ⊎_elim
      (λ (this : (i ≡ place) × (j ≡ l.index)).
      let at : exit_at g i j ≡ (exit s) = λ t. exit_at g (this.0 t) (this.1 t) in
      let number : (exit_at g i j).port.link ≡ (link s) = ap (λ (x : LinkState). x.port.link) at in
      let sent : (link_at (node_at (seated last) i).part.links j).port.sent ≡ (exit s).port.sent + 1 = sent_last i j ∙ (λ t. (link_at (node_at (ns e) (this.0 t)).part.links (this.1 t)).port.sent) ∙ (sent_here s) in
      record {
        inside = λ _. ap (came_at g.links (seated last)) number ∙ came_here ∙ sym sent;
        across = λ off. absurd (off (ap (group_to g) number ∙ own));
      })
      (λ (other : (i ≡ place) × (j ≡ l.index) → ⊥).
      let old = e.is.exits i j under in
      let sent : (link_at (node_at (seated last) i).part.links j).port.sent ≡ (exit_at g i j).port.sent = sent_last i j ∙ (sent_else s) i j other in
      record {
        inside = λ its_own. came_elsewhere (exit_at g i j).port.link old.known its_own ((apart s) i j under other) ∙ old.inside its_own ∙ sym sent;
        across = λ off. old.across off ∙ sym sent;
      })
      ((which s) i j)

  pub ends_inside : IsFiring end g (next e last g.held)
  ends_inside = record {
    fires = fires_by g e.is e.on end e.below place e.first k v e.here e.early last g.held parts_last pending_last waits_same end e.early;
    is_group = kept g e.is last g.held (g.lines ++ reported e ∷ []) record {
      same_seats = come.same_seats ∙ seats_stay e;
      placed = come.placed;
      count = λ i. ap (λ (p : PartState). length p.links) (part_stays i) ∙ (count_stays e) i;
      same = λ i j. subst (λ (p : PartState). IsSameLink (exit_at g i j) (link_at p.links j)) (sym (part_stays i)) ((links_stay e) i j);
      balanced = balanced_last;
      entries = λ other under its_own.
          let old = e.is.entries_are other under its_own in
          record {
            within = subst (λ n. (place_at g.links other).index < n) (sym (coming_count (ns e) (seated last) (place_at g.links (link s)).node (place_at g.links (link s)).index (packets s) inside_ns within_ns come.nodes (place_at g.links other).node ∙ ap length ((comes_same e) (place_at g.links other).node))) old.within;
            over = coming_link (ns e) (seated last) (place_at g.links (link s)).node (place_at g.links (link s)).index (packets s) inside_ns within_ns come.nodes (place_at g.links other).node (place_at g.links other).index
                ∙ ap (λ (all : List Incoming). (incoming_at all (place_at g.links other).index).link) ((comes_same e) (place_at g.links other).node) ∙ old.over;
          };
      counted = counted_come g.links (ns e) (seated last) (placed e) (link s) (packets s) inside_ns within_ns over_ns come.nodes (counted e);
      wires = refl;
      by_link = e.is.by_link;
      there = λ other. refl;
      fits = (fits_more e);
    };
    on_run = on_run_new g e.is e.on end e.below place e.first k v e.here e.early last g.held parts_last pending_last waits_same;
    after = record {
      times = 1;
      state = one_firing g e.is e.on end e.below place e.first k v e.here e.early last g.held parts_last pending_last waits_same;
      rest = refl;
      seats_stay = come.same_seats ∙ seats_stay e;
      from_others = λ other under off.
          coming_others (ns e) (seated last) (place_at g.links (link s)).node (place_at g.links (link s)).index (packets s) inside_ns within_ns come.nodes (place_at g.links other).node (place_at g.links other).index
          (λ both.
          let to : group_to g other ≡ g.number = ap (group e) both.0 ∙ own in
          let same : other ≡ (link s) = same_entry g e.is other (link s) under (its s).known to own both.0 both.1 in
          off (ap (group_from g) same ∙ ap (group e) (its s).from_here ∙ (mine e))) ∙ (came_same e) other;
      wires_stay = refl;
    };
  }
