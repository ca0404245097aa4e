-- A packet that left a node of a group waits for another group.
use Rattle.std.proofs.Common.{◌≡◌, ◌≢◌, ℕ, ◌+◌, ◌<◌, false, List, [], ◌∷◌, ◌++◌, length, map, refl, sym, ap, subst, ◌∙◌, ⊎_elim, arith, length-append}
use Rattle.std.proofs.lemmas.Bool.{cases_eq, eqb-false}
use Rattle.std.proofs.lemmas.List.{get_or-set_same, get_or-set_other, length-set}
use Rattle.std.proofs.Math.Seq.{map-set_same}
use Rattle.sim_time.specs.declared.key.Key.{Key}
use Rattle.tournament.specs.Keyed.{apply, entering}
use Rattle.node_core.specs.Pending.{EventChange}
use Rattle.node_core.specs.EventQueueState.{Incoming, incoming_at}
use Rattle.node_core.specs.Part.{LinkState, link_at}
use Rattle.node_core.specs.declared.event.Event.{Event}
use Rattle.node_core.specs.Row.{Leaving}
use Rattle.node_core.specs.WireState.{WireState, arrivals, came_over}
use Rattle.net_machine.specs.Nodes.{node_at, net_pending}
use Rattle.net_machine.specs.Wiring.{place_at}
use Rattle.node_group.specs.Held.{no_wire, wire_at, held_on}
use Rattle.window_law.specs.Groups.{own_of, others_of}
use Rattle.node_group.specs.Passing.{is_seated, Waits}
use Rattle.node_group.specs.Group.{GroupValue, bare, group_to, member, exit_at, IsFiring}
use Rattle.node_group.proofs.Made.{own_none, others_all}
use Rattle.node_group.proofs.GroupKept.{IsBalanced, kept}
use Rattle.node_group.proofs.Firing.{parts_ns, fires_by, on_run_new, one_firing}
use Rattle.node_group.proofs.EventRun.{HasRun, next, ran, ns, reported, placed, seats_stay, away, group, links_stay, count_stays, comes_same, came_same, counted, fits_more}
use Rattle.node_group.proofs.SentOn.{IsSending, exit, link, its, sent_here, sent_else, packets, away_is, seat_there, apart, which}

module _ {g : GroupValue} {end place : ℕ} {k : Key} {v : Event} {e : HasRun g end place k v} {l : Leaving} (s : IsSending e l) (off : is_seated (ran e) (place_at g.links (link s)).node ≡ false) (held : List WireState) (waits : Waits g.held held (link s) (packets s)) where
  other_group : group_to g (link s) ≢ g.number
  other_group = eqb-false (group_to g (link s)) g.number (sym (seat_there s) ∙ off)

  abbrev wire : WireState
  wire = wire_at g.held (link s)

  abbrev longer : WireState
  longer = record wire { under_way = wire.under_way ++ (packets s) }

  under_held : (link s) < length g.held
  under_held = let many = e.is.wires in let known = (its s).known in omega (arith, many, known)

  own_away_none : own_of (group e) g.number (away e) ≡ []
  own_away_none = ap (own_of (group e) g.number) (away_is s) ∙ own_none (group e) g.number (entering (arrivals (place_at g.links (link s)).node (link s) (exit s).port.sent (packets s))) (other_group, tt)

  others_away_all : others_of (group e) g.number (away e) ≡ entering (arrivals (place_at g.links (link s)).node (link s) (exit s).port.sent (packets s))
  others_away_all = ap (others_of (group e) g.number) (away_is s) ∙ others_all (group e) g.number (entering (arrivals (place_at g.links (link s)).node (link s) (exit s).port.sent (packets s))) (other_group, tt)

  pending_same : net_pending (ns e) ≡ apply (own_of (group e) g.number (away e)) (net_pending (ns e))
  pending_same = sym (ap (λ (cs : List EventChange). apply cs (net_pending (ns e))) own_away_none)

  waits_more : held_on held ≡ apply (others_of (group e) g.number (away e)) (held_on g.held)
  waits_more =
      waits.pending
      ∙ (λ i. apply (entering (arrivals (e.is.ends_there (link s) (its s).known i) (link s) ((its s).across other_group i) (packets s))) (held_on g.held))
      ∙ ap (λ (cs : List EventChange). apply cs (held_on g.held)) (sym others_away_all)

  wire_here : wire_at held (link s) ≡ longer
  wire_here = ap (λ (all : List WireState). wire_at all (link s)) waits.wires ∙ get_or-set_same g.held (link s) longer no_wire under_held

  wire_else : (other : ℕ) → other ≢ (link s) → wire_at held other ≡ wire_at g.held other
  wire_else other different = ap (λ (all : List WireState). wire_at all other) waits.wires ∙ get_or-set_other g.held (link s) other longer no_wire different

  -- what is so of each wire
  at_wire : (P : WireState → WireState → Type 0) → P wire longer → ((w : WireState) → P w w) → (other : ℕ) → P (wire_at g.held other) (wire_at held other)
  at_wire P here there other =
      ⊎_elim
      (λ (same : other ≡ (link s)). subst (λ n. P (wire_at g.held n) (wire_at held n)) (sym same) (subst (P wire) (sym wire_here) here))
      (λ (different : other ≢ (link s)). subst (P (wire_at g.held other)) (sym (wire_else other different)) (there (wire_at g.held other)))
      (cases_eq other (link s))

  balanced_waits : (i j : ℕ) → j < length (member g i).part.links → IsBalanced g e.is (ran e) held (g.lines ++ reported e ∷ []) i j
  balanced_waits i j under =
      ⊎_elim
      (λ (this : (i ≡ place) × (j ≡ l.index)).
      let at : exit_at g i j ≡ (exit s) = λ t. exit_at g (this.0 t) (this.1 t) in
      let number : (exit_at g i j).port.link ≡ (link s) = ap (λ (x : LinkState). x.port.link) at in
      let sent : (link_at (node_at (ns e) i).part.links j).port.sent ≡ (exit s).port.sent + 1 = (λ t. (link_at (node_at (ns e) (this.0 t)).part.links (this.1 t)).port.sent) ∙ (sent_here s) in
      let more : came_over longer ≡ came_over wire + 1 = (let more = length-append wire.under_way (packets s) in omega (arith, more)) in
      record {
        inside = λ its_own. absurd (other_group (ap (group_to g) (sym number) ∙ its_own));
        across = λ _. ap (λ n. came_over (wire_at held n)) number ∙ ap came_over wire_here ∙ more ∙ ap (λ n. n + 1) ((its s).across other_group) ∙ sym sent;
      })
      (λ (other : (i ≡ place) × (j ≡ l.index) → ⊥).
      let old = e.is.exits i j under in
      let sent : (link_at (node_at (ns e) i).part.links j).port.sent ≡ (exit_at g i j).port.sent = (sent_else s) i j other in
      record {
        inside = λ its_own. (came_same e) (exit_at g i j).port.link ∙ old.inside its_own ∙ sym sent;
        across = λ elsewhere_to. ap came_over (wire_else (exit_at g i j).port.link ((apart s) i j under other)) ∙ old.across elsewhere_to ∙ sym sent;
      })
      ((which s) i j)

  many_wires : length held ≡ length g.held
  many_wires = ap length waits.wires ∙ length-set g.held (link s) longer

  pub ends_across : IsFiring end g (next e (ran e) held)
  ends_across = record {
    fires = fires_by g e.is e.on end e.below place e.first k v e.here e.early (ran e) held (parts_ns g e.is e.on end e.below place e.first k v e.here e.early) pending_same waits_more end e.early;
    is_group = kept g e.is (ran e) held (g.lines ++ reported e ∷ []) record {
      same_seats = seats_stay e;
      placed = placed e;
      count = (count_stays e);
      same = (links_stay e);
      balanced = balanced_waits;
      entries = λ other under own. record {
        within = subst (λ (all : List Incoming). (place_at g.links other).index < length all) (sym ((comes_same e) (place_at g.links other).node)) (e.is.entries_are other under own).within;
        over = ap (λ (all : List Incoming). (incoming_at all (place_at g.links other).index).link) ((comes_same e) (place_at g.links other).node) ∙ (e.is.entries_are other under own).over;
      };
      counted = (counted e);
      wires = many_wires;
      by_link = λ other under. at_wire (λ (v w : WireState). w.link ≡ v.link) refl (λ w. refl) other ∙ e.is.by_link other (subst (λ n. other < n) many_wires under);
      there = at_wire (λ (v w : WireState). w.node ≡ v.node) refl (λ w. refl);
      fits = (fits_more e);
    };
    on_run = on_run_new g e.is e.on end e.below place e.first k v e.here e.early (ran e) held (parts_ns g e.is e.on end e.below place e.first k v e.here e.early) pending_same waits_more;
    after = record {
      times = 1;
      state = one_firing g e.is e.on end e.below place e.first k v e.here e.early (ran e) held (parts_ns g e.is e.on end e.below place e.first k v e.here e.early) pending_same waits_more;
      rest = refl;
      seats_stay = seats_stay e;
      from_others = λ other under apart_from. (came_same e) other;
      wires_stay = ap (map bare) waits.wires ∙ map-set_same bare g.held (link s) longer no_wire refl;
    };
  }
