-- Each packet that a link began to send arrives once, in turn.
use Rattle.std.proofs.Common.{◌≡◌, ◌≢◌, ℕ, zero, suc, ◌+◌, ◌<◌, ◌≤◌, ◌==◌, cond, Bool, true, false, List, [], ◌∷◌, ◌++◌, length, map, filter, append-nil, refl, sym, ap, subst, ◌∙◌, Option, Some, None, arith, inl, inr, ◌⊎◌, ⊎_elim, eq-eqb, length-append}
use Rattle.std.specs.List.{slice_get, range_with_len}
use Rattle.std.proofs.lemmas.Bool.{cases_eq, cases_lt, ne_eqb}
use Rattle.std.proofs.lemmas.List.{map-append}
use Rattle.std.proofs.lemmas.List.Elements.{filter-append}
use Rattle.std.proofs.lemmas.Option.{option_and_then_some}
use Rattle.std.specs.FinMap as finmap
use Rattle.sim_time.specs.declared.key.Key.{Key}
use Rattle.sim_time.specs.declared.limits.TheConstants.{LATEST_END}
use Rattle.packet_chain.specs.declared.packet.Packet.{Packet}
use Rattle.scenario_image.specs.declared.parts.LinkPart.{LinkPart}
use Rattle.scenario_image.specs.declared.parts.ScenarioParts.{ScenarioParts}
use Rattle.scenario_image.specs.Scenario.{IsScenario}
use Rattle.port.specs.Port.{Departure}
use Rattle.node_core.specs.declared.event.Event.{Event}
use Rattle.node_core.specs.declared.event.Event.TheVariants.{Start, Rto, DelAck, Free, Arrive}
use Rattle.node_core.specs.Timers.{timer_key}
use Rattle.node_core.specs.declared.timer.Timer.{Timer}
use Rattle.node_core.specs.Part.{LinkState, link_at, no_link}
use Rattle.node_core.specs.Pending.{Events}
use Rattle.node_core.specs.Row.{timer_moved, made_at_home, sent_away, leaving_over}
use Rattle.node_core.specs.TraceLine.{TraceLine}
use Rattle.tournament.specs.Keyed.{apply}
use Rattle.tournament.proofs.Maps.{not_some, same_some, get_here, get_other}
use Rattle.table_run.specs.State.{State, initial, part_at, due, effect_of, stepped, line_of, one_step_more, run}
use Rattle.table_run.specs.Flow.{IsUnderWay}
use Rattle.table_run.specs.Sound.{Belongs, IsSoundLink, IsSoundAt}
use Rattle.table_run.specs.Laws.{IsSoundRun}
use Rattle.table_run.proofs.Changes.{row_changes, coming as coming_key, IsSet, rto_timer, busy, arrival, row_aside, apply-append}
use Rattle.table_run.proofs.Dispatch.{has_row}
use Rattle.table_run.proofs.Due.{IsDue, is_due}
use Rattle.table_run.proofs.KeptEvents.{IsOld, IsNew, old_or_new, leaves_with, changed_here}
use Rattle.table_run.proofs.Links.{link_part, one_index}
use Rattle.table_run.proofs.Lists.{all_here}
use Rattle.table_run.proofs.Moved.{Shape, IsMoved, AtChanged, AtOther, shaped, is_moved, link_before, link_cases, links_same, node_there, number_same}
use Rattle.table_run.proofs.PortMoves.{Outcome}
use Rattle.table_run.proofs.Rows.{IsRow}
use Rattle.table_run.proofs.Runs.{of_step, of_one_more}
use Rattle.table_run.proofs.RunLaws.{sound_run}
use Rattle.run_laws.specs.Links.{port_of_link, arrived, IsComing, ArrivesOnce, PacketsArriveOnce}

range_more : (a n : ℕ) → range_with_len a n ++ (a + n) ∷ [] ≡ range_with_len a (suc n)
range_more a zero = let none : a + zero ≡ a = omega arith in ap (λ m. m ∷ []) none
range_more a (suc n) = let more : a + suc n ≡ (a + 1) + n = omega arith in ap (λ m. a ∷ (range_with_len (a + 1) n ++ m ∷ [])) more ∙ ap (λ ls. a ∷ ls) (range_more (a + 1) n)

arrived_more : (link : ℕ) (lines : List TraceLine) (line : TraceLine) → arrived link (lines ++ line ∷ []) ≡ arrived link lines ++ cond (line.key.source == link + 1) (line.key.number ∷ []) []
arrived_more link lines line =
    ap (map (λ (l : TraceLine). l.key.number)) (filter-append (λ (l : TraceLine). l.key.source == link + 1) lines (line ∷ []))
    ∙ map-append (λ (l : TraceLine). l.key.number) (filter (λ (l : TraceLine). l.key.source == link + 1) lines) (filter (λ (l : TraceLine). l.key.source == link + 1) (line ∷ []))
    ∙ ap (λ ls. arrived link lines ++ ls) (by (line.key.source == link + 1))
  where
    by : (b : Bool) → map (λ (l : TraceLine). l.key.number) (cond b (line ∷ []) []) ≡ cond b (line.key.number ∷ []) []
    by true = refl
    by false = refl

-- the packet that leaves is pending
row_coming : (m : Events) (node : ℕ) (timer : Timer) (event : Event) (old new : Option ℕ) (links : List LinkState) (index : ℕ) (d : Departure)
    → finmap.get (apply (row_changes node timer event old new links index (Some d)) m) (coming_key links index d) ≡ Some (Arrive d.packet)
row_coming m node timer event old new links index d =
    let before = timer_moved (timer_key node timer) event old new ++ made_at_home node links (leaving_over index (Some d)) in
    ap (λ (x : Events). finmap.get x (coming_key links index d)) (apply-append before (sent_away links (leaving_over index (Some d))) m) ∙ get_here (apply before m) (coming_key links index d) (Some (Arrive d.packet))

-- an arrival that a row sets is that of the packet that leaves
the_leaving : (p : ScenarioParts) (s t : State) (k : Key) (v : Event) (r : Shape) → IsRow p s k v r t → (links : List LinkState) (q : Key) (x : Packet) → IsSet k.node r.timer r.event r.new links r.index r.step.departure q (Arrive x)
    → (d : Departure) × (r.step.departure ≡ Some d) × (q ≡ coming_key links r.index d)
the_leaving p s t k v r R links q x (rto_timer u is key event) = absurd (R.not_arrival x (sym event))
the_leaving p s t k v r R links q x (busy d is key event) = absurd (not_free x (link_at links r.index).port.link event)
  where
    not_free : (x : Packet) (link : ℕ) → Arrive x ≡ Free link → ⊥
    not_free x link e = cc
the_leaving p s t k v r R links q x (arrival d is key event) = (d, is, key)

module _ (p : ScenarioParts) (is_scenario : IsScenario p) (lines : List TraceLine) (now : ℕ) (s t : State) (k : Key) (v : Event) (r : Shape) (S : IsSoundAt p lines now s) (D : IsDue s k v) (nodes : k.node < length p.nodes) (M : IsMoved s k r t) (R : IsRow p s k v r t) where
  abbrev links_t : List LinkState
  links_t = (part_at t k.node).links

  -- two links of one number are one
  one_link : (a i b j : ℕ) → i < length (part_at s a).links → j < length (part_at s b).links → (port_of_link s a i).link ≡ (port_of_link s b j).link → (a ≡ b) × (i ≡ j)
  one_link a i b j within also same =
      let nodes_a = subst (λ n. a < n) S.nodes_are (node_there s a i within) in
      let nodes_b = subst (λ n. b < n) S.nodes_are (node_there s b j also) in
      let one = link_part p a (part_at s a).links (S.each_node a nodes_a).its_links i within in
      let two = link_part p b (part_at s b).links (S.each_node b nodes_b).its_links j also in
      let parts : one.part ≡ two.part = same_some one.part two.part (sym one.its_part ∙ ap (slice_get p.links) same ∙ two.its_part) in
      let at : a ≡ b = sym one.from_here ∙ ap (λ (l : LinkPart). l.from) parts ∙ two.from_here in
      (at, one_index p b (part_at s b).links (S.each_node b nodes_b).its_links i j (subst (λ n. i < length (part_at s n).links) at within) also (ap (λ n. (port_of_link s n i).link) (sym at) ∙ same))

  module _ (node index : ℕ) (within : index < length (part_at s node).links) (O : ArrivesOnce lines s.pending (port_of_link s node index)) where
    abbrev link : ℕ
    link = (port_of_link s node index).link

    abbrev count : ℕ
    count = length (arrived link lines)

    abbrev sent : ℕ
    sent = (port_of_link s node index).sent

    abbrev sent_t : ℕ
    sent_t = (port_of_link t node index).sent

    same_number : (port_of_link t node index).link ≡ link
    same_number = number_same s t k r M R.within R.moves.stays node index

    abbrev Arrives : Type 0
    Arrives = (x : Packet) × (v ≡ Arrive x)

    no_timer : (q : Key) (node number time : ℕ) → q.source ≡ link + 1 → q ≡ record { time = time; node = node; source = 0; number = number } → ⊥
    no_timer q node number time over is = (let a = ap (λ (j : Key). j.source) is in omega (arith, over, a))

    by_event : (w : Event) → v ≡ w → Belongs p s now k w → k.source ≡ link + 1 → Arrives
    by_event (Start n) e h over = absurd (no_timer k _ _ _ over h.is_key)
    by_event (Rto n) e h over = absurd (no_timer k _ _ _ over h.timer.is_key)
    by_event (DelAck n) e h over = absurd (no_timer k _ _ _ over h.timer.is_key)
    by_event (Free n) e h over = absurd (no_timer k _ _ _ over h.timer.is_key)
    by_event (Arrive x) e h over = (x, e)

    it_arrives : k.source ≡ link + 1 → Arrives
    it_arrives over = by_event v refl (S.belongs k v D.pending) over

    abbrev own : k.source ≡ link + 1 → IsComing s.pending link k.number
    own over = let is = it_arrives over in record { key = k; packet = is.0; pending = D.pending ∙ ap (λ (w : Event). Some w) is.1; over = over; its_number = refl }

    -- what arrives is the next in turn
    next : k.source ≡ link + 1 → k.number ≡ count + 1
    next over =
        let mine = own over in
        let after = O.after k.number mine in
        ⊎_elim (λ (same : k.number ≡ count + 1). same)
        (λ (other : k.number ≢ count + 1).
        let less : count + 1 < k.number = (let a = after.0 in omega (arith, a, other)) in
        let first = O.coming (count + 1) (omega arith) (let a = after.1 in omega (arith, a, less)) in
        let earlier = S.in_order first.key k first.packet mine.packet first.pending mine.pending (first.over ∙ sym over) (let a = first.its_number in omega (arith, a, less)) in
        let due_first = D.first first.key (Arrive first.packet) first.pending in
        absurd (omega (arith, earlier, due_first)))
        (cases_eq k.number (count + 1))

    -- what arrived, with this event
    record Now (line : TraceLine) : Type 0 where
      pub total : ℕ
      pub total_is : total ≡ length (arrived link (lines ++ line ∷ []))
      pub in_turn : arrived link (lines ++ line ∷ []) ≡ range_with_len 1 total
      pub at_least : count ≤ total
      pub most : total ≤ sent
      pub past : k.source ≡ link + 1 → total ≡ k.number
      pub apart : k.source ≢ link + 1 → total ≡ count

    now_arrived : (line : TraceLine) → line.key ≡ k → Now line
    now_arrived line key_is =
        let more = arrived_more link lines line in
        let source : line.key.source ≡ k.source = ap (λ (q : Key). q.source) key_is in
        let number : line.key.number ≡ k.number = ap (λ (q : Key). q.number) key_is in
        ⊎_elim
        (λ (over : k.source ≡ link + 1).
        let is = next over in
        let longer : arrived link (lines ++ line ∷ []) ≡ arrived link lines ++ (1 + count) ∷ [] =
        more ∙ ap (λ b. arrived link lines ++ cond b (line.key.number ∷ []) []) (eq-eqb line.key.source (link + 1) (source ∙ over)) ∙ ap (λ m. arrived link lines ++ m ∷ []) (number ∙ is ∙ plus count) in
        let whole : arrived link (lines ++ line ∷ []) ≡ range_with_len 1 (suc count) = longer ∙ ap (λ ls. ls ++ (1 + count) ∷ []) O.in_turn ∙ range_more 1 count in
        record {
          total = suc count;
          total_is = (let a = ap length longer in let b = length-append (arrived link lines) ((1 + count) ∷ []) in omega (arith, a, b));
          in_turn = whole;
          at_least = omega arith;
          most = (let a = (O.after k.number (own over)).1 in omega (arith, a, is));
          past = λ _. omega (arith, is);
          apart = λ other. absurd (other over);
        })
        (λ (other : k.source ≢ link + 1).
        let same : arrived link (lines ++ line ∷ []) ≡ arrived link lines =
        more ∙ ap (λ b. arrived link lines ++ cond b (line.key.number ∷ []) []) (ne_eqb line.key.source (link + 1) (λ e. other (sym source ∙ e))) ∙ append-nil (arrived link lines) in
        record {
          total = count;
          total_is = sym (ap length same);
          in_turn = same ∙ O.in_turn;
          at_least = omega arith;
          most = O.no_more;
          past = λ over. absurd (other over);
          apart = λ _. refl;
        })
        (cases_eq k.source (link + 1))
      where
        plus : (n : ℕ) → n + 1 ≡ 1 + n
        plus n = omega arith

    -- whether the link begins to send a packet
    record Begins : Type 0 where
      pub departure : Departure
      pub is : r.step.departure ≡ Some departure
      pub at_node : node ≡ k.node
      pub at_index : index ≡ r.index

    record Rests : Type 0 where
      pub same : sent_t ≡ sent
      pub none : (d : Departure) → r.step.departure ≡ Some d → node ≡ k.node → index ≢ r.index

    begins_or_rests : Begins ⊎ Rests
    begins_or_rests =
        ⊎_elim
        (λ (c : AtChanged s t k r node index). changed_case c r.step.departure refl R.moves.outcome)
        (λ (o : AtOther s t k r node index). inr (record { same = ap (λ (l : LinkState). l.port.sent) o.link_is; none = λ _ _. o.apart }))
        (link_cases s t k r M R.within node index)
      where
        changed_case : AtChanged s t k r node index → (d : Option Departure) → r.step.departure ≡ d → Outcome (IsUnderWay p t (link_before s k r).port.link) k.time R.before (link_before s k r).port r.step.port d → Begins ⊎ Rests
        changed_case c None is h = inr (record {
          same = ap (λ (l : LinkState). l.port.sent) c.link_is ∙ h.1 ∙ sym (ap (λ n. (port_of_link s n index).sent) c.at_node ∙ ap (λ i. (port_of_link s k.node i).sent) c.at_index);
          none = λ d some _ _. not_some (sym is ∙ some);
        })
        changed_case c (Some d) is h = inl (record { departure = d; is = is; at_node = c.at_node; at_index = c.at_index })

    -- where it begins one, the packet that leaves is the only new one over the link
    begun_sent : (b : Begins) → sent_t ≡ sent + 1
    begun_sent b =
        let out = leaves_with p is_scenario lines now s t k v r S D nodes M R b.departure b.is in
        let changed = ap (λ (l : LinkState). l.port.sent) (changed_here p is_scenario lines now s t k v r S D nodes M R) in
        let here = ap (λ n. (port_of_link t n index).sent) b.at_node ∙ ap (λ i. (port_of_link t k.node i).sent) b.at_index in
        let was = ap (λ n. (port_of_link s n index).sent) b.at_node ∙ ap (λ i. (port_of_link s k.node i).sent) b.at_index in
        let once = out.sent_once in
        omega (arith, here, changed, once, was)

    sent_rises : sent ≤ sent_t
    sent_rises = ⊎_elim (λ (b : Begins). let a = begun_sent b in omega (arith, a)) (λ (x : Rests). let a = x.same in omega (arith, a)) begins_or_rests

    -- a packet that leaves over a link of this number
    new_begins : (d : Departure) → r.step.departure ≡ Some d → (coming_key links_t r.index d).source ≡ link + 1 → Begins
    new_begins d is over =
        let before = number_same s t k r M R.within R.moves.stays k.node r.index in
        let same : (port_of_link s k.node r.index).link ≡ link = omega (arith, over, before) in
        let one = one_link k.node r.index node index R.within within same in
        record { departure = d; is = is; at_node = sym one.0; at_index = sym one.1 }

    new_number : (b : Begins) (d : Departure) → (coming_key links_t r.index d).number ≡ sent_t
    new_number b d = ap (λ i. (port_of_link t k.node i).sent) (sym b.at_index) ∙ ap (λ n. (port_of_link t n index).sent) (sym b.at_node)

    abbrev Old : Key → Event → Type 0
    Old q w = IsOld p is_scenario lines now s t k v r S D nodes M R q w

    abbrev New : Key → Event → Type 0
    New q w = IsNew p is_scenario lines now s t k v r S D nodes M R q w

    -- what is pending over the link was, or it is the one that leaves
    record IsFresh (q : Key) (number : ℕ) : Type 0 where
      pub begins : Begins
      pub key_is : q ≡ coming_key links_t r.index begins.departure
      pub number_is : number ≡ sent_t

    was_or_fresh : (number : ℕ) (c : IsComing t.pending link number) → ((finmap.get s.pending c.key ≡ Some (Arrive c.packet)) × (c.key ≢ k)) ⊎ IsFresh c.key number
    was_or_fresh number c =
        ⊎_elim
        (λ (old : Old c.key (Arrive c.packet)). inl (old.there, old.other))
        (λ (new : New c.key (Arrive c.packet)).
        let l = the_leaving p s t k v r R links_t c.key c.packet new in
        let b = new_begins l.0 l.1 (sym (ap (λ (q : Key). q.source) l.2) ∙ c.over) in
        let departure : l.0 ≡ b.departure = same_some l.0 b.departure (sym l.1 ∙ b.is) in
        inr (record { begins = b; key_is = l.2 ∙ ap (coming_key links_t r.index) departure; number_is = sym c.its_number ∙ ap (λ (q : Key). q.number) l.2 ∙ new_number b l.0 }))
        (old_or_new p is_scenario lines now s t k v r S D nodes M R c.key (Arrive c.packet) c.pending)

    abbrev before : (number : ℕ) (c : IsComing t.pending link number) → finmap.get s.pending c.key ≡ Some (Arrive c.packet) → IsComing s.pending link number
    before number c there = record { key = c.key; packet = c.packet; pending = there; over = c.over; its_number = c.its_number }

    module _ (line : TraceLine) (key_is : line.key ≡ k) where
      abbrev N : Now line
      N = now_arrived line key_is

      after_event : (number : ℕ) → IsComing t.pending link number → (N.total < number) × (number ≤ sent_t)
      after_event number c =
          ⊎_elim
          (λ (old : (finmap.get s.pending c.key ≡ Some (Arrive c.packet)) × (c.key ≢ k)).
          let was = O.after number (before number c old.0) in
          let rises = sent_rises in
          ⊎_elim
          (λ (over : k.source ≡ link + 1).
          let total = N.past over in
          let is = next over in
          let other : number ≢ k.number = λ same. old.1 (O.once number (before number c old.0) (subst (IsComing s.pending link) (sym same) (own over)) ∙ own_key over number same) in
          (let a = was.0 in omega (arith, a, total, is, other), let b = was.1 in omega (arith, b, rises)))
          (λ (apart : k.source ≢ link + 1).
          let total = N.apart apart in
          (let a = was.0 in omega (arith, a, total), let b = was.1 in omega (arith, b, rises)))
          (cases_eq k.source (link + 1)))
          (λ (fresh : IsFresh c.key number). let more = begun_sent fresh.begins in let most = N.most in let is = fresh.number_is in (omega (arith, more, most, is), omega (arith, is)))
          (was_or_fresh number c)
        where
          own_key : (over : k.source ≡ link + 1) (number : ℕ) (same : number ≡ k.number) → (subst (IsComing s.pending link) (sym same) (own over)).key ≡ k
          own_key over number same = refl

      -- each packet that was sent and has not arrived is pending still
      coming_event : (number : ℕ) → N.total < number → number ≤ sent_t → IsComing t.pending link number
      coming_event number above most =
          ⊎_elim
          (λ (old : number ≤ sent).
          let c = O.coming number (let a = N.at_least in omega (arith, a, above)) old in
          let other : c.key ≢ k = λ same. (
          let over = ap (λ (q : Key). q.source) (sym same) ∙ c.over in
          let total = N.past over in
          let its = c.its_number in
          let number_is = ap (λ (q : Key). q.number) same in
          omega (arith, above, total, its, number_is)) in
          record {
            key = c.key;
            packet = c.packet;
            pending =
                ap (λ (m : Events). finmap.get m c.key) M.pending_is
                ∙ row_aside k.node r.timer r.event links_t r.index (finmap.remove s.pending k) r.old r.new r.step.departure c.key (record {
                  not_cleared = λ u _ is. no_timer c.key _ _ _ c.over is;
                  not_set = λ u _ is. no_timer c.key _ _ _ c.over is;
                  not_busy = λ d _ is. no_timer c.key _ _ _ c.over is;
                  not_coming = λ d is same.
                      let b = new_begins d is (sym (ap (λ (q : Key). q.source) same) ∙ c.over) in
                      let new = begun_sent b in
                      let number_is = ap (λ (q : Key). q.number) same ∙ new_number b d in
                      let its = c.its_number in omega (arith, old, new, number_is, its);
                })
                ∙ get_other s.pending k None c.key other
                ∙ c.pending;
            over = c.over;
            its_number = c.its_number;
          })
          (λ (new : sent < number).
          ⊎_elim
          (λ (b : Begins). new_coming number b (let a = begun_sent b in omega (arith, a, new, most)))
          (λ (x : Rests). let a = x.same in absurd (omega (arith, a, new, most)))
          begins_or_rests)
          (le_cases number sent)
        where
          le_cases : (a b : ℕ) → (a ≤ b) ⊎ (b < a)
          le_cases a b = ⊎_elim (λ (h : b < a). inr h) (λ (h : a ≤ b). inl h) (cases_lt b a)

          new_coming : (number : ℕ) (b : Begins) → number ≡ sent_t → IsComing t.pending link number
          new_coming number b is =
              let link_is : (link_at links_t r.index).port.link ≡ link = ap (λ i. (port_of_link t k.node i).link) (sym b.at_index) ∙ ap (λ n. (port_of_link t n index).link) (sym b.at_node) ∙ same_number in
              record {
                key = coming_key links_t r.index b.departure;
                packet = b.departure.packet;
                pending =
                    ap (λ (m : Events). finmap.get m (coming_key links_t r.index b.departure)) M.pending_is
                    ∙ ap (λ d. finmap.get (apply (row_changes k.node r.timer r.event r.old r.new links_t r.index d) (finmap.remove s.pending k)) (coming_key links_t r.index b.departure)) b.is
                    ∙ row_coming (finmap.remove s.pending k) k.node r.timer r.event r.old r.new links_t r.index b.departure;
                over = ap (λ n. n + 1) link_is;
                its_number = new_number b b.departure ∙ sym is;
              }

      once_event : (number : ℕ) (a b : IsComing t.pending link number) → a.key ≡ b.key
      once_event number a b =
          ⊎_elim
          (λ (old_a : (finmap.get s.pending a.key ≡ Some (Arrive a.packet)) × (a.key ≢ k)).
          ⊎_elim
          (λ (old_b : (finmap.get s.pending b.key ≡ Some (Arrive b.packet)) × (b.key ≢ k)). O.once number (before number a old_a.0) (before number b old_b.0))
          (λ (fresh : IsFresh b.key number). absurd (too_late a old_a.0 fresh.begins fresh.number_is))
          (was_or_fresh number b))
          (λ (fresh_a : IsFresh a.key number).
          ⊎_elim
          (λ (old_b : (finmap.get s.pending b.key ≡ Some (Arrive b.packet)) × (b.key ≢ k)). absurd (too_late b old_b.0 fresh_a.begins fresh_a.number_is))
          (λ (fresh_b : IsFresh b.key number). fresh_a.key_is ∙ ap (coming_key links_t r.index) (same_some fresh_a.begins.departure fresh_b.begins.departure (sym fresh_a.begins.is ∙ fresh_b.begins.is)) ∙ sym fresh_b.key_is)
          (was_or_fresh number b))
          (was_or_fresh number a)
        where
          too_late : (c : IsComing t.pending link number) → finmap.get s.pending c.key ≡ Some (Arrive c.packet) → Begins → number ≡ sent_t → ⊥
          too_late c there b is = (let was = (O.after number (before number c there)).1 in let new = begun_sent b in omega (arith, was, new, is))

      all_after : ArrivesOnce (lines ++ line ∷ []) t.pending (port_of_link t node index)
      all_after =
          let n = N in
          subst (λ l. InFull l) (sym same_number) (record {
            in_turn = n.in_turn ∙ ap (range_with_len 1) n.total_is;
            no_more = (let a = n.total_is in let b = n.most in let c = sent_rises in omega (arith, a, b, c));
            coming = λ number above most. coming_event number (let a = n.total_is in omega (arith, a, above)) most;
            after = λ number c. let h = after_event number c in (let a = n.total_is in let b = h.0 in omega (arith, a, b), h.1);
            once = once_event;
          })
        where
          InFull : ℕ → Type 0
          InFull l = ArrivesOnce (lines ++ line ∷ []) t.pending (record (port_of_link t node index) { link = l })

abbrev AllArrive : List TraceLine → State → Type 0
AllArrive lines s = (node index : ℕ) → index < length (part_at s node).links → ArrivesOnce lines s.pending (port_of_link s node index)

after_step : (p : ScenarioParts) (lines : List TraceLine) (s : State) (k : Key) (v : Event) → IsScenario p → IsSoundRun p lines s → due s ≡ Some (k, v) → AllArrive lines s → AllArrive (lines ++ line_of (k, v) (effect_of s (k, v)) ∷ []) (stepped s k (effect_of s (k, v)))
after_step p lines s k v is_scenario sound is before =
    let S = sound.sound in
    let D = is_due s k v is in
    let moment : k.time ≤ LATEST_END = (let a = D.in_time in let b = S.end_is in let c = is_scenario.in_limits.end_range.1 in omega (arith, a, b, c)) in
    let H = has_row p is_scenario lines sound.moment s k S moment v D (S.belongs k v D.pending) in
    let t = stepped s k (shaped (part_at s k.node) k H.shape) in
    let M = is_moved s k H.shape H.row.within in
    let nodes : k.node < length p.nodes = subst (λ n. k.node < n) S.nodes_are (node_there s k.node H.shape.index H.row.within) in
    let line = line_of (k, v) (effect_of s (k, v)) in
    subst (λ e. AllArrive (lines ++ line ∷ []) (stepped s k e)) (sym H.effect_is)
    (λ node index within.
    let inside : index < length (part_at s node).links = subst (λ n. index < n) (links_same s t k H.shape M H.row.within node) within in
    all_after p is_scenario lines sound.moment s t k v H.shape S D nodes M H.row node index inside (before node index inside) line refl)

at_first : (p : ScenarioParts) → IsScenario p → AllArrive [] (initial p)
at_first p is_scenario node index within =
    let S = (sound_run p zero [] (initial p) is_scenario refl).sound in
    let nodes = subst (λ n. node < n) S.nodes_are (node_there (initial p) node index within) in
    let link = all_here (λ (l : LinkState). IsSoundLink p (initial p) 0 l.port) (part_at (initial p) node).links index no_link within (S.each_node node nodes).each_link in
    let none : (port_of_link (initial p) node index).sent ≡ 0 = (let a = link.sent_most in omega (arith, a)) in
    record {
      in_turn = refl;
      no_more = omega arith;
      coming = λ number above most. absurd (omega (arith, none, above, most));
      after = λ number c. absurd (no_packet p is_scenario c.key c.packet c.pending);
      once = λ number a b. absurd (no_packet p is_scenario a.key a.packet a.pending);
    }
  where
    -- at first only starts are pending
    no_packet : (p : ScenarioParts) → IsScenario p → (q : Key) (x : Packet) → finmap.get (initial p).pending q ≡ Some (Arrive x) → ⊥
    no_packet p is_scenario q x there =
        let S = (sound_run p zero [] (initial p) is_scenario refl).sound in
        let h = S.belongs q (Arrive x) there in
        let nodes = subst (λ n. h.link.from < n) S.nodes_are (node_there (initial p) h.link.from h.index h.leaves.within) in
        let link = all_here (λ (l : LinkState). IsSoundLink p (initial p) 0 l.port) (part_at (initial p) h.link.from).links h.index no_link h.leaves.within (S.each_node h.link.from nodes).each_link in
        let a = link.sent_most in let b = h.was_sent in let c = h.counted in omega (arith, a, b, c)

pub packets_arrive_once : PacketsArriveOnce
packets_arrive_once p zero lines s is e = subst (λ (q : List TraceLine × State). AllArrive q.0 q.1) (same_some ([], initial p) (lines, s) e) (at_first p is)
packets_arrive_once p (suc n) lines s is e =
    option_and_then_some one_step_more (run (initial p) n) (lines, s) e (λ so_far was now.
    of_one_more so_far lines s now (λ line step_is lines_are.
    of_step so_far.1 line s step_is (λ k v due_is new_is line_is.
    let next = after_step p so_far.0 so_far.1 k v is (sound_run p n so_far.0 so_far.1 is was) due_is (packets_arrive_once p n so_far.0 so_far.1 is was) in
    subst (λ ls. AllArrive ls s) (sym lines_are) (subst (λ (q : TraceLine × State). AllArrive (so_far.0 ++ q.0 ∷ []) q.1) (λ i. (sym line_is i, sym new_is i)) next))))
