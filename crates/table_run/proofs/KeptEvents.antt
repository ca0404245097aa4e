-- After a row each pending event is where it belongs, none is past, and packets come over a link in their order.
use Rattle.std.proofs.Common.{◌≡◌, ◌≢◌, ℕ, ◌+◌, ◌<◌, ◌≤◌, List, length, refl, sym, ap, subst, ◌∙◌, Option, Some, None, arith, inl, inr, ◌⊎◌, ⊎_elim}
use Rattle.std.specs.List.{slice_get}
use Rattle.std.specs.Option.{unwrap_or}
use Rattle.std.specs.FinMap as map
use Rattle.sim_time.specs.declared.key.Key.{Key}
use Rattle.packet_chain.specs.declared.packet.Packet.{Packet}
use Rattle.scenario_image.specs.declared.parts.LinkPart.{LinkPart}
use Rattle.scenario_image.specs.declared.parts.ScenarioParts.{ScenarioParts}
use Rattle.scenario_image.specs.Scenario.{IsScenario}
use Rattle.port.specs.Port.{Departure}
use Rattle.node_core.specs.declared.timer.Timer.TheVariants.{Retransmission, DelayedAcknowledgement, Free as BecomesFree}
use Rattle.node_core.specs.declared.event.Event.{Event}
use Rattle.node_core.specs.declared.event.Event.TheVariants.{Start, Rto, DelAck, Free, Arrive}
use Rattle.node_core.specs.Timers.{timer_key}
use Rattle.node_core.specs.Part.{LinkState, link_at}
use Rattle.node_core.specs.TraceLine.{TraceLine}
use Rattle.tournament.proofs.Maps.{not_some, same_some}
use Rattle.table_run.specs.State.{State, part_at}
use Rattle.table_run.specs.Flow.{IsUnderWay}
use Rattle.table_run.specs.Sound.{EachEvent, Belongs, ArriveInOrder, IsLinkOf, IsArrival, IsSoundAt}
use Rattle.table_run.specs.Laws.{IsDueSoon}
use Rattle.table_run.proofs.Due.{IsDue}
use Rattle.table_run.proofs.Links.{IsPartOf, link_part, one_index, link_in_limits}
use Rattle.table_run.proofs.PortMoves.{Outcome, Departs}
use Rattle.table_run.proofs.Changes.{IsSet, rto_timer, busy, arrival, WasPending, coming, of_changed, of_row}
use Rattle.table_run.proofs.Moved.{Shape, IsMoved, AtChanged, AtOther, link_before, link_after, link_cases, link_on, changed_is, number_same}
use Rattle.table_run.proofs.Rows.{IsRow, IsOffered, IsFreed, RtoTimerStays, RtoTimerMoves, under_way_on, busy_stays, sent_least, free_rises, entered_upto}

module _ (p : ScenarioParts) (is_scenario : IsScenario p) (lines : List TraceLine) (now : ℕ) (s t : State) (k : Key) (v : Event) (r : Shape) (S : IsSoundAt p lines now s) (due : IsDue s k v) (nodes : k.node < length p.nodes) (M : IsMoved s k r t) (R : IsRow p s k v r t) where
  abbrev D : Packet → Type 0
  D = IsUnderWay p t (link_before s k r).port.link

  delay_most : (link_before s k r).port.delay ≤ 10000000000
  delay_most = (link_in_limits p k.node (part_at s k.node).links (S.each_node k.node nodes).its_links is_scenario r.index R.within).delay_most

  abbrev links_t : List LinkState
  links_t = (part_at t k.node).links

  upto : now ≤ k.time
  upto = S.not_past k v due.pending

  -- the link over which a packet leaves is one of the scenario's
  pub its_part : IsPartOf p k.node (link_before s k r)
  its_part = link_part p k.node (part_at s k.node).links (S.each_node k.node nodes).its_links r.index R.within

  pub changed_here : link_at links_t r.index ≡ link_after s k r
  changed_here = changed_is s t k r M R.within

  -- an event that was pending before the row, and is still
  pub record IsOld (q : Key) (w : Event) : Type 0 where
    pub there : map.get s.pending q ≡ Some w
    pub other : q ≢ k
    pub not_moved : (u : ℕ) → r.old ≡ Some u → q ≢ timer_key k.node r.timer u

  abbrev pub IsNew : Key → Event → Type 0
  IsNew q w = IsSet k.node r.timer r.event r.new links_t r.index r.step.departure q w

  pub old_or_new : (q : Key) (w : Event) → map.get t.pending q ≡ Some w → IsOld q w ⊎ IsNew q w
  old_or_new q w e =
      ⊎_elim
      (λ (h : WasPending (map.remove s.pending k) k.node r.timer r.old q w).
      ⊎_elim (λ (g : (q ≡ k) × (None ≡ Some w)). absurd (not_some g.1))
      (λ (g : (q ≢ k) × (map.get s.pending q ≡ Some w)). inl (record { there = g.1; other = g.0; not_moved = h.not_moved }))
      (of_changed s.pending k None q w h.there))
      (λ (h : IsNew q w). inr h)
      (of_row k.node r.timer r.event links_t r.index (map.remove s.pending k) r.old r.new r.step.departure q w (ap (λ m. map.get m q) (sym M.pending_is) ∙ e))

  -- what leaves
  pub leaves_with : (d : Departure) → r.step.departure ≡ Some d → Departs D k.time R.before (link_before s k r).port r.step.port d
  leaves_with d is = subst (Outcome D k.time R.before (link_before s k r).port r.step.port) is R.moves.outcome

  free_before : (q : Key) (u index : ℕ) → q ≢ k → q.node ≡ k.node → index ≡ r.index → q ≡ timer_key q.node (BecomesFree index) q.time → (link_at (part_at s q.node).links index).port.next_free ≡ Some q.time → r.step.port.next_free ≡ Some q.time
  free_before q u index other at_node at_index key set =
      let was : (link_before s k r).port.next_free ≡ Some q.time = sym (ap (λ n. (link_at (part_at s n).links index).port.next_free) at_node ∙ ap (λ i. (link_at (part_at s k.node).links i).port.next_free) at_index) ∙ set in
      ⊎_elim
      (λ (o : IsOffered s k r R.before). busy_stays D k.time R.before (link_before s k r).port r.step.port r.step.departure q.time R.moves.outcome (o.same ∙ was))
      (λ (f : IsFreed s k r R.before). let time : q.time ≡ k.time = same_some q.time k.time (sym was ∙ f.was) in
      absurd (other (key ∙ (λ i. timer_key (at_node i) (BecomesFree (at_index i)) (time i)) ∙ sym f.is_key)))
      R.entered

  -- what a link has sent comes within its delay from when it is free
  within_delay : (link : LinkPart) (index number : ℕ) (q : Key) → q.time ≤ unwrap_or (link_at (part_at s link.from).links index).port.next_free now + link.delay → q.time ≤ unwrap_or (link_at (part_at t link.from).links index).port.next_free k.time + link.delay
  within_delay link index number q h =
      ⊎_elim
      (λ (c : AtChanged s t k r link.from index).
      let was : unwrap_or (link_at (part_at s link.from).links index).port.next_free now ≡ unwrap_or (link_before s k r).port.next_free now = ap (λ n. unwrap_or (link_at (part_at s n).links index).port.next_free now) c.at_node ∙ ap (λ i. unwrap_or (link_at (part_at s k.node).links i).port.next_free now) c.at_index in
      let is : unwrap_or (link_at (part_at t link.from).links index).port.next_free k.time ≡ unwrap_or r.step.port.next_free k.time = ap (λ (l : LinkState). unwrap_or l.port.next_free k.time) c.link_is in
      let a = entered_upto s k r R.before now upto R.entered in
      let b = free_rises D k.time R.before (link_before s k r).port r.step.port r.step.departure R.moves.outcome in
      omega (arith, h, was, is, a, b))
      (λ (o : AtOther s t k r link.from index).
      let is : unwrap_or (link_at (part_at t link.from).links index).port.next_free k.time ≡ unwrap_or (link_at (part_at s link.from).links index).port.next_free k.time = ap (λ (l : LinkState). unwrap_or l.port.next_free k.time) o.link_is in
      let a = later (link_at (part_at s link.from).links index).port.next_free in
      omega (arith, h, is, a))
      (link_cases s t k r M R.within link.from index)
    where
      later : (o : Option ℕ) → unwrap_or o now ≤ unwrap_or o k.time
      later None = upto
      later (Some u) = omega arith

  -- no link has sent less
  pub sent_rises : (node index : ℕ) → (link_at (part_at s node).links index).port.sent ≤ (link_at (part_at t node).links index).port.sent
  sent_rises node index =
      ⊎_elim
      (λ (c : AtChanged s t k r node index).
      let was : (link_at (part_at s node).links index).port.sent ≡ (link_before s k r).port.sent = ap (λ n. (link_at (part_at s n).links index).port.sent) c.at_node ∙ ap (λ i. (link_at (part_at s k.node).links i).port.sent) c.at_index in
      let is : (link_at (part_at t node).links index).port.sent ≡ r.step.port.sent = ap (λ (l : LinkState). l.port.sent) c.link_is in
      let a = sent_least D k.time R.before (link_before s k r).port r.step.port r.step.departure R.moves.outcome in
      omega (arith, was, is, a))
      (λ (o : AtOther s t k r node index). let is : (link_at (part_at t node).links index).port.sent ≡ (link_at (part_at s node).links index).port.sent = ap (λ (l : LinkState). l.port.sent) o.link_is in omega (arith, is))
      (link_cases s t k r M R.within node index)

  -- an event that was pending before belongs where it did
  stays : (q : Key) (w : Event) → IsOld q w → Belongs p s now q w → Belongs p t k.time q w
  stays q (Start number) old h = h
  stays q (Rto number) old h =
      ⊎_elim
      (λ (x : RtoTimerStays k r h.flow.sender Retransmission _ _). record { flow = h.flow; its_flow = h.its_flow; timer = record { is_key = h.timer.is_key; is_set = x.same ∙ h.timer.is_set } })
      (λ (x : RtoTimerMoves k r h.flow.sender Retransmission (Rto number) _ _). absurd (old.not_moved q.time (sym x.was ∙ h.timer.is_set) (h.timer.is_key ∙ (λ i. timer_key (x.at_node i) (x.is_timer i) q.time))))
      (R.rto_timers number h.flow h.its_flow)
  stays q (DelAck number) old h =
      ⊎_elim
      (λ (x : RtoTimerStays k r h.flow.receiver DelayedAcknowledgement _ _). record { flow = h.flow; its_flow = h.its_flow; timer = record { is_key = h.timer.is_key; is_set = x.same ∙ h.timer.is_set } })
      (λ (x : RtoTimerMoves k r h.flow.receiver DelayedAcknowledgement (DelAck number) _ _). absurd (old.not_moved q.time (sym x.was ∙ h.timer.is_set) (h.timer.is_key ∙ (λ i. timer_key (x.at_node i) (x.is_timer i) q.time))))
      (R.delayed number h.flow h.its_flow)
  stays q (Free number) old h = record {
    index = h.index;
    link = link_on s t k r M R.within R.moves.stays q.node h.index number h.link;
    timer = record {
      is_key = h.timer.is_key;
      is_set = ⊎_elim
          (λ (c : AtChanged s t k r q.node h.index). ap (λ (l : LinkState). l.port.next_free) c.link_is ∙ free_before q 0 h.index old.other c.at_node c.at_index h.timer.is_key h.timer.is_set)
          (λ (o : AtOther s t k r q.node h.index). ap (λ (l : LinkState). l.port.next_free) o.link_is ∙ h.timer.is_set)
          (link_cases s t k r M R.within q.node h.index);
    };
  }
  stays q (Arrive x) old h = record {
    number = h.number;
    link = h.link;
    its_link = h.its_link;
    ends_here = h.ends_here;
    comes_over = h.comes_over;
    index = h.index;
    leaves = link_on s t k r M R.within R.moves.stays h.link.from h.index h.number h.leaves;
    was_sent = (let a = h.was_sent in let b = sent_rises h.link.from h.index in omega (arith, a, b));
    counted = h.counted;
    within_delay = within_delay h.link h.index h.number q h.within_delay;
    under_way = under_way_on p s t R.rises h.number x h.under_way;
  }

  -- the link that changes, afterwards
  new_link : IsLinkOf t k.node r.index (link_before s k r).port.link
  new_link = link_on s t k r M R.within R.moves.stays k.node r.index (link_before s k r).port.link (record { within = R.within; its_number = refl })

  -- the packet that leaves is where it belongs
  pub leaving_belongs : (d : Departure) → r.step.departure ≡ Some d → IsArrival p t k.time (coming links_t r.index d) d.packet
  leaving_belongs d is =
      let out = leaves_with d is in
      let number : (link_at links_t r.index).port.link ≡ (link_before s k r).port.link = number_same s t k r M R.within R.moves.stays k.node r.index in
      let from_here : k.node ≡ its_part.part.from = sym its_part.from_here in
      record {
        number = (link_before s k r).port.link;
        link = its_part.part;
        its_link = its_part.its_part;
        ends_here = ap (λ (l : LinkState). l.to) changed_here ∙ its_part.to_is;
        comes_over = ap (λ n. n + 1) number;
        index = r.index;
        leaves = subst (λ n. IsLinkOf t n r.index (link_before s k r).port.link) from_here new_link;
        was_sent = subst (λ n. (link_at links_t r.index).port.sent ≤ (link_at (part_at t n).links r.index).port.sent) from_here (omega arith);
        counted = (let a = ap (λ (l : LinkState). l.port.sent) changed_here in let b = out.sent_once in omega (arith, a, b));
        within_delay = subst (λ n. d.arrival ≤ unwrap_or (link_at (part_at t n).links r.index).port.next_free k.time + its_part.part.delay) from_here
            (let a = ap (λ (l : LinkState). unwrap_or l.port.next_free k.time) changed_here in let b = ap (λ o. unwrap_or o k.time) out.busy in let c = out.arrival_is in let e = its_part.delay_is in omega (arith, a, b, c, e));
        under_way = out.fits;
      }

  fresh : (q : Key) (w : Event) → IsNew q w → Belongs p t k.time q w
  fresh q w (rto_timer u is key event) = subst (λ (j : Key). Belongs p t k.time j w) (sym key) (subst (Belongs p t k.time (timer_key k.node r.timer u)) (sym event) (R.new_belongs u is))
  fresh q w (busy d is key event) =
      subst (λ (j : Key). Belongs p t k.time j w) (sym key) (subst (Belongs p t k.time (timer_key k.node (BecomesFree r.index) d.free)) (sym event) record {
        index = r.index;
        link = record { within = new_link.within; its_number = refl };
        timer = record { is_key = refl; is_set = ap (λ (l : LinkState). l.port.next_free) changed_here ∙ (leaves_with d is).busy };
      })
  fresh q w (arrival d is key event) = subst (λ (j : Key). Belongs p t k.time j w) (sym key) (subst (Belongs p t k.time (coming links_t r.index d)) (sym event) (leaving_belongs d is))

  pub belongs_after : EachEvent (Belongs p t k.time) t.pending
  belongs_after q w e = ⊎_elim (λ (old : IsOld q w). stays q w old (S.belongs q w old.there)) (λ (new : IsNew q w). fresh q w new) (old_or_new q w e)

  -- what is set is due soon
  pub new_soon : (q : Key) (w : Event) → IsNew q w → IsDueSoon k.time q
  new_soon q w (rto_timer u is key event) = subst (IsDueSoon k.time) (sym key) (R.new_soon u is)
  new_soon q w (busy d is key event) = subst (IsDueSoon k.time) (sym key) (let out = leaves_with d is in let a = out.later in let b = out.soon in (a, omega (arith, b)))
  new_soon q w (arrival d is key event) =
      subst (IsDueSoon k.time) (sym key)
      (let out = leaves_with d is in let a = out.later in let b = out.soon in let c = out.arrival_is in let e = delay_most in (omega (arith, a, c), omega (arith, b, c, e)))

  pub not_past_after : EachEvent (λ q w. k.time ≤ q.time) t.pending
  not_past_after q w e = ⊎_elim (λ (old : IsOld q w). due.first q w old.there) (λ (new : IsNew q w). let soon = new_soon q w new in let a = soon.0 in omega (arith, a)) (old_or_new q w e)

  -- all that the link has sent so far is before the packet that leaves
  pub behind : (d : Departure) → r.step.departure ≡ Some d → (q : Key) (x : Packet) → map.get s.pending q ≡ Some (Arrive x) → q.source ≡ (coming links_t r.index d).source → (q.number < (coming links_t r.index d).number) × (q.time < d.arrival)
  behind d is q x there same =
      let out = leaves_with d is in
      let h : IsArrival p s now q x = S.belongs q (Arrive x) there in
      let number : (link_at links_t r.index).port.link ≡ (link_before s k r).port.link = number_same s t k r M R.within R.moves.stays k.node r.index in
      let its : h.number ≡ (link_before s k r).port.link = (let a = h.comes_over in omega (arith, a, same, number)) in
      let link_is : h.link ≡ its_part.part = same_some h.link its_part.part (sym h.its_link ∙ ap (slice_get p.links) its ∙ its_part.its_part) in
      let from : h.link.from ≡ k.node = ap (λ (l : LinkPart). l.from) link_is ∙ its_part.from_here in
      let leaves : IsLinkOf s k.node h.index h.number = subst (λ n. IsLinkOf s n h.index h.number) from h.leaves in
      let index : h.index ≡ r.index = one_index p k.node (part_at s k.node).links (S.each_node k.node nodes).its_links h.index r.index leaves.within R.within (leaves.its_number ∙ its) in
      let sent : (link_at (part_at s h.link.from).links h.index).port.sent ≡ (link_before s k r).port.sent = ap (λ n. (link_at (part_at s n).links h.index).port.sent) from ∙ ap (λ i. (link_at (part_at s k.node).links i).port.sent) index in
      let free : unwrap_or (link_at (part_at s h.link.from).links h.index).port.next_free now ≡ unwrap_or (link_before s k r).port.next_free now = ap (λ n. unwrap_or (link_at (part_at s n).links h.index).port.next_free now) from ∙ ap (λ i. unwrap_or (link_at (part_at s k.node).links i).port.next_free now) index in
      let delay : h.link.delay ≡ (link_before s k r).port.delay = ap (λ (l : LinkPart). l.delay) link_is ∙ sym its_part.delay_is in
      let now_sent : (link_at links_t r.index).port.sent ≡ r.step.port.sent = ap (λ (l : LinkState). l.port.sent) changed_here in
      let entered = entered_upto s k r R.before now upto R.entered in
      let idle = ap (λ o. unwrap_or o k.time) out.was_idle in
      let a = h.was_sent in
      let b = out.sent_once in
      let c = h.within_delay in
      let e = out.later in
      let f = out.arrival_is in
      (omega (arith, a, b, sent, now_sent), omega (arith, c, e, f, free, delay, entered, idle))

  -- an arrival that is set is that of the packet that leaves
  the_leaving : (q : Key) (x : Packet) → IsNew q (Arrive x) → (d : Departure) × (r.step.departure ≡ Some d) × (q ≡ coming links_t r.index d)
  the_leaving q x (rto_timer u is key event) = absurd (R.not_arrival x (sym event))
  the_leaving q x (busy d is key event) = absurd (not_free x (link_at links_t r.index).port.link event)
    where
      not_free : (x : Packet) (link : ℕ) → Arrive x ≡ Free link → ⊥
      not_free x link e = cc
  the_leaving q x (arrival d is key event) = (d, is, key)

  pub in_order_after : ArriveInOrder t.pending
  in_order_after a b x y at_a at_b same less =
      ⊎_elim
      (λ (old_a : IsOld a (Arrive x)).
      ⊎_elim
      (λ (old_b : IsOld b (Arrive y)). S.in_order a b x y old_a.there old_b.there same less)
      (λ (new_b : IsNew b (Arrive y)).
      let (d, is, key) = the_leaving b y new_b in
      let before = behind d is a x old_a.there (same ∙ ap (λ (q : Key). q.source) key) in
      let time = ap (λ (q : Key). q.time) key in let first = before.1 in omega (arith, time, first))
      (old_or_new b (Arrive y) at_b))
      (λ (new_a : IsNew a (Arrive x)).
      let (d, is, key) = the_leaving a x new_a in
      ⊎_elim
      (λ (old_b : IsOld b (Arrive y)).
      let before = behind d is b y old_b.there (sym same ∙ ap (λ (q : Key). q.source) key) in
      let number = ap (λ (q : Key). q.number) key in let first = before.0 in absurd (omega (arith, number, first, less)))
      (λ (new_b : IsNew b (Arrive y)).
      let (e, also, key') = the_leaving b y new_b in
      let one : ◌≡◌ {A = ℕ} a.number b.number = ap (λ (q : Key). q.number) key ∙ ap (λ (o : Departure). (coming links_t r.index o).number) (same_some d e (sym is ∙ also)) ∙ sym (ap (λ (q : Key). q.number) key') in absurd (omega (arith, one, less)))
      (old_or_new b (Arrive y) at_b))
      (old_or_new a (Arrive x) at_a)
