-- What is so of the event that is due in a run, for the code that runs it.
use Rattle.std.proofs.Common.{◌≡◌, ◌≢◌, ℕ, ◌+◌, ◌%◌, ◌<◌, ◌≤◌, List, length, map, refl, sym, ap, subst, ◌∙◌, Option, None, Some, arith, ⊎_elim}
use Rattle.std.proofs.lemmas.List.{length-set}
use Rattle.std.proofs.lemmas.List.Sums.{count_by-le-length}
use Rattle.std.specs.Prelude.{◌==◌}
use Rattle.std.specs.FinMap as finmap
use Rattle.sim_time.specs.declared.key.Key.{Key}
use Rattle.sim_time.specs.declared.limits.TheConstants.{LATEST_END, MOST_EVENTS}
use Rattle.scenario_image.specs.declared.parts.ScenarioParts.{ScenarioParts}
use Rattle.scenario_image.specs.Scenario.{IsScenario}
use Rattle.packet_chain.specs.declared.packet.Packet.{Packet}
use Rattle.packet_chain.specs.declared.packet.Kind.{Kind}
use Rattle.packet_chain.specs.declared.packet.Kind.TheVariants.{Data, Ack}
use Rattle.scenario_image.specs.declared.parts.LinkPart.{LinkPart}
use Rattle.scenario_image.specs.LinkLimits.{IsLinkInLimits}
use Rattle.scenario_image.specs.Paths.{IsOnWay}
use Rattle.scenario_image.specs.PathLaws.{PathGoesOn}
use Rattle.scenario_image.proofs.Courses.{all_at}
use Rattle.scenario_image.proofs.Arrivals.{paths_go_on_or_end}
use Rattle.port.specs.Port.{Departure}
use Rattle.node_core.specs.declared.event.Event.{Event}
use Rattle.node_core.specs.declared.event.Event.TheVariants.{Start, Rto, DelAck, Free, Arrive}
use Rattle.node_core.specs.Initial.{exits_of}
use Rattle.node_core.specs.RouteTable.{exit_for}
use Rattle.node_core.specs.Part.{LinkState, link_at, no_link}
use Rattle.node_core.specs.Row.{Effect, Leaving, leaving_over, arrives}
use Rattle.node_core.specs.Ready.{CanTakePacket, ReceiverTakes, SenderTakes, CanHandle, LinkCan, IsRunnable}
use Rattle.node_core.specs.TraceLine.{TraceLine}
use Rattle.tournament.proofs.Maps.{not_some, same_some, none_or}
use Rattle.table_run.specs.State.{State, initial, part_at, due, effect_of, stepped}
use Rattle.table_run.specs.Flow.{high_of, sent_high, received_next, path_of, IsSent, IsGiven, Carries, IsUnderWay}
use Rattle.table_run.specs.Sound.{Belongs, IsArrival, IsSoundLink, IsSoundAt, lines_at}
use Rattle.table_run.specs.Laws.{ComesTo, IsSoundRun}
use Rattle.table_run.proofs.Lists.{all_map, all_here}
use Rattle.table_run.proofs.Due.{IsDue, is_due}
use Rattle.table_run.proofs.PortMoves.{Outcome}
use Rattle.table_run.proofs.Moved.{Shape, IsMoved, AtChanged, AtOther, shaped, is_moved, link_before, link_after, link_cases, node_there}
use Rattle.table_run.proofs.Rows.{IsRow}
use Rattle.table_run.proofs.KeptEvents.{its_part, leaves_with, behind, changed_here}
use Rattle.table_run.proofs.EndFacts.{high_fits}
use Rattle.table_run.proofs.Dispatch.{HasRow, has_row, ack_fits}
use Rattle.table_run.proofs.Exits.{has_exit, exit_by_table}
use Rattle.table_run.proofs.Runs.{run_length}
use Rattle.table_run.proofs.RunLaws.{sound_run, kept_by}

-- a link stays the one it is: its number and its end, and its rate and delay
pub record IsSameLink (old new : LinkState) : Type 0 where
  pub same_to : new.to ≡ old.to
  pub same_number : new.port.link ≡ old.port.link
  pub same_rate : new.port.rate ≡ old.port.rate
  pub same_delay : new.port.delay ≡ old.port.delay

-- what an event leaves of its node's links: they are the same, and only the one over which a packet leaves has sent more
pub record LinksStay (old new : List LinkState) (leaving : Option Leaving) : Type 0 where
  pub same_length : length new ≡ length old
  pub same_links : (index : ℕ) → IsSameLink (link_at old index) (link_at new index)
  pub others_sent : (index : ℕ) → ((l : Leaving) → leaving ≡ Some l → index ≢ l.index) → (link_at new index).port.sent ≡ (link_at old index).port.sent

-- what is so of a packet that leaves: it is the next that its link has sent, to another node of the net, and it comes after all that the link has sent and that is still pending
pub record IsDelivery (s : State) (n : ℕ) (k : Key) (new : List LinkState) (leaving : Leaving) : Type 0 where
  pub within : leaving.index < length (part_at s k.node).links
  pub ends_within : (link_at new leaving.index).to < length s.parts
  pub elsewhere : (link_at new leaving.index).to ≢ k.node
  pub is_next : (link_at new leaving.index).port.sent ≡ (link_at (part_at s k.node).links leaving.index).port.sent + 1
  pub sent_most : (link_at new leaving.index).port.sent ≤ n + 1
  pub fresh : finmap.get s.pending (arrives new leaving).0 ≡ None
  pub last : (q : Key) (w : Event) → finmap.get s.pending q ≡ Some w → q.source ≡ (link_at new leaving.index).port.link + 1 → (q.time < leaving.departure.arrival) × (q.number < (link_at new leaving.index).port.sent)

-- what an arrival needs of its node
module _ (p : ScenarioParts) (is_scenario : IsScenario p) (lines : List TraceLine) (now : ℕ) (s : State) (k : Key) (S : IsSoundAt p lines now s) (moment : k.time ≤ LATEST_END) where
  at_router : (x : Packet) (h : IsArrival p s now k x) → PathGoesOn p (path_of x.kind h.under_way.flow) k.node → CanTakePacket (part_at s k.node) (part_at s k.node).role k.time x
  at_router x h on =
      let U = h.under_way in
      let e = has_exit p lines now s k S (path_of x.kind U.flow) on in
      let exit : exit_for (map (exits_of p k.node) p.flows) x ≡ Some e.index = exit_by_table p k.node x U.flow U.its_flow ∙ e.exit in
      subst (λ ρ. CanTakePacket (part_at s k.node) ρ k.time x) (sym e.role_is) (λ i is. subst (λ j. j < length (part_at s k.node).links) (same_some e.index i (sym exit ∙ is)) e.within)

  at_receiver_end : (x : Packet) (h : IsArrival p s now k x) → x.kind ≡ Data → k.node ≡ h.under_way.flow.receiver → CanTakePacket (part_at s k.node) (part_at s k.node).role k.time x
  at_receiver_end x h is at =
      let U = h.under_way in
      let F = S.each_flow x.flow U.flow U.its_flow in
      let sent : IsSent U.flow (sent_high s U.flow) x = subst (λ c. Carries U.flow (sent_high s U.flow) (received_next s U.flow) c x) is U.carries in
      let whole : x.number % F.received.mss ≡ 0 = subst (λ m. x.number % m ≡ 0) (sym F.same_mss) sent.multiple in
      let fits : x.number ≤ 9000000000000 = (let a = sent.by_high in let b = ap high_of F.sender_role in let most = high_fits F.fields F.sound in omega (arith, a, b, most)) in
      subst (λ ρ. CanTakePacket (part_at s k.node) ρ k.time x) (sym (ap (λ n. (part_at s n).role) at ∙ F.receiver_role)) (subst (λ c. ReceiverTakes F.received c x.number) (sym is) (whole, fits))

  at_sender_end : (x : Packet) (h : IsArrival p s now k x) → IsDue s k (Arrive x) → x.kind ≡ Ack → k.node ≡ h.under_way.flow.sender → CanTakePacket (part_at s k.node) (part_at s k.node).role k.time x
  at_sender_end x h due is at =
      let U = h.under_way in
      let F = S.each_flow x.flow U.flow U.its_flow in
      let given : IsGiven U.flow (sent_high s U.flow) (received_next s U.flow) x = subst (λ c. Carries U.flow (sent_high s U.flow) (received_next s U.flow) c x) is U.carries in
      subst (λ ρ. CanTakePacket (part_at s k.node) ρ k.time x) (sym (ap (λ n. (part_at s n).role) at ∙ F.sender_role))
      (subst (λ c. SenderTakes F.fields k.time c x.number) (sym is) (ack_fits p is_scenario lines now s k S moment x due h F given))

  takes : (x : Packet) → IsDue s k (Arrive x) → IsArrival p s now k x → CanTakePacket (part_at s k.node) (part_at s k.node).role k.time x
  takes x due h = by x.kind refl
    where
      by : (c : Kind) → x.kind ≡ c → CanTakePacket (part_at s k.node) (part_at s k.node).role k.time x
      by Data is =
          let U = h.under_way in
          ⊎_elim
          (λ (ends : h.link.to ≡ U.flow.receiver). at_receiver_end x h is (h.ends_here ∙ ends))
          (λ (on : PathGoesOn p (path_of Data U.flow) h.link.to). at_router x h (subst (λ c. PathGoesOn p (path_of c U.flow) k.node) (sym is) (subst (PathGoesOn p (path_of Data U.flow)) (sym h.ends_here) on)))
          ((paths_go_on_or_end p is_scenario x.flow U.flow U.its_flow).0 h.number h.link (subst (λ c. IsOnWay p (path_of c U.flow) h.number) is U.on_way) h.its_link)
      by Ack is =
          let U = h.under_way in
          ⊎_elim
          (λ (ends : h.link.to ≡ U.flow.sender). at_sender_end x h due is (h.ends_here ∙ ends))
          (λ (on : PathGoesOn p (path_of Ack U.flow) h.link.to). at_router x h (subst (λ c. PathGoesOn p (path_of c U.flow) k.node) (sym is) (subst (PathGoesOn p (path_of Ack U.flow)) (sym h.ends_here) on)))
          ((paths_go_on_or_end p is_scenario x.flow U.flow U.its_flow).1 h.number h.link (subst (λ c. IsOnWay p (path_of c U.flow) h.number) is U.on_way) h.its_link)

  can_run : (v : Event) → IsDue s k v → Belongs p s now k v → CanHandle (part_at s k.node) k.time v
  can_run (Start number) due h = tt
  can_run (Rto number) due h = tt
  can_run (DelAck number) due h = tt
  can_run (Free number) due h = tt
  can_run (Arrive x) due h = takes x due h

-- the sums at a link of a run so long
link_can : (p : ScenarioParts) (s : State) (events : ℕ) (link : LinkState) → events < MOST_EVENTS → IsSoundLink p s events link.port → LinkCan link
link_can p s events link few h = record { sent_fits = (let a = h.sent_most in omega (arith, a, few)); offered_fits = (let a = h.offered_most in omega (arith, a, few)) }

-- what a row leaves of its links, and the packet that leaves
module _ (p : ScenarioParts) (is_scenario : IsScenario p) (lines : List TraceLine) (now : ℕ) (s : State) (k : Key) (v : Event) (S : IsSoundAt p lines now s) (due : IsDue s k v) (r : Shape) (R : IsRow p s k v r (stepped s k (shaped (part_at s k.node) k r))) where
  abbrev t : State
  t = stepped s k (shaped (part_at s k.node) k r)

  abbrev M : IsMoved s k r t
  M = is_moved s k r R.within

  abbrev new_links : List LinkState
  new_links = (shaped (part_at s k.node) k r).part.links

  nodes : k.node < length p.nodes
  nodes = subst (λ n. k.node < n) S.nodes_are (node_there s k.node r.index R.within)

  here_is : (index : ℕ) → link_at (part_at t k.node).links index ≡ link_at new_links index
  here_is index = ap (λ ls. link_at ls index) M.here_links

  same_link : (index : ℕ) → IsSameLink (link_at (part_at s k.node).links index) (link_at new_links index)
  same_link index =
      ⊎_elim
      (λ (c : AtChanged s t k r k.node index).
      subst (λ i. IsSameLink (link_at (part_at s k.node).links i) (link_at new_links index)) (sym c.at_index)
      (subst (IsSameLink (link_before s k r)) (sym c.link_is ∙ here_is index) (record { same_to = refl; same_number = R.moves.stays.same_link; same_rate = R.moves.stays.same_rate; same_delay = R.moves.stays.same_delay })))
      (λ (o : AtOther s t k r k.node index).
      subst (IsSameLink (link_at (part_at s k.node).links index)) (sym o.link_is ∙ here_is index) (record { same_to = refl; same_number = refl; same_rate = refl; same_delay = refl }))
      (link_cases s t k r M R.within k.node index)

  others_sent : (index : ℕ) → ((l : Leaving) → leaving_over r.index r.step.departure ≡ Some l → index ≢ l.index) → (link_at new_links index).port.sent ≡ (link_at (part_at s k.node).links index).port.sent
  others_sent index apart =
      ⊎_elim
      (λ (c : AtChanged s t k r k.node index).
      ap (λ (l : LinkState). l.port.sent) (sym (here_is index) ∙ c.link_is) ∙ unsent r.step.departure refl R.moves.outcome c.at_index ∙ sym (ap (λ i. (link_at (part_at s k.node).links i).port.sent) c.at_index))
      (λ (o : AtOther s t k r k.node index). ap (λ (l : LinkState). l.port.sent) (sym (here_is index) ∙ o.link_is))
      (link_cases s t k r M R.within k.node index)
    where
      unsent : (d : Option Departure) → r.step.departure ≡ d → Outcome (IsUnderWay p t (link_before s k r).port.link) k.time R.before (link_before s k r).port r.step.port d → index ≡ r.index → r.step.port.sent ≡ (link_before s k r).port.sent
      unsent None is h at = h.1
      unsent (Some d) is h at = absurd (apart (record { index = r.index; departure = d }) (ap (leaving_over r.index) is) at)

  links_stay_here : LinksStay (part_at s k.node).links new_links (leaving_over r.index r.step.departure)
  links_stay_here = record { same_length = length-set (part_at s k.node).links r.index (link_after s k r); same_links = same_link; others_sent = others_sent }

  delivers : (n : ℕ) → lines_at k.node lines ≤ n → (d : Departure) → r.step.departure ≡ Some d → IsDelivery s n k new_links (record { index = r.index; departure = d })
  delivers n few d is =
      let out = leaves_with p is_scenario lines now s t k v r S due nodes M R d is in
      let part = its_part p is_scenario lines now s t k v r S due nodes M R in
      let changed : link_at new_links r.index ≡ link_after s k r = sym (here_is r.index) ∙ changed_here p is_scenario lines now s t k v r S due nodes M R in
      let sent : (link_at new_links r.index).port.sent ≡ (link_before s k r).port.sent + 1 = ap (λ (l : LinkState). l.port.sent) changed ∙ out.sent_once in
      let to : (link_at new_links r.index).to ≡ part.part.to = ap (λ (l : LinkState). l.to) changed ∙ part.to_is in
      let limits : IsLinkInLimits (length p.nodes) part.part = all_at (IsLinkInLimits (length p.nodes)) p.links (link_before s k r).port.link part.part is_scenario.in_limits.each_link part.its_part in
      let apart : part.part.from ≢ part.part.to = all_at (λ (l : LinkPart). l.from ≢ l.to) p.links (link_before s k r).port.link part.part is_scenario.kinds.each_link part.its_part in
      let known : IsSoundLink p s (lines_at k.node lines) (link_before s k r).port = all_here (λ (l : LinkState). IsSoundLink p s (lines_at k.node lines) l.port) (part_at s k.node).links r.index no_link R.within (S.each_node k.node nodes).each_link in
      let last = before_it d is in
      record {
        within = R.within;
        ends_within = subst (λ m. (link_at new_links r.index).to < m) (sym S.nodes_are) (subst (λ m. m < length p.nodes) (sym to) limits.to_node);
        elsewhere = λ same. apart (part.from_here ∙ sym same ∙ to);
        is_next = sent;
        sent_most = (let a = known.sent_most in omega (arith, a, few, sent));
        fresh = none_or (finmap.get s.pending (arrives new_links (record { index = r.index; departure = d })).0) (λ w there. let b = (last (arrives new_links (record { index = r.index; departure = d })).0 w there refl).1 in absurd (not_below (link_at new_links r.index).port.sent b));
        last = last;
      }
    where
      not_below : (m : ℕ) → m < m → ⊥
      not_below m h = omega (arith, h)

      zero_source : (q : Key) (number : ℕ) → q.source ≡ 0 → q.source ≡ number + 1 → ⊥
      zero_source q number a b = omega (arith, a, b)

      -- a pending key whose source is a link is an arrival
      of_source : (q : Key) (w : Event) (number : ℕ) → q.source ≡ number + 1 → Belongs p s now q w → (x : Packet) × (w ≡ Arrive x)
      of_source q (Start j) number source h = absurd (zero_source q number (ap (λ (z : Key). z.source) h.is_key) source)
      of_source q (Rto j) number source h = absurd (zero_source q number (ap (λ (z : Key). z.source) h.timer.is_key) source)
      of_source q (DelAck j) number source h = absurd (zero_source q number (ap (λ (z : Key). z.source) h.timer.is_key) source)
      of_source q (Free j) number source h = absurd (zero_source q number (ap (λ (z : Key). z.source) h.timer.is_key) source)
      of_source q (Arrive x) number source h = (x, refl)

      before_it : (d : Departure) → r.step.departure ≡ Some d → (q : Key) (w : Event) → finmap.get s.pending q ≡ Some w → q.source ≡ (link_at new_links r.index).port.link + 1 → (q.time < d.arrival) × (q.number < (link_at new_links r.index).port.sent)
      before_it d is q w there source =
          let arrival = of_source q w (link_at new_links r.index).port.link source (S.belongs q w there) in
          let facts = behind p is_scenario lines now s t k v r S due nodes M R d is q arrival.0 (there ∙ ap Some arrival.1) (source ∙ ap (λ (l : LinkState). l.port.link + 1) (sym (here_is r.index))) in
          (facts.1, subst (λ (l : LinkState). q.number < l.port.sent) (here_is r.index) facts.0)

-- a packet that leaves is that of the row
of_leaving : (G : Leaving → Type 0) (index : ℕ) (departure : Option Departure) (l : Leaving) → leaving_over index departure ≡ Some l → ((d : Departure) → departure ≡ Some d → G (record { index = index; departure = d })) → G l
of_leaving G index None l e from = absurd (not_some e)
of_leaving G index (Some d) l e from = subst G (same_some (record { index = index; departure = d }) l e) (from d refl)

module _ (p : ScenarioParts) (n : ℕ) (lines : List TraceLine) (s : State) (is_scenario : IsScenario p) (comes : ComesTo p n lines s) (k : Key) (v : Event) (is_next : due s ≡ Some (k, v)) where
  sound : IsSoundRun p lines s
  sound = sound_run p n lines s is_scenario comes

  its_due : IsDue s k v
  its_due = is_due s k v is_next

  moment : k.time ≤ LATEST_END
  moment = (let a = its_due.in_time in let b = sound.sound.end_is in let c = is_scenario.in_limits.end_range.1 in omega (arith, a, b, c))

  has : HasRow p s k v
  has = has_row p is_scenario lines sound.moment s k sound.sound moment v its_due (sound.sound.belongs k v its_due.pending)

  few_lines : (node : ℕ) → lines_at node lines ≤ n
  few_lines node = (let a = count_by-le-length (λ (line : TraceLine). line.key.node == node) lines in let b = run_length n (initial p) s lines comes in omega (arith, a, b))

  -- its node is there
  pub node_within : k.node < length s.parts
  node_within = (kept_by p lines s k v is_scenario sound is_next).within

  -- the event can be run at its node, after fewer events there than a run may have
  pub runnable_by : lines_at k.node lines < MOST_EVENTS → IsRunnable (part_at s k.node) k v
  runnable_by few = record {
    moment = moment;
    can = can_run p is_scenario lines sound.moment s k sound.sound moment v its_due (sound.sound.belongs k v its_due.pending);
    links = all_map (λ (l : LinkState). IsSoundLink p s (lines_at k.node lines) l.port) LinkCan (λ l. link_can p s (lines_at k.node lines) l few) (part_at s k.node).links
        (sound.sound.each_node k.node (subst (λ m. k.node < m) sound.sound.nodes_are node_within)).each_link;
  }

  pub runnable : n < MOST_EVENTS → IsRunnable (part_at s k.node) k v
  runnable short = runnable_by (let few = few_lines k.node in omega (arith, few, short))

  pub links_stay : LinksStay (part_at s k.node).links (effect_of s (k, v)).part.links (effect_of s (k, v)).leaving
  links_stay = subst (λ (e : Effect). LinksStay (part_at s k.node).links e.part.links e.leaving) (sym has.effect_is) (links_stay_here p is_scenario lines sound.moment s k v sound.sound its_due has.shape has.row)

  -- the same by the events at the node
  pub delivery_by : (most : ℕ) → lines_at k.node lines ≤ most → (leaving : Leaving) → (effect_of s (k, v)).leaving ≡ Some leaving → IsDelivery s most k (effect_of s (k, v)).part.links leaving
  delivery_by most few leaving is =
      subst (λ (e : Effect). IsDelivery s most k e.part.links leaving) (sym has.effect_is)
      (of_leaving (IsDelivery s most k (shaped (part_at s k.node) k has.shape).part.links) has.shape.index has.shape.step.departure leaving (sym (ap (λ (e : Effect). e.leaving) has.effect_is) ∙ is)
      (delivers p is_scenario lines sound.moment s k v sound.sound its_due has.shape has.row most few))

  pub delivery : (leaving : Leaving) → (effect_of s (k, v)).leaving ≡ Some leaving → IsDelivery s n k (effect_of s (k, v)).part.links leaving
  delivery = delivery_by n (few_lines k.node)
