-- An event that frees no link offers packets to one link of its node, or to none.
use Rattle.std.proofs.Common.{◌≡◌, ◌≢◌, ℕ, ◌<◌, ◌≤◌, false, List, length, get_or, sym, ap, subst, ◌∙◌, Some, arith, true≢false, inl, inr, ⊎_elim}
use Rattle.std.proofs.lemmas.Bool.{cases_eq}
use Rattle.sim_time.specs.declared.limits.TheConstants.{MOST_EVENTS}
use Rattle.port.specs.Port.{PortState}
use Rattle.node_core.specs.declared.event.Event.{Event}
use Rattle.node_core.specs.declared.event.Event.TheVariants.{Start, Rto, DelAck, Free, Arrive}
use Rattle.node_core.specs.Node.{NodeState}
use Rattle.node_core.specs.Part.{LinkState, PartState, link_at}
use Rattle.node_core.specs.Row.{Effect, row}
use Rattle.node_core.specs.TraceLine.{TraceLine}
use Rattle.table_run.specs.State.{State, part_at, step}
use Rattle.table_run.proofs.Moved.{node_there}
use Rattle.net_machine.specs.Nodes.{parts_of, node_at}
use Rattle.figures.specs.declared.link.LinkFigures.{LinkFigures}
use Rattle.figures.specs.declared.links.NodeLinks.{NodeLinks}
use Rattle.figures.specs.Figures.{AreOfLinks}
use Rattle.figures.specs.Links.{port_at, is_free, IsFew, AreOfNode, OffersToOne, FreesOrOffers, EachFreedOrOffered, AllFreedOrOffered}
use Rattle.figures.specs.Moments.{Moment, Base}
use Rattle.figures.proofs.Begun.{part_is}
use Rattle.figures.proofs.Offerings.{OffersTo, Offering, start_offers, rto_offers, delack_offers, arrival_offers}
use Rattle.figures.proofs.OfLinks.{few_more}
use Rattle.figures.proofs.Passages.{changed_elsewhere}
use Rattle.figures.proofs.Steps.{is_step, part_here}

module _ (s : State) (line : TraceLine) (t : State) (next : step s ≡ Some (line, t)) where
  abbrev part : PartState
  part = part_at s line.key.node

  -- other packets were offered to a link than before
  abbrev Differs : ℕ → Type 0
  Differs i = (port_at t line.key.node i).offered ≢ (port_at s line.key.node i).offered

  at_index : (e : Effect) (o : OffersTo part line.key.time e) → (part_at t line.key.node).links ≡ e.part.links → (i : ℕ) → i < length part.links → Differs i → i ≡ o.index
  at_index e o are i inside differs =
      ⊎_elim
      (λ (at : i ≡ o.index). at)
      (λ (apart : i ≢ o.index). absurd (differs (ap (λ (q : PortState). q.offered) (changed_elsewhere line.key.time part.links (part_at t line.key.node).links line.acts i inside o.index _ apart (are ∙ o.links_are)))))
      (cases_eq i o.index)

  by_row : (e : Effect) → Offering part line.key.time e → (part_at t line.key.node).links ≡ e.part.links → (i j : ℕ) → i < length part.links → j < length part.links → Differs i → Differs j → i ≡ j
  by_row e (inl o) are i j first second one other = at_index e o are i first one ∙ sym (at_index e o are j second other)
  by_row e (inr quiet) are i j first second one other = absurd (one (ap (λ (ls : List LinkState). (link_at ls i).port.offered) (are ∙ quiet.links_are)))

  offers : (v : Event) → is_free v ≡ false → Offering part line.key.time (row part line.key v)
  offers (Start flow) none = start_offers part part.role line.key
  offers (Rto flow) none = rto_offers part part.role line.key
  offers (DelAck flow) none = delack_offers part part.role line.key
  offers (Arrive packet) none = arrival_offers part part.role line.key packet
  offers (Free number) none = absurd (true≢false none)

  one_offered : is_free line.event ≡ false → (i j : ℕ) → i < length part.links → j < length part.links → Differs i → Differs j → i ≡ j
  one_offered none i j first second one other =
      let within : line.key.node < length s.parts = node_there s line.key.node i first in
      by_row (row part line.key line.event) (offers line.event none) (ap (λ (p : PartState). p.links) (part_here s line t (is_step s line t next) within)) i j first second one other

  -- so it is told by what was counted before
  pub one_link : (b : Base) (ms : List Moment) (nodes : List NodeState) → parts_of nodes ≡ t.parts → (fs old : List NodeLinks) → old ≡ fs → AreOfLinks b ms s fs → is_free line.event ≡ false →
      (other : NodeLinks) → line.key.node < length old → OffersToOne (get_or old line.key.node other).figures.items (node_at nodes line.key.node).part.links
  one_link b ms nodes parts fs old old_is is none other within i j f g first second one another =
      let node = line.key.node in
      let all : AreOfNode b ms s node (get_or old node other).figures.items =
      subst (λ (xs : List NodeLinks). AreOfNode b ms s node (get_or xs node other).figures.items) (sym old_is) (is.each node other (let same = ap length old_is in omega (arith, within, same, is.count))) in
      let now_is : (k : ℕ) → (link_at (node_at nodes node).part.links k).port.offered ≡ (port_at t node k).offered = λ k. ap (λ (p : PartState). (link_at p.links k).port.offered) (part_is nodes t node parts) in
      one_offered none i j (omega (arith, first, all.size)) (omega (arith, second, all.size))
      (λ same. one (now_is i ∙ same ∙ sym (all.each i f first).offered))
      (λ same. another (now_is j ∙ same ∙ sym (all.each j g second).offered))

  -- a link is freed or offered packets, also by what was counted before
  pub each_freed_or_offered : (b : Base) (ms : List Moment) (nodes : List NodeState) → parts_of nodes ≡ t.parts → (fs old : List NodeLinks) → old ≡ fs → AreOfLinks b ms s fs → EachFreedOrOffered s line t →
      (other : NodeLinks) → line.key.node < length old → AllFreedOrOffered (get_or old line.key.node other).figures.items (node_at nodes line.key.node).part.links line
  each_freed_or_offered b ms nodes parts fs old old_is is sends other within i link inside =
      let node = line.key.node in
      let figures = (get_or old node other).figures.items in
      let all : AreOfNode b ms s node figures =
      subst (λ (xs : List NodeLinks). AreOfNode b ms s node (get_or xs node other).figures.items) (sym old_is) (is.each node other (let same = ap length old_is in omega (arith, within, same, is.count))) in
      let now_is : port_at t node i ≡ (link_at (node_at nodes node).part.links i).port = ap (λ (p : PartState). (link_at p.links i).port) (sym (part_is nodes t node parts)) in
      subst (λ (q : PortState). FreesOrOffers (get_or figures i link).offered q line) now_is
      (subst (λ n. FreesOrOffers n (port_at t node i) line) (sym (all.each i link inside).offered) (sends i (omega (arith, inside, all.size))))

-- what is counted of each link is no more than what 10^15 events count
pub few_each : (b : Base) (ms : List Moment) (s : State) (fs : List NodeLinks) → AreOfLinks b ms s fs → length ms ≤ MOST_EVENTS →
    (node : ℕ) (other : NodeLinks) (i : ℕ) (link : LinkFigures) → node < length fs → i < length (get_or fs node other).figures.items → IsFew MOST_EVENTS (get_or (get_or fs node other).figures.items i link)
few_each b ms s fs is most node other i link within inside =
    few_more (length ms) MOST_EVENTS (get_or (get_or fs node other).figures.items i link) most ((is.each node other (omega (arith, within, is.count))).each i link inside).few
