-- A link of the event's node that the event does not free, and to which it offers nothing, is as it was.
use Rattle.std.proofs.Common.{◌≡◌, ◌≢◌, ℕ, ◌-◌, ◌<◌, ◌==◌, Bool, true, false, cond, not, List, [], ◌∷◌, length, refl, sym, ap, ◌∙◌, Option, None, Some, arith, eq-eqb, eqb-true, true≢false, ⊎_elim}
use Rattle.std.proofs.lemmas.Bool.{cases_eq}
use Rattle.packet_chain.specs.declared.packet.Packet.{Packet}
use Rattle.packet_chain.specs.Stamped.{Stamped}
use Rattle.aqm.specs.Queue.{taken_from}
use Rattle.port.specs.Port.{PortState, begun, taken, offered_all}
use Rattle.scenario_image.specs.declared.parts.ScenarioParts.{ScenarioParts}
use Rattle.scenario_image.specs.Scenario.{IsScenario}
use Rattle.node_core.specs.declared.event.Event.{Event}
use Rattle.node_core.specs.declared.event.Event.TheVariants.{Start, Rto, DelAck, Free, Arrive}
use Rattle.node_core.specs.Part.{PartState, link_at}
use Rattle.node_core.specs.Row.{row}
use Rattle.node_core.specs.TraceLine.{TraceLine}
use Rattle.table_run.specs.State.{State, part_at, step}
use Rattle.table_run.specs.Laws.{ComesTo}
use Rattle.net_machine.specs.Run.{Reached}
use Rattle.figures.specs.Links.{port_at, frees, is_free, counts_link, KeepsLinks}
use Rattle.figures.specs.declared.figures.Figures.{Figures}
use Rattle.figures.specs.Figures.{AreOfSomeRun}
use Rattle.figures.proofs.Freed.{freed}
use Rattle.figures.proofs.Offerings.{Offering, start_offers, rto_offers, delack_offers, arrival_offers}
use Rattle.figures.proofs.Passages.{grows, changed_here, changed_elsewhere, offering, free_links}

-- where as many were offered, nothing was done
pub none_offered : (now : ℕ) (old new : PortState) (packets : List Packet) → new ≡ (offered_all now old packets).port → new.offered ≡ old.offered → new ≡ old
none_offered now old new [] is same = is
none_offered now old new (packet ∷ packets) is same =
    let more = grows now old (packet ∷ packets) in
    let at = ap (λ (q : PortState). q.offered) is in
    let long : length (packet ∷ packets) ≢ 0 = λ none. omega (arith, none) in
    absurd (omega (arith, more, at, same, long))

-- a link that takes from its queue is offered nothing
begun_offers : (now : ℕ) (port : PortState) (given : Option Stamped) → (begun now port given).port.offered ≡ port.offered
begun_offers now port None = refl
begun_offers now port (Some cell) = refl

taken_offers : (now : ℕ) (port : PortState) → (taken now port).port.offered ≡ port.offered
taken_offers now port = let take = taken_from port.queue now in begun_offers now (record port { queue = take.queue }) take.given

not_false : (b : Bool) → not b ≡ false → b ≡ true
not_false true is = refl
not_false false is = absurd (true≢false is)

module _ (p : ScenarioParts) (is_scenario : IsScenario p) (n : ℕ) (lines : List TraceLine) (s : State) (comes : ComesTo p n lines s) (line : TraceLine) (t : State) (next : step s ≡ Some (line, t)) (i : ℕ) (inside : i < length (part_at s line.key.node).links) where
  abbrev part : PartState
  part = part_at s line.key.node

  abbrev was : PortState
  was = port_at s line.key.node i

  abbrev now_is : PortState
  now_is = port_at t line.key.node i

  abbrev Keeps : Event → Type 0
  Keeps v = (now_is ≡ was) × (frees now_is.link v ≡ false)

  stays : (v : Event) → line.event ≡ v → Offering part line.key.time (row part line.key v) → not (now_is.offered == was.offered) ≡ false → now_is ≡ was
  stays v event offers test =
      let o = offering p is_scenario n lines s comes line t next i inside v event offers in
      none_offered line.key.time was now_is o.packets o.port_is (eqb-true now_is.offered was.offered (not_false (now_is.offered == was.offered) test))

  unfreed : i ≢ line.key.number - 3 → (b : Bool) → frees now_is.link line.event ≡ b → b ≡ false
  unfreed apart true test = (let key = freed p is_scenario n lines s comes line t next i inside test in let number = key.1 in absurd (apart (omega (arith, number))))
  unfreed apart false test = refl

  by_event : (v : Event) → line.event ≡ v → cond (is_free v) (i == line.key.number - 3) (not (now_is.offered == was.offered)) ≡ false → Keeps v
  by_event (Start flow) event test = (stays (Start flow) event (start_offers part part.role line.key) test, refl)
  by_event (Rto flow) event test = (stays (Rto flow) event (rto_offers part part.role line.key) test, refl)
  by_event (DelAck flow) event test = (stays (DelAck flow) event (delack_offers part part.role line.key) test, refl)
  by_event (Arrive packet) event test = (stays (Arrive packet) event (arrival_offers part part.role line.key packet) test, refl)
  by_event (Free number) event test =
      let apart : i ≢ line.key.number - 3 = λ at. true≢false (sym (eq-eqb i (line.key.number - 3) at) ∙ test) in (
        changed_elsewhere line.key.time part.links (part_at t line.key.node).links line.acts i inside (line.key.number - 3) _ apart (free_links p is_scenario n lines s comes line t next i inside number event),
        unfreed apart (frees now_is.link (Free number)) (ap (frees now_is.link) event),
      )

  -- where one is freed, no packet is offered to any
  pub none_offered_where : (v : Event) → line.event ≡ v → is_free v ≡ true → now_is.offered ≡ was.offered
  none_offered_where (Start flow) event free = absurd (true≢false (sym free))
  none_offered_where (Rto flow) event free = absurd (true≢false (sym free))
  none_offered_where (DelAck flow) event free = absurd (true≢false (sym free))
  none_offered_where (Arrive packet) event free = absurd (true≢false (sym free))
  none_offered_where (Free number) event free =
      let links = free_links p is_scenario n lines s comes line t next i inside number event in
      let index = line.key.number - 3 in
      ⊎_elim
      (λ (at : i ≡ index). ap (λ (q : PortState). q.offered) (changed_here line.key.time part.links (part_at t line.key.node).links line.acts i inside index _ at links) ∙ taken_offers line.key.time (link_at part.links index).port ∙ ap (λ j. (link_at part.links j).port.offered) (sym at))
      (λ (apart : i ≢ index). ap (λ (q : PortState). q.offered) (changed_elsewhere line.key.time part.links (part_at t line.key.node).links line.acts i inside index _ apart links))
      (cases_eq i index)

  pub keeps_link : counts_link i was.offered now_is line ≡ false → Keeps line.event
  keeps_link test = by_event line.event refl test

pub keeps_in_run : (f : Figures) (r : Reached) (line : TraceLine) (t : State) → AreOfSomeRun f r → step r.state ≡ Some (line, t) → KeepsLinks r.state line t
keeps_in_run f r line t some next i inside test = keeps_link some.scenario some.is_scenario r.position some.of.lines r.state some.of.comes line t next i inside test
