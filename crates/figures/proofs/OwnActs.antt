-- The acts that are counted of a link are those whose own link it is.
use Rattle.std.proofs.Common.{◌≡◌, ◌≢◌, ℕ, ◌<◌, ◌==◌, Bool, true, false, cond, not, ◌||◌, ◌⊎◌, List, [], ◌∷◌, length, refl, sym, ap, subst, ◌∙◌, Option, Some, None, arith, eq-eqb, true≢false, inl, inr, ⊎_elim}
use Rattle.std.specs.List.{AllByRecursion}
use Rattle.std.specs.Option.{option_map}
use Rattle.std.proofs.lemmas.Bool.{cases_eq}
use Rattle.packet_chain.specs.declared.packet.Packet.{Packet}
use Rattle.packet_chain.specs.Stamped.{Stamped}
use Rattle.aqm.specs.Queue.{taken_from}
use Rattle.port.specs.declared.acts.Act.{Act}
use Rattle.port.specs.Port.{PortState, PortStep, begun, offered_all}
use Rattle.scenario_image.specs.declared.parts.ScenarioParts.{ScenarioParts}
use Rattle.scenario_image.specs.Scenario.{IsScenario}
use Rattle.node_core.specs.Part.{PartState, link_at}
use Rattle.node_core.specs.TraceLine.{TraceLine}
use Rattle.tournament.proofs.Maps.{same_some, not_some}
use Rattle.table_run.specs.State.{State, part_at, due, step_at, step}
use Rattle.table_run.specs.Laws.{ComesTo}
use Rattle.table_run.proofs.Moved.{node_there}
use Rattle.table_run.proofs.RunLaws.{sound_run}
use Rattle.run_laws.specs.Links.{link_of}
use Rattle.run_laws.proofs.Ports.{taken_balances, one_balances, all_balance}
use Rattle.run_laws.proofs.Touched.{Touches, by_offers, by_offer, by_take}
use Rattle.run_laws.proofs.Events.{its_own, AtLink, IsLeft, IsDone, at_link}
use Rattle.figures.specs.Links.{port_at, frees, acts_between, acts_at}
use Rattle.figures.specs.Laws.{ActsAreOfTheirLink}
use Rattle.figures.proofs.Along.{of_due}
use Rattle.figures.proofs.Counts.{test_no}
use Rattle.figures.proofs.Kept.{none_offered}
use Rattle.figures.proofs.Passages.{Passage, passage}
use Rattle.figures.proofs.Steps.{IsStep, is_step, part_elsewhere, links_stay}

-- a link that takes from its queue is another then: it is idle, or has sent one more
begins : (now : ℕ) (queued : PortState) (given : Option Stamped) (old : PortState) → queued.sent ≡ old.sent → old.next_free ≡ Some now → (begun now queued given).port ≡ old → ⊥
begins now queued None old sent free same = not_some (ap (λ (q : PortState). q.next_free) same ∙ free)
begins now queued (Some head) old sent free same = let more = ap (λ (q : PortState). q.sent) same in omega (arith, more, sent)

none_left : (now : ℕ) (old : PortState) (packets : List Packet) → (offered_all now old packets).port ≡ old → (offered_all now old packets).acts ≡ []
none_left now old [] same = refl
none_left now old (packet ∷ packets) same =
    let more = (all_balance now old (packet ∷ packets)).offered in
    let at = ap (λ (q : PortState). q.offered) same in
    absurd (omega (arith, more, at))

-- where a link stays as it is nothing was done at it
still_none : (now : ℕ) (old : PortState) (done : PortStep) → Touches now old done → done.port ≡ old → done.acts ≡ []
still_none now old done (by_offers packets is) same = ap (λ (x : PortStep). x.acts) is ∙ none_left now old packets (ap (λ (x : PortStep). x.port) (sym is) ∙ same)
still_none now old done (by_offer packet is) same =
    let more = (one_balances now old packet).offered in
    let at = ap (λ (q : PortState). q.offered) (ap (λ (x : PortStep). x.port) (sym is) ∙ same) in
    absurd (omega (arith, more, at))
still_none now old done (by_take free is) same =
    absurd (begins now (record old { queue = (taken_from old.queue now).queue }) (taken_from old.queue now).given old refl free (ap (λ (x : PortStep). x.port) (sym is) ∙ same))

none_done : (now : ℕ) (old new : PortState) (own : List Act) → IsLeft old new own ⊎ IsDone now old new own → new ≡ old → own ≡ []
none_done now old new own (inl left) same = left.none
none_done now old new own (inr is) same = is.acts_are ∙ still_none now old is.step is.touches (sym is.new_is ∙ same)

-- acts that are all of one link are its own
own_all : (number : ℕ) (acts : List Act) → AllByRecursion (λ (act : Act). link_of act ≡ number) acts → its_own number acts ≡ acts
own_all number [] all = refl
own_all number (act ∷ acts) all =
    ap (λ b. cond b (act ∷ its_own number acts) (its_own number acts)) (eq-eqb (link_of act) number all.0) ∙ ap (λ rest. act ∷ rest) (own_all number acts all.1)

-- all that an event does is at the link, or it leaves the link as it was
all_own : (now : ℕ) (old new : PortState) (freed : Bool) (acts line : List Act) → Passage now old new freed acts → acts ≡ line → acts ≡ its_own old.link line
all_own now old new freed acts line (inl is) same =
    sym (own_all old.link line (subst (AllByRecursion (λ (act : Act). link_of act ≡ old.link)) (sym is.acts_are ∙ same) (taken_balances now old).its) ∙ sym same)
all_own now old new freed acts line (inr is) same =
    sym (own_all old.link line (subst (AllByRecursion (λ (act : Act). link_of act ≡ old.link)) (sym is.acts_are ∙ same) (all_balance now old is.packets).its) ∙ sym same)

left_as_it_was : (now : ℕ) (old new : PortState) (freed : Bool) (acts : List Act) → Passage now old new freed acts → freed || not (new.offered == old.offered) ≡ false → new ≡ old
left_as_it_was now old new true acts passed none = absurd (true≢false none)
left_as_it_was now old new false acts (inl is) none = absurd (true≢false (sym is.test))
left_as_it_was now old new false acts (inr is) none = none_offered now old new is.packets is.port_is (same new.offered old.offered none)
  where
    same : (a b : ℕ) → not (a == b) ≡ false → a ≡ b
    same a b none = ⊎_elim (λ (e : a ≡ b). e) (λ (apart : a ≢ b). absurd (true≢false (ap not (sym (test_no a b apart)) ∙ none))) (cases_eq a b)

between : (now : ℕ) (old new : PortState) (freed b : Bool) (line : List Act) → freed || not (new.offered == old.offered) ≡ b → Passage now old new freed (cond b line []) → IsLeft old new (its_own old.link line) ⊎ IsDone now old new (its_own old.link line) →
    cond b line [] ≡ its_own old.link line
between now old new freed true line test passed does = all_own now old new freed line line passed refl
between now old new freed false line test passed does = sym (none_done now old new (its_own old.link line) does (left_as_it_was now old new freed [] passed test))

module _ (p : ScenarioParts) (n : ℕ) (lines : List TraceLine) (s : State) (is_scenario : IsScenario p) (comes : ComesTo p n lines s) (line : TraceLine) (t : State) (next : step s ≡ Some (line, t)) (node index : ℕ) (inside : index < length (part_at s node).links) where
  abbrev is : IsStep s line t
  is = is_step s line t next

  due_is : due s ≡ Some (line.key, line.event)
  due_is = of_due s (due s) line t next

  same_step : step_at s (line.key, line.event) ≡ (line, t)
  same_step = same_some (step_at s (line.key, line.event)) (line, t) (ap (option_map (step_at s)) (sym due_is) ∙ next)

  within_after : index < length (part_at t node).links
  within_after =
      let there = node_there s node index inside in
      let same = links_stay s line t is node there in
      omega (arith, inside, same)

  -- what the event does at the link
  at : AtLink s t line.key.time line node index
  at =
      subst (λ (x : TraceLine × State). index < length (part_at x.1 node).links → AtLink s x.1 line.key.time x.0 node index) same_step
      (at_link p is_scenario lines s line.key line.event (sound_run p n lines s is_scenario comes) due_is node index) within_after

  here : line.key.node ≡ node → acts_between (port_at s node index).offered (port_at t node index) line ≡ its_own (port_at s node index).link line.acts
  here same =
      let passed = subst (λ k. Passage line.key.time (port_at s k index) (port_at t k index) (frees (port_at t k index).link line.event) (acts_between (port_at s k index).offered (port_at t k index) line)) same
      (passage p is_scenario n lines s comes line t next index (subst (λ k. index < length (part_at s k).links) (sym same) inside)) in
      between line.key.time (port_at s node index) (port_at t node index) (frees (port_at t node index).link line.event) _ line.acts refl passed at.does

  there : line.key.node ≢ node → [] ≡ its_own (port_at s node index).link line.acts
  there apart =
      sym (none_done line.key.time (port_at s node index) (port_at t node index) (its_own (port_at s node index).link line.acts) at.does
      (ap (λ (x : PartState). (link_at x.links index).port) (part_elsewhere s line t is node (λ same. apart (sym same)))))

  abbrev acts : List Act
  acts = acts_between (port_at s node index).offered (port_at t node index) line

  own_acts : acts_at node index (record { before = s; line = line; after = t }) ≡ its_own (port_at s node index).link line.acts
  own_acts =
      ⊎_elim
      (λ (same : line.key.node ≡ node). ap (λ b. cond b acts []) (eq-eqb line.key.node node same) ∙ here same)
      (λ (apart : line.key.node ≢ node). ap (λ b. cond b acts []) (test_no line.key.node node apart) ∙ there apart)
      (cases_eq line.key.node node)

pub acts_are_of_their_link : ActsAreOfTheirLink
acts_are_of_their_link = own_acts
