-- What an event does at each link of its node: it frees the link, or offers packets to it, at most links none.
use Rattle.std.proofs.Common.{◌≡◌, ◌≢◌, ℕ, ◌+◌, ◌-◌, ◌<◌, ◌==◌, Bool, true, false, cond, not, ◌||◌, List, [], ◌∷◌, length, set, refl, sym, ap, subst, ◌∙◌, Some, arith, eq-eqb, true≢false, ◌⊎◌, inl, inr, ⊎_elim}
use Rattle.std.proofs.lemmas.Bool.{cases_eq}
use Rattle.std.proofs.lemmas.List.{get_or-set_same, get_or-set_other}
use Rattle.packet_chain.specs.declared.packet.Packet.{Packet}
use Rattle.port.specs.declared.acts.Act.{Act}
use Rattle.port.specs.Port.{PortState, taken, offered_one, offered_all}
use Rattle.port.proofs.StepLaws.{one_counts}
use Rattle.scenario_image.specs.declared.parts.ScenarioParts.{ScenarioParts}
use Rattle.scenario_image.specs.Scenario.{IsScenario}
use Rattle.sim_time.specs.declared.key.Key.{Key}
use Rattle.node_core.specs.declared.event.Event.{Event}
use Rattle.node_core.specs.declared.event.Event.TheVariants.{Start, Rto, DelAck, Free, Arrive}
use Rattle.node_core.specs.Part.{LinkState, PartState, no_link, link_at}
use Rattle.node_core.specs.Row.{Effect, row}
use Rattle.node_core.specs.TraceLine.{TraceLine}
use Rattle.table_run.specs.State.{State, part_at, step}
use Rattle.table_run.specs.Laws.{ComesTo}
use Rattle.table_run.specs.Sound.{Belongs}
use Rattle.table_run.proofs.Moved.{node_there}
use Rattle.figures.specs.Links.{port_at, frees, acts_between}
use Rattle.figures.proofs.Counts.{test_no}
use Rattle.figures.proofs.Steps.{IsStep, is_step, part_here}
use Rattle.figures.proofs.Freed.{before, belongs, freed, number_stays}
use Rattle.figures.proofs.Offerings.{Offering, start_offers, rto_offers, delack_offers, arrival_offers}

-- the link takes from its queue
pub record IsFreed (now : ℕ) (old new : PortState) (freed : Bool) (acts : List Act) : Type 0 where
  pub test : freed ≡ true
  pub port_is : new ≡ (taken now old).port
  pub acts_are : acts ≡ (taken now old).acts

-- packets are offered to it
pub record IsOffered (now : ℕ) (old new : PortState) (freed : Bool) (acts : List Act) : Type 0 where
  pub test : freed ≡ false
  pub packets : List Packet
  pub port_is : new ≡ (offered_all now old packets).port
  pub acts_are : acts ≡ (offered_all now old packets).acts

abbrev pub Passage : ℕ → PortState → PortState → Bool → List Act → Type 0
Passage now old new freed acts = IsFreed now old new freed acts ⊎ IsOffered now old new freed acts

-- each packet that is offered is counted
pub grows : (now : ℕ) (port : PortState) (packets : List Packet) → (offered_all now port packets).port.offered ≡ port.offered + length packets
grows now port [] = omega arith
grows now port (packet ∷ packets) = let first = (one_counts now port packet).offered in let rest = grows now (offered_one now port packet).port packets in omega (arith, first, rest)

none_either : (b : Bool) (xs : List Act) → xs ≡ [] → cond b xs [] ≡ []
none_either true xs is = is
none_either false xs is = refl

-- the acts where the link is not freed
abbrev between : ℕ → ℕ → List Act → List Act
between was is acts = cond (not (is == was)) acts []

reported : (now : ℕ) (old : PortState) (packets : List Packet) (acts : List Act) → acts ≡ (offered_all now old packets).acts → between old.offered (offered_all now old packets).port.offered acts ≡ (offered_all now old packets).acts
reported now old [] acts are = none_either _ acts are
reported now old (packet ∷ packets) acts are =
    let more = grows now old (packet ∷ packets) in
    ap (λ b. cond (not b) acts []) (test_no (offered_all now old (packet ∷ packets)).port.offered old.offered (λ same. omega (arith, more, same))) ∙ are

-- a link to which nothing was done
still : (now : ℕ) (old new : PortState) (acts : List Act) → new ≡ old → IsOffered now old new false (between old.offered new.offered acts)
still now old new acts same = record {
  test = refl;
  packets = [];
  port_is = same;
  acts_are = ap (λ b. cond (not b) acts []) (eq-eqb new.offered old.offered (ap (λ (q : PortState). q.offered) same));
}

module _ (now : ℕ) (links links' : List LinkState) (acts : List Act) (i : ℕ) (inside : i < length links) where
  abbrev old : PortState
  old = (link_at links i).port

  abbrev new : PortState
  new = (link_at links' i).port

  pub changed_here : (index : ℕ) (port : PortState) → i ≡ index → links' ≡ set links index (record (link_at links index) { port = port }) → new ≡ port
  changed_here index port at are =
      ap (λ (ls : List LinkState). (link_at ls i).port) are ∙ ap (λ j. (link_at (set links index (record (link_at links index) { port = port })) j).port) at
      ∙ ap (λ (l : LinkState). l.port) (get_or-set_same links index (record (link_at links index) { port = port }) no_link (subst (λ j. j < length links) at inside))

  pub changed_elsewhere : (index : ℕ) (port : PortState) → i ≢ index → links' ≡ set links index (record (link_at links index) { port = port }) → new ≡ old
  changed_elsewhere index port apart are =
      ap (λ (ls : List LinkState). (link_at ls i).port) are ∙ ap (λ (l : LinkState). l.port) (get_or-set_other links index i (record (link_at links index) { port = port }) no_link apart)

  offered_here : (index : ℕ) (packets : List Packet) → i ≡ index → new ≡ (offered_all now (link_at links index).port packets).port → acts ≡ (offered_all now (link_at links index).port packets).acts → IsOffered now old new false (between old.offered new.offered acts)
  offered_here index packets at port are =
      let port_is : new ≡ (offered_all now old packets).port = port ∙ ap (λ j. (offered_all now (link_at links j).port packets).port) (sym at) in
      record {
        test = refl;
        packets = packets;
        port_is = port_is;
        acts_are = ap (λ (q : PortState). between old.offered q.offered acts) port_is
            ∙ reported now old packets acts (are ∙ ap (λ j. (offered_all now (link_at links j).port packets).acts) (sym at));
      }

  offers : (part : PartState) (e : Effect) → links ≡ part.links → links' ≡ e.part.links → acts ≡ e.acts → Offering part now e → IsOffered now old new false (between old.offered new.offered acts)
  offers part e before after acts_are (inl o) =
      let links_are : links' ≡ set links o.index (record (link_at links o.index) { port = (offered_all now (link_at links o.index).port o.packets).port }) =
      after ∙ o.links_are ∙ ap (λ (ls : List LinkState). set ls o.index (record (link_at ls o.index) { port = (offered_all now (link_at ls o.index).port o.packets).port })) (sym before) in
      let all_acts : acts ≡ (offered_all now (link_at links o.index).port o.packets).acts = acts_are ∙ o.acts_are ∙ ap (λ (ls : List LinkState). (offered_all now (link_at ls o.index).port o.packets).acts) (sym before) in
      ⊎_elim
      (λ (at : i ≡ o.index). offered_here o.index o.packets at (changed_here o.index _ at links_are) all_acts)
      (λ (apart : i ≢ o.index). still now old new acts (changed_elsewhere o.index _ apart links_are))
      (cases_eq i o.index)
  offers part e before after acts_are (inr quiet) =
      still now old new acts (ap (λ (ls : List LinkState). (link_at ls i).port) (after ∙ quiet.links_are ∙ sym before))

module _ (p : ScenarioParts) (is_scenario : IsScenario p) (n : ℕ) (lines : List TraceLine) (s : State) (comes : ComesTo p n lines s) (line : TraceLine) (t : State) (next : step s ≡ Some (line, t)) (i : ℕ) (inside : i < length (part_at s line.key.node).links) where
  abbrev part : PartState
  part = part_at s line.key.node

  abbrev is : IsStep s line t
  is = is_step s line t next

  abbrev was : PortState
  was = port_at s line.key.node i

  abbrev now_is : PortState
  now_is = port_at t line.key.node i

  -- the acts are told by whether the link is freed
  abbrev pub Passes : Bool → Type 0
  Passes freed = Passage line.key.time was now_is freed (cond (freed || not (now_is.offered == was.offered)) line.acts [])

  pub offering : (v : Event) → line.event ≡ v → Offering part line.key.time (row part line.key v) → IsOffered line.key.time was now_is false (between was.offered now_is.offered line.acts)
  offering v event o =
      offers line.key.time part.links (part_at t line.key.node).links line.acts i inside part (row part line.key v) refl
      (ap (λ (x : PartState). x.links) (part_here s line t is (node_there s line.key.node i inside)) ∙ ap (λ (w : Event). (row part line.key w).part.links) event)
      (is.acts ∙ ap (λ (w : Event). (row part line.key w).acts) event) o

  -- the links where the event is that one of them becomes free
  pub free_links : (number : ℕ) → line.event ≡ Free number → (part_at t line.key.node).links ≡ set part.links (line.key.number - 3) (record (link_at part.links (line.key.number - 3)) { port = (taken line.key.time (link_at part.links (line.key.number - 3)).port).port })
  free_links number event =
      ap (λ (x : PartState). x.links) (part_here s line t is (node_there s line.key.node i inside)) ∙ ap (λ (w : Event). (row part line.key w).part.links) event

  -- the timer's link is the one that has the number of the event
  timer_index : (number : ℕ) → Belongs p s (before p is_scenario n lines s comes line t next).moment line.key (Free number) → i ≡ line.key.number - 3 → frees now_is.link (Free number) ≡ true
  timer_index number h at =
      let its : line.key.number ≡ 3 + h.index = ap (λ (k : Key). k.number) h.timer.is_key in
      let same : i ≡ h.index = omega (arith, its, at) in
      eq-eqb number now_is.link
      (sym h.link.its_number ∙ ap (λ j. (link_at part.links j).port.link) (sym same) ∙ sym (number_stays p is_scenario n lines s comes line t next line.key.node i (node_there s line.key.node i inside)))

  freeing : (number : ℕ) → line.event ≡ Free number → (b : Bool) → frees now_is.link line.event ≡ b → Passes b
  freeing number event true test =
      let key = freed p is_scenario n lines s comes line t next i inside test in
      let at : i ≡ line.key.number - 3 = (let number_is = key.1 in omega (arith, number_is)) in
      inl (record {
        test = refl;
        port_is = changed_here line.key.time part.links (part_at t line.key.node).links line.acts i inside (line.key.number - 3) _ at (free_links number event)
            ∙ ap (λ j. (taken line.key.time (link_at part.links j).port).port) (sym at);
        acts_are = is.acts ∙ ap (λ (w : Event). (row part line.key w).acts) event ∙ ap (λ j. (taken line.key.time (link_at part.links j).port).acts) (sym at);
      })
  freeing number event false test =
      let here : Belongs p s (before p is_scenario n lines s comes line t next).moment line.key (Free number) = subst (Belongs p s (before p is_scenario n lines s comes line t next).moment line.key) event (belongs p is_scenario n lines s comes line t next) in
      let apart : i ≢ line.key.number - 3 = λ at. true≢false (sym (timer_index number here at) ∙ ap (frees now_is.link) (sym event) ∙ test) in
      inr (still line.key.time was now_is line.acts (changed_elsewhere line.key.time part.links (part_at t line.key.node).links line.acts i inside (line.key.number - 3) _ apart (free_links number event)))

  by_event : (v : Event) → line.event ≡ v → Passes (frees now_is.link v)
  by_event (Start flow) event = inr (offering (Start flow) event (start_offers part part.role line.key))
  by_event (Rto flow) event = inr (offering (Rto flow) event (rto_offers part part.role line.key))
  by_event (DelAck flow) event = inr (offering (DelAck flow) event (delack_offers part part.role line.key))
  by_event (Arrive packet) event = inr (offering (Arrive packet) event (arrival_offers part part.role line.key packet))
  by_event (Free number) event = freeing number event (frees now_is.link (Free number)) (ap (frees now_is.link) event)

  pub passage : Passage line.key.time was now_is (frees now_is.link line.event) (acts_between was.offered now_is line)
  passage = by_event line.event refl
