-- What an event does at each link: nothing, or packets are offered there, or the link takes the next.
use Rattle.std.proofs.Common.{◌≡◌, ◌≢◌, ℕ, ◌<◌, ◌==◌, cond, List, [], ◌∷◌, ◌++◌, length, set, filter, append-nil, refl, sym, ap, subst, ◌∙◌, Some, inl, inr, ◌⊎◌, ⊎_elim, eq-eqb}
use Rattle.std.specs.List.{AllByRecursion, flat_map, slice_get}
use Rattle.std.proofs.lemmas.Bool.{cases_eq, ne_eqb}
use Rattle.std.proofs.lemmas.Grind.{flat_map-append}
use Rattle.std.proofs.lemmas.List.Elements.{filter-append}
use Rattle.std.proofs.lemmas.List.{get_or-set_same, get_or-set_other, length-set}
use Rattle.sim_time.specs.declared.key.Key.{Key}
use Rattle.scenario_image.specs.declared.parts.LinkPart.{LinkPart}
use Rattle.scenario_image.specs.declared.parts.ScenarioParts.{ScenarioParts}
use Rattle.scenario_image.specs.Scenario.{IsScenario}
use Rattle.port.specs.declared.acts.Act.{Act}
use Rattle.port.specs.Port.{PortState, PortStep}
use Rattle.node_core.specs.declared.event.Event.{Event}
use Rattle.node_core.specs.Part.{LinkState, PartState, link_at, no_link}
use Rattle.node_core.specs.TraceLine.{TraceLine}
use Rattle.tournament.proofs.Maps.{same_some}
use Rattle.table_run.specs.State.{State, part_at, no_part, due, effect_of, stepped, line_of}
use Rattle.table_run.specs.Laws.{IsSoundRun}
use Rattle.table_run.proofs.Due.{is_due}
use Rattle.table_run.proofs.Links.{link_part, one_index}
use Rattle.table_run.proofs.Moved.{node_there}
use Rattle.table_run.proofs.RunLaws.{kept_by}
use Rattle.run_laws.specs.Links.{link_of, port_of_link, acts_at}
use Rattle.run_laws.proofs.Ports.{taken_balances, one_balances, all_balance}
use Rattle.run_laws.proofs.Touched.{Touches, by_offers, by_offer, by_take, IsTouched, touched}

abbrev pub its_own : ℕ → List Act → List Act
its_own number acts = filter (λ act. link_of act == number) acts

pub all_its : (m n : ℕ) → m ≡ n → (acts : List Act) → AllByRecursion (λ (act : Act). link_of act ≡ m) acts → its_own n acts ≡ acts
all_its m n same [] h = refl
all_its m n same (act ∷ acts) h =
    ap (λ b. cond b (act ∷ its_own n acts) (its_own n acts)) (eq-eqb (link_of act) n (h.0 ∙ same)) ∙ ap (λ ls. act ∷ ls) (all_its m n same acts h.1)

pub none_its : (m n : ℕ) → m ≢ n → (acts : List Act) → AllByRecursion (λ (act : Act). link_of act ≡ m) acts → its_own n acts ≡ []
none_its m n other [] h = refl
none_its m n other (act ∷ acts) h =
    ap (λ b. cond b (act ∷ its_own n acts) (its_own n acts)) (ne_eqb (link_of act) n (λ same. other (sym h.0 ∙ same))) ∙ none_its m n other acts h.1

-- a line more
pub acts_more : (number : ℕ) (lines : List TraceLine) (line : TraceLine) → acts_at number (lines ++ line ∷ []) ≡ acts_at number lines ++ its_own number line.acts
acts_more number lines line =
    ap (its_own number) (flat_map-append (λ (l : TraceLine). l.acts) lines (line ∷ []) ∙ ap (λ ls. flat_map (λ (l : TraceLine). l.acts) lines ++ ls) (append-nil line.acts))
    ∙ filter-append (λ act. link_of act == number) (flat_map (λ (l : TraceLine). l.acts) lines) line.acts

-- all acts of what is done at a link are that link's
abbrev pub AreIts : PortState → PortStep → Type 0
AreIts old step = AllByRecursion (λ (act : Act). link_of act ≡ old.link) step.acts × (step.port.link ≡ old.link)

pub its_acts : (now : ℕ) (old : PortState) (step : PortStep) → Touches now old step → AreIts old step
its_acts now old step (by_offers packets is) = let b = all_balance now old packets in subst (AreIts old) (sym is) (b.its, b.same_link)
its_acts now old step (by_offer packet is) = let b = one_balances now old packet in subst (AreIts old) (sym is) (b.its, b.same_link)
its_acts now old step (by_take free is) = let b = taken_balances now old in subst (AreIts old) (sym is) (b.its, b.same_link)

-- nothing is done at a link
pub record IsLeft (old new : PortState) (acts : List Act) : Type 0 where
  pub same : new ≡ old
  pub none : acts ≡ []

-- something is
pub record IsDone (now : ℕ) (old new : PortState) (acts : List Act) : Type 0 where
  pub step : PortStep
  pub touches : Touches now old step
  pub new_is : new ≡ step.port
  pub acts_are : acts ≡ step.acts
  pub same_number : new.link ≡ old.link

-- what an event does at a link, which was there before
pub record AtLink (s t : State) (now : ℕ) (line : TraceLine) (node index : ℕ) : Type 0 where
  pub within : index < length (part_at s node).links
  pub does : let old = port_of_link s node index in let new = port_of_link t node index in IsLeft old new (its_own old.link line.acts) ⊎ IsDone now old new (its_own old.link line.acts)

module _ (p : ScenarioParts) (is_scenario : IsScenario p) (lines : List TraceLine) (s : State) (k : Key) (v : Event) (sound : IsSoundRun p lines s) (is : due s ≡ Some (k, v)) where
  abbrev pub t : State
  t = stepped s k (effect_of s (k, v))

  abbrev pub line : TraceLine
  line = line_of (k, v) (effect_of s (k, v))

  abbrev pub touch : IsTouched (part_at s k.node) k.time (effect_of s (k, v))
  touch = touched p is_scenario lines sound.moment s k sound.sound v (sound.sound.belongs k v (is_due s k v is).pending)

  abbrev pub changed : LinkState
  changed = record (link_at (part_at s k.node).links touch.index) { port = touch.step.port }

  pub here : part_at t k.node ≡ (effect_of s (k, v)).part
  here = get_or-set_same s.parts k.node (effect_of s (k, v)).part no_part (kept_by p lines s k v is_scenario sound is).within

  pub there : (node : ℕ) → node ≢ k.node → part_at t node ≡ part_at s node
  there node other = get_or-set_other s.parts k.node node (effect_of s (k, v)).part no_part other

  pub links_here : (part_at t k.node).links ≡ set (part_at s k.node).links touch.index changed
  links_here = ap (λ (x : PartState). x.links) here ∙ touch.links_are

  pub nodes_there : (node index : ℕ) → index < length (part_at s node).links → node < length p.nodes
  nodes_there node index within = subst (λ n. node < n) sound.sound.nodes_are (node_there s node index within)

  -- another link has another number
  pub other_number : (node index : ℕ) → index < length (part_at s node).links → (node ≡ k.node → index ≢ touch.index) → (port_of_link s k.node touch.index).link ≢ (port_of_link s node index).link
  other_number node index within apart same =
      let its_links = (sound.sound.each_node k.node (nodes_there k.node touch.index touch.within)).its_links in
      let one = link_part p node (part_at s node).links (sound.sound.each_node node (nodes_there node index within)).its_links index within in
      let two = link_part p k.node (part_at s k.node).links its_links touch.index touch.within in
      let parts : two.part ≡ one.part = same_some two.part one.part (sym two.its_part ∙ ap (slice_get p.links) same ∙ one.its_part) in
      let at : node ≡ k.node = sym one.from_here ∙ ap (λ (l : LinkPart). l.from) (sym parts) ∙ two.from_here in
      let inside : index < length (part_at s k.node).links = subst (λ n. index < length (part_at s n).links) at within in
      apart at (one_index p k.node (part_at s k.node).links its_links index touch.index inside touch.within (ap (λ n. (port_of_link s n index).link) (sym at) ∙ sym same))

  pub its : AllByRecursion (λ (act : Act). link_of act ≡ (port_of_link s k.node touch.index).link) line.acts
  its = subst (AllByRecursion (λ (act : Act). link_of act ≡ (port_of_link s k.node touch.index).link)) (sym touch.acts_are) (its_acts k.time (port_of_link s k.node touch.index) touch.step touch.touches).0

  left : (node index : ℕ) → port_of_link t node index ≡ port_of_link s node index → index < length (part_at s node).links → (node ≡ k.node → index ≢ touch.index) → AtLink s t k.time line node index
  left node index same within apart = record {
    within = within;
    does = inl (record { same = same; none = none_its (port_of_link s k.node touch.index).link (port_of_link s node index).link (other_number node index within apart) line.acts its });
  }

  done : AtLink s t k.time line k.node touch.index
  done =
      let old = port_of_link s k.node touch.index in
      let new_is : port_of_link t k.node touch.index ≡ touch.step.port = ap (λ ls. (link_at ls touch.index).port) links_here ∙ ap (λ (l : LinkState). l.port) (get_or-set_same (part_at s k.node).links touch.index changed no_link touch.within) in
      record {
        within = touch.within;
        does = inr (record {
          step = touch.step;
          touches = touch.touches;
          new_is = new_is;
          acts_are = all_its old.link old.link refl line.acts its ∙ touch.acts_are;
          same_number = ap (λ (q : PortState). q.link) new_is ∙ (its_acts k.time old touch.step touch.touches).1;
        });
      }

  at_node : (index : ℕ) → index < length (part_at t k.node).links → AtLink s t k.time line k.node index
  at_node index within =
      ⊎_elim
      (λ (same : index ≡ touch.index). subst (AtLink s t k.time line k.node) (sym same) done)
      (λ (other : index ≢ touch.index).
      let old = (part_at s k.node).links in
      left k.node index
      (ap (λ ls. (link_at ls index).port) links_here ∙ ap (λ (l : LinkState). l.port) (get_or-set_other old touch.index index changed no_link other))
      (subst (λ n. index < n) (ap length links_here ∙ length-set old touch.index changed) within) (λ _. other))
      (cases_eq index touch.index)

  pub at_link : (node index : ℕ) → index < length (part_at t node).links → AtLink s t k.time line node index
  at_link node index within =
      ⊎_elim
      (λ (at : node ≡ k.node). subst (λ n. AtLink s t k.time line n index) (sym at) (at_node index (subst (λ n. index < length (part_at t n).links) at within)))
      (λ (other : node ≢ k.node). left node index (ap (λ (x : PartState). (link_at x.links index).port) (there node other)) (subst (λ (x : PartState). index < length x.links) (there node other) within) (λ at. absurd (other at)))
      (cases_eq node k.node)

  -- a node keeps its links
  pub as_many : (node : ℕ) → length (part_at t node).links ≡ length (part_at s node).links
  as_many node =
      ⊎_elim
      (λ (at : node ≡ k.node). ap (λ n. length (part_at t n).links) at ∙ ap length links_here ∙ length-set (part_at s k.node).links touch.index changed ∙ ap (λ n. length (part_at s n).links) (sym at))
      (λ (other : node ≢ k.node). ap (λ (x : PartState). length x.links) (there node other))
      (cases_eq node k.node)
