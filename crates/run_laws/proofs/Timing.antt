-- How long a packet takes over a link.
use Rattle.std.proofs.Common.{◌≡◌, ◌≢◌, ℕ, zero, suc, ◌+◌, ◌*◌, ◌<◌, ◌≤◌, List, [], ◌∷◌, ◌++◌, length, get_or, refl, sym, ap, subst, ◌∙◌, Option, Some, None, arith, ⊎_elim}
use Rattle.std.specs.Prelude.{Contains, is_none}
use Rattle.std.specs.List.{slice_get, filter_map}
use Rattle.std.specs.Option.{option_or}
use Rattle.std.specs.FinMap as finmap
use Rattle.std.proofs.lemmas.Bool.{cases_eq, cases_lt}
use Rattle.std.proofs.lemmas.Grind.{div_ceil_times}
use Rattle.std.proofs.lemmas.List.{get_or-set_same}
use Rattle.std.proofs.Math.Nat.{add-mul, one-mul}
use Rattle.std.proofs.lemmas.Nat.{mul-le}
use Rattle.sim_time.specs.Serial.{serial, IsRate, IsLeastSerial}
use Rattle.sim_time.specs.declared.key.Key.{Key}
use Rattle.packet_chain.specs.declared.packet.Packet.{Packet}
use Rattle.packet_chain.specs.Stamped.{Stamped}
use Rattle.scenario_image.specs.declared.parts.ScenarioParts.{ScenarioParts}
use Rattle.scenario_image.specs.Scenario.{IsScenario}
use Rattle.aqm.specs.Queue.{refuses, taken_from}
use Rattle.port.specs.Losses as losses
use Rattle.port.specs.Laws.{sent_by}
use Rattle.port.specs.Port.{PortState, PortStep, Departure, begun, departure_of, taken, with_packet, offered_one, offered_all}
use Rattle.port.proofs.StepLaws.{packets_in, taken_sends, one_sends, one_departs_at_most, busy_link_begins_nothing, one_counts}
use Rattle.node_core.specs.declared.event.Event.{Event}
use Rattle.node_core.specs.declared.event.Event.TheVariants.{Arrive}
use Rattle.node_core.specs.Pending.{Events}
use Rattle.node_core.specs.Part.{LinkState, PartState, link_at, no_link}
use Rattle.node_core.specs.Row.{Effect, Leaving, leaving_over, home_changes, sent_away, changes_of, arrives}
use Rattle.node_core.specs.TraceLine.{TraceLine}
use Rattle.tournament.specs.Keyed.{apply}
use Rattle.tournament.proofs.Maps.{not_some, same_some, get_here}
use Rattle.table_run.specs.State.{State, part_at, due, effect_of, stepped}
use Rattle.table_run.specs.Laws.{IsSoundRun}
use Rattle.table_run.proofs.Changes.{apply-append}
use Rattle.table_run.proofs.Links.{link_part, link_in_limits}
use Rattle.table_run.proofs.RunLaws.{sound_run}
use Rattle.run_laws.specs.Links.{port_of_link}
use Rattle.run_laws.specs.Timing.{TakesItsTime, LinksTakeTheirTime}
use Rattle.run_laws.proofs.Events.{its_own, none_its, touch, changed, all_its, its_acts, here, links_here, nodes_there, other_number, its}
use Rattle.run_laws.proofs.Ports.{counted, by_test}
use Rattle.run_laws.proofs.Touched.{Touches, by_offers, by_offer, by_take}
use Rattle.run_laws.proofs.Turns.{one_list}

-- a departure takes the time of its bits and the link's delay
pub record IsOnTime (now : ℕ) (old : PortState) (d : Departure) : Type 0 where
  pub free : d.free ≡ now + serial d.packet.bytes old.rate
  pub arrival : d.arrival ≡ d.free + old.delay

-- what a step sends is what departs, on time, and the link is busy until it is out
pub record Departs (now : ℕ) (old : PortState) (step : PortStep) : Type 0 where
  pub told : filter_map sent_by step.acts ≡ packets_in step.departure
  pub on_time : (d : Departure) → step.departure ≡ Some d → IsOnTime now old d
  pub busy : (d : Departure) → step.departure ≡ Some d → step.port.next_free ≡ Some d.free

begun_on_time : (now : ℕ) (port : PortState) (given : Option Stamped) (d : Departure) → (begun now port given).departure ≡ Some d → IsOnTime now port d
begun_on_time now port None d e = absurd (not_some e)
begun_on_time now port (Some cell) d e = subst (IsOnTime now port) (same_some (departure_of now port cell.0) d e) (record { free = refl; arrival = refl })

taken_departs : (now : ℕ) (old : PortState) → Departs now old (taken now old)
taken_departs now old =
    let take = taken_from old.queue now in
    let sends = taken_sends now old in
    record {
      told = sends.sends;
      on_time = λ d e. let t = begun_on_time now (record old { queue = take.queue }) take.given d e in record { free = t.free; arrival = t.arrival };
      busy = sends.busy_then;
    }

one_on_time : (now : ℕ) (old : PortState) (packet : Packet) (d : Departure) → (offered_one now old packet).departure ≡ Some d → IsOnTime now old d
one_on_time now old packet =
    by_test (λ (step : PortStep). (d : Departure) → step.departure ≡ Some d → IsOnTime now old d) (losses.is_lost old.lose (old.offered + 1)) _ _ (λ _ d e. absurd (not_some e))
    (λ _. by_test (λ (step : PortStep). (d : Departure) → step.departure ≡ Some d → IsOnTime now old d) (refuses old.queue) _ _ (λ _ d e. absurd (not_some e))
    (λ _. by_test (λ (step : PortStep). (d : Departure) → step.departure ≡ Some d → IsOnTime now old d) (is_none old.next_free) _ _
    (λ _ d e. let t = (taken_departs now (with_packet now (counted old) packet)).on_time d e in record { free = t.free; arrival = t.arrival })
    (λ _ d e. absurd (not_some e))))

module _ (now : ℕ) (old : PortState) (x : Packet) (packets : List Packet) where
  abbrev first : PortStep
  first = offered_one now old x

  abbrev others : PortStep
  others = offered_all now first.port packets

  record Both (d : Departure) : Type 0 where
    pub on_time : IsOnTime now old d
    pub busy : others.port.next_free ≡ Some d.free

  either : Departs now first.port others → (o : Option Departure) → first.departure ≡ o → (d : Departure) → option_or o others.departure ≡ Some d → Both d
  either rest None is d e =
      let t = rest.on_time d e in
      let counts = one_counts now old x in
      record { on_time = record { free = t.free ∙ ap (λ r. now + serial d.packet.bytes r) counts.rate; arrival = t.arrival ∙ ap (λ m. d.free + m) counts.delay }; busy = rest.busy d e }
  either rest (Some one) is d e =
      let same : one ≡ d = same_some one d e in
      subst Both same (record { on_time = one_on_time now old x one is; busy = (busy_link_begins_nothing now one.free first.port packets ((one_sends now old x).busy_then one is)).1 })

all_depart : (now : ℕ) (old : PortState) (packets : List Packet) → Departs now old (offered_all now old packets)
all_depart now old [] = record { told = refl; on_time = λ d e. absurd (not_some e); busy = λ d e. absurd (not_some e) }
all_depart now old (x ∷ packets) =
    let first = offered_one now old x in
    let both = either now old x packets (all_depart now first.port packets) first.departure refl in
    record { told = one_departs_at_most now old (x ∷ packets); on_time = λ d e. (both d e).on_time; busy = λ d e. (both d e).busy }

touched_departs : (now : ℕ) (old : PortState) (step : PortStep) → Touches now old step → Departs now old step
touched_departs now old step (by_offers packets is) = subst (Departs now old) (sym is) (all_depart now old packets)
touched_departs now old step (by_offer packet is) = subst (Departs now old) (sym is) (subst (Departs now old) (one_list now old packet) (all_depart now old (packet ∷ [])))
touched_departs now old step (by_take free is) = subst (Departs now old) (sym is) (taken_departs now old)

-- the packet that leaves is pending
leaves : (e : Effect) (node : ℕ) (m : Events) (l : Leaving) → e.leaving ≡ Some l → finmap.get (apply (changes_of node e) m) (arrives e.part.links l).0 ≡ Some (Arrive l.departure.packet)
leaves e node m l is =
    ap (λ o. finmap.get (apply (home_changes node e ++ sent_away e.part.links o) m) (arrives e.part.links l).0) is
    ∙ ap (λ (x : Events). finmap.get x (arrives e.part.links l).0) (apply-append (home_changes node e) (sent_away e.part.links (Some l)) m)
    ∙ get_here (apply (home_changes node e) m) (arrives e.part.links l).0 (Some (Arrive l.departure.packet))

in_one : (o : Option Departure) (x : Packet) → Contains (packets_in o) x → (d : Departure) × (o ≡ Some d) × (d.packet ≡ x)
in_one None x c = absurd (none c.0 c.1)
  where
    none : (i : ℕ) → i < 0 → ⊥
    none i within = omega (arith, within)
in_one (Some d) x c = (d, refl, only c.0 c.1 c.2)
  where
    only : (i : ℕ) → i < 1 → get_or (d.packet ∷ []) i x ≡ x → d.packet ≡ x
    only zero within e = e
    only (suc i) within e = absurd (omega (arith, within))

is_least : (bytes rate : ℕ) → IsRate rate → IsLeastSerial bytes rate (serial bytes rate)
is_least bytes rate range =
    let positive : 0 < rate = (let least = range.0 in omega (arith, least)) in
    let bounds = div_ceil_times (bytes * 8000000000) rate positive in
    record {
      enough = bounds.0;
      least = λ t enough. ⊎_elim
          (λ (less : t < serial bytes rate).
          let more : (t + 1) * rate ≤ serial bytes rate * rate = mul-le (t + 1) rate (serial bytes rate) rate (omega (arith, less)) (omega arith) in
          let one = suc_times t rate in
          let most = bounds.1 in
          absurd (omega (arith, more, one, most, enough)))
          (λ (there : serial bytes rate ≤ t). there)
          (cases_lt t (serial bytes rate));
    }
  where
    suc_times : (t rate : ℕ) → (t + 1) * rate ≡ t * rate + rate
    suc_times t rate = add-mul t 1 rate ∙ ap (λ m. t * rate + m) (one-mul rate)

module _ (p : ScenarioParts) (is_scenario : IsScenario p) (lines : List TraceLine) (s : State) (k : Key) (v : Event) (sound : IsSoundRun p lines s) (is : due s ≡ Some (k, v)) where
  abbrev e : Effect
  e = effect_of s (k, v)

  abbrev t : State
  t = stepped s k e

  at_touched : (x : Packet) → let i = (touch p is_scenario lines s k v sound is).index in Contains (filter_map sent_by (its_own (port_of_link s k.node i).link e.acts)) x → TakesItsTime p k.time x (port_of_link t k.node i) t.pending
  at_touched x there =
      let h = touch p is_scenario lines s k v sound is in
      let old = port_of_link s k.node h.index in
      let departs = touched_departs k.time old h.step h.touches in
      let own : its_own old.link e.acts ≡ h.step.acts = all_its old.link old.link refl e.acts (its p is_scenario lines s k v sound is) ∙ h.acts_are in
      let its_packet = in_one h.step.departure x (subst (λ ls. Contains ls x) (ap (filter_map sent_by) own ∙ departs.told) there) in
      let departure = its_packet.0 in
      let on_time = departs.on_time departure its_packet.1 in
      let its_links = (sound.sound.each_node k.node (nodes_there p is_scenario lines s k v sound is k.node h.index h.within)).its_links in
      let part = link_part p k.node (part_at s k.node).links its_links h.index h.within in
      let limits = link_in_limits p k.node (part_at s k.node).links its_links is_scenario h.index h.within in
      let port_is : (link_at (part_at t k.node).links h.index) ≡ changed p is_scenario lines s k v sound is =
      ap (λ ls. link_at ls h.index) (links_here p is_scenario lines s k v sound is) ∙ get_or-set_same (part_at s k.node).links h.index (changed p is_scenario lines s k v sound is) no_link h.within in
      let new_is : port_of_link t k.node h.index ≡ h.step.port = ap (λ (l : LinkState). l.port) port_is in
      let number : (port_of_link t k.node h.index).link ≡ old.link = ap (λ (q : PortState). q.link) new_is ∙ (its_acts k.time old h.step h.touches).1 in
      let leaving : e.leaving ≡ Some (record { index = h.index; departure = departure }) = h.leaving_is ∙ ap (leaving_over h.index) its_packet.1 in
      let pending = leaves e k.node (finmap.remove s.pending k) (record { index = h.index; departure = departure }) leaving in
      let there_is : link_at e.part.links h.index ≡ link_at (part_at t k.node).links h.index = ap (λ (q : PartState). link_at q.links h.index) (sym (here p is_scenario lines s k v sound is)) in
      let rate = part.rate_is in
      let delay = part.delay_is in
      let time : departure.arrival ≡ k.time + serial x.bytes part.part.rate + part.part.delay =
      on_time.arrival ∙ (λ i. (on_time.free ∙ ap (λ (y : Packet). k.time + serial y.bytes old.rate) its_packet.2 ∙ ap (λ r. k.time + serial x.bytes r) rate) i + delay i) in
      let to : (link_at e.part.links h.index).to ≡ part.part.to = ap (λ (l : LinkState). l.to) (there_is ∙ port_is) ∙ part.to_is in
      let port_there : (link_at e.part.links h.index).port ≡ port_of_link t k.node h.index = ap (λ (l : LinkState). l.port) there_is in
      record {
        link = part.part;
        its_link = ap (slice_get p.links) number ∙ part.its_part;
        time = serial x.bytes part.part.rate;
        bits_take = is_least x.bytes part.part.rate (subst IsRate rate limits.rate_range);
        busy =
            ap (λ (q : PortState). q.next_free) new_is ∙ departs.busy departure its_packet.1
            ∙ ap (λ m. Some m) (on_time.free ∙ ap (λ (y : Packet). k.time + serial y.bytes old.rate) its_packet.2 ∙ ap (λ r. k.time + serial x.bytes r) rate);
        arrives =
            ap (finmap.get t.pending) (λ i. record { time = sym time i; node = sym to i; source = (sym port_there i).link + 1; number = (sym port_there i).sent }) ∙ pending ∙ ap (λ (y : Packet). Some (Arrive y)) its_packet.2;
      }

  -- at another link nothing is told
  elsewhere : (node index : ℕ) → index < length (part_at s node).links → (node ≡ k.node → index ≢ (touch p is_scenario lines s k v sound is).index) → (x : Packet) → Contains (filter_map sent_by (its_own (port_of_link s node index).link e.acts)) x → ⊥
  elsewhere node index within apart x there =
      let h = touch p is_scenario lines s k v sound is in
      let none = none_its (port_of_link s k.node h.index).link (port_of_link s node index).link (other_number p is_scenario lines s k v sound is node index within apart) e.acts (its p is_scenario lines s k v sound is) in
      let c : Contains {X = Packet} [] x = subst (λ ls. Contains (filter_map sent_by ls) x) none there in
      no_place c.0 c.1
    where
      no_place : (i : ℕ) → i < 0 → ⊥
      no_place i within = omega (arith, within)

  takes : (node index : ℕ) → index < length (part_at s node).links → (x : Packet) → Contains (filter_map sent_by (its_own (port_of_link s node index).link e.acts)) x → TakesItsTime p k.time x (port_of_link t node index) t.pending
  takes node index within x there =
      let h = touch p is_scenario lines s k v sound is in
      ⊎_elim
      (λ (at : node ≡ k.node).
      ⊎_elim
      (λ (same : index ≡ h.index).
      subst (λ (y : ℕ × ℕ). Contains (filter_map sent_by (its_own (port_of_link s y.0 y.1).link e.acts)) x → TakesItsTime p k.time x (port_of_link t y.0 y.1) t.pending) (λ i. (sym at i, sym same i)) (at_touched x) there)
      (λ (other : index ≢ h.index). absurd (elsewhere node index within (λ _. other) x there))
      (cases_eq index h.index))
      (λ (other : node ≢ k.node). absurd (elsewhere node index within (λ at. absurd (other at)) x there))
      (cases_eq node k.node)

pub links_take_their_time : LinksTakeTheirTime
links_take_their_time p n lines s is_scenario comes k v is node index within x there = takes p is_scenario lines s k v (sound_run p n lines s is_scenario comes) is node index within x there
