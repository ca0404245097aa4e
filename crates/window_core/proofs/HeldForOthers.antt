-- What groups hold back for each other, all together and link by link.
use Rattle.std.proofs.Common.{◌≡◌, ◌≢◌, ◌≤◌, ◌<◌, ℕ, zero, suc, List, [], ◌∷◌, length, map, Some, None, refl, sym, ap, ◌∙◌, ⊎_elim, arith}
use Rattle.std.proofs.lemmas.Bool.{cases_eq, cases_lt}
use Rattle.std.proofs.lemmas.List.{get_or_past, length-map}
use Rattle.std.specs.FinMap.{get, get-empty}
use Rattle.sim_time.specs.declared.key.Key.{Key}
use Rattle.tournament.specs.Keyed.{nothing_due}
use Rattle.tournament.specs.Gathered.{map_at, AtHome}
use Rattle.tournament.proofs.Gathered.{get-gathered}
use Rattle.tournament.proofs.Maps.{not_some, none_or}
use Rattle.node_core.specs.declared.event.Event.{Event}
use Rattle.node_core.specs.Pending.{Events}
use Rattle.node_core.specs.WireState.{WireState, pending_on}
use Rattle.node_core.proofs.Wires.{each_on, each_at, nothing_on}
use Rattle.net_machine.specs.declared.places.LinkEnds.{LinkEnds}
use Rattle.net_machine.specs.Wiring.{ends_at}
use Rattle.node_group.specs.Group.{GroupValue, state_of}
use Rattle.window_law.specs.Groups.{GroupState}
use Rattle.node_group.specs.Held.{held_on}
use Rattle.net_partition.specs.Partition.{group_in}
use Rattle.window_core.specs.Turning.{from_group, to_group, held_over, AreReady}
use Rattle.window_core.specs.Window.{value_at, states_of}
use Rattle.window_law.specs.Windows.{all_held}
use Rattle.node_group.proofs.HeldBack.{over_link, held_home, wire_map}
use Rattle.window_core.proofs.Windowed.{group_below}

module _ {entries : List ℕ} {links : List LinkEnds} {old : List GroupValue} (ready : AreReady entries links old) where
  abbrev helds : List Events
  helds = map (λ (s : GroupState). s.held) (states_of old)

  abbrev pub held : Events
  held = all_held (states_of old)

  helds_at : (groups : List GroupValue) (h : ℕ) → h < length groups → map_at (map (λ (s : GroupState). s.held) (states_of groups)) h ≡ held_on (value_at groups h).held
  helds_at [] h under = absurd (omega (arith, under))
  helds_at (g ∷ groups) zero under = refl
  helds_at (g ∷ groups) (suc h) under = helds_at groups h (omega (arith, under))

  many_helds : length helds ≡ length old
  many_helds = length-map (states_of old) (λ (s : GroupState). s.held) ∙ length-map old state_of

  -- of one group, at a key: what its wire has
  one_held : (h : ℕ) → h < length old → (k : Key) → get (held_on (value_at old h).held) k ≡ get (map_at (map pending_on (value_at old h).held) (over_link k)) k
  one_held h under k = get-gathered over_link (map pending_on (value_at old h).held) (held_home (value_at old h).held (ready.shapes h under).by_link) k

  wires_many : (h : ℕ) → h < length old → length (map pending_on (value_at old h).held) ≡ length links
  wires_many h under = length-map (value_at old h).held pending_on ∙ (ready.shapes h under).wires

  -- a key that a group holds back
  record OfLink (h : ℕ) (k : Key) (v : Event) : Type 0 where
    link_known : over_link k < length links
    on_wire : get (pending_on (held_over old h (over_link k))) k ≡ Some v

  of_link : (h : ℕ) → h < length old → (k : Key) (v : Event) → get (held_on (value_at old h).held) k ≡ Some v → OfLink h k v
  of_link h under k v there =
      let size = wires_many h under in
      let on = sym (one_held h under k) ∙ there in
      let within : over_link k < length links = ⊎_elim
      (λ (l : over_link k < length links). l)
      (λ (past : length links ≤ over_link k). absurd (not_some (sym (get-empty _ k) ∙ ap (λ (m : Events). get m k) (sym (get_or_past (map pending_on (value_at old h).held) (over_link k) (nothing_due Event) (omega (arith, past, size)))) ∙ on)))
      (cases_lt (over_link k) (length links)) in
      record {
        link_known = within;
        on_wire = ap (λ (m : Events). get m k) (sym (wire_map (value_at old h).held (over_link k) (let wires = (ready.shapes h under).wires in omega (arith, within, wires)))) ∙ on;
      }

  pub no_key : (w : WireState) → w.under_way ≡ [] → (k : Key) (v : Event) → get (pending_on w) k ≡ Some v → ⊥
  no_key w none k v there = nothing_on (λ _. ⊥) w none k v there

  its_group : (h : ℕ) → h < length old → (k : Key) (v : Event) → get (held_on (value_at old h).held) k ≡ Some v → from_group entries links (over_link k) ≡ h
  its_group h under k v there = ⊎_elim
      (λ (same : from_group entries links (over_link k) ≡ h). same)
      (λ (off : from_group entries links (over_link k) ≢ h). absurd (no_key (held_over old h (over_link k)) (ready.own h (over_link k) under off) k v (of_link h under k v there).on_wire))
      (cases_eq (from_group entries links (over_link k)) h)

  at_home : AtHome (λ k. from_group entries links (over_link k)) helds
  at_home h k v there = ⊎_elim
      (λ (under : h < length old). its_group h under k v (ap (λ (m : Events). get m k) (sym (helds_at old h under)) ∙ there))
      (λ (past : length old ≤ h). absurd (not_some (sym (get-empty _ k) ∙ ap (λ (m : Events). get m k) (sym (get_or_past helds h (nothing_due Event) (let size = many_helds in omega (arith, past, size)))) ∙ there)))
      (cases_lt h (length old))

  pub in_range : (node : ℕ) → group_in entries node < length old
  in_range node = let below = group_below entries node in let count = ready.count in omega (arith, below, count)

  held_is : (k : Key) → get held k ≡ get (held_on (value_at old (from_group entries links (over_link k))).held) k
  held_is k = get-gathered (λ q. from_group entries links (over_link q)) helds at_home k ∙ ap (λ (m : Events). get m k) (helds_at old (from_group entries links (over_link k)) (in_range (ends_at links (over_link k)).from))

  -- a key of an outgoing message
  pub record IsCrossing (k : Key) : Type 0 where
    pub known : over_link k < length links
    pub crosses : from_group entries links (over_link k) ≢ to_group entries links (over_link k)
    pub its_end : group_in entries k.node ≡ to_group entries links (over_link k)

  pub crossing : (k : Key) (v : Event) → get held k ≡ Some v → IsCrossing k
  crossing k v there =
      let f = from_group entries links (over_link k) in
      let under = in_range (ends_at links (over_link k)).from in
      let o = of_link f under k v (sym (held_is k) ∙ there) in
      record {
        known = o.link_known;
        crosses = λ e. no_key (held_over old f (over_link k)) (ready.inside f (over_link k) under (sym e)) k v o.on_wire;
        its_end = ap (group_in entries) (each_at (held_over old f (over_link k)) k v o.on_wire ∙ (ready.shapes f under).ends_there (over_link k) o.link_known);
      }

  -- what the wire of a link has at its keys
  pub on_wire : (link : ℕ) → link < length links → (k : Key) → over_link k ≡ link → get (pending_on (held_over old (from_group entries links link) link)) k ≡ get held k
  on_wire link under k over =
      let f = from_group entries links link in
      let here = in_range (ends_at links link).from in
      let wires = (ready.shapes f here).wires in
      ap (λ (m : Events). get m k) (sym (wire_map (value_at old f).held link (omega (arith, under, wires))))
      ∙ ap (λ l. get (map_at (map pending_on (value_at old f).held) l) k) (sym over)
      ∙ sym (one_held f here k)
      ∙ ap (λ l. get (held_on (value_at old (from_group entries links l)).held) k) (sym over)
      ∙ sym (held_is k)

  -- at other keys it has nothing
  pub off_wire : (h : ℕ) → h < length old → (link : ℕ) → link < length links → (k : Key) → over_link k ≢ link → get (pending_on (held_over old h link)) k ≡ None
  off_wire h here link under k off = none_or _ (λ v there.
      let wires = (ready.shapes h here).wires in
      let source = each_on (held_over old h link) k v there in
      let number = (ready.shapes h here).by_link link (omega (arith, under, wires)) in
      off (omega (arith, source, number)))
