-- What a window keeps: its groups stand where the window machine has them.
use Rattle.std.proofs.Common.{◌≡◌, ◌≢◌, ◌<◌, ℕ, zero, suc, min, List, [], ◌∷◌, map, length, get_or, Bool, true, false, refl, sym, ap, subst, ◌∙◌, arith, All}
use Rattle.std.proofs.lemmas.List.{length-map}
use Rattle.table_run.specs.State.{State}
use Rattle.net_machine.specs.Wiring.{AreEnds, ends_at, place_at}
use Rattle.net_machine.specs.declared.places.LinkEnds.{LinkEnds}
use Rattle.node_core.specs.WireState.{WireState}
use Rattle.window_law.specs.Calls.{IsInRun, HaveFired}
use Rattle.node_group.specs.Group.{GroupValue, state_of, came_in, group_from, bare, IsOnRun, AfterFirings}
use Rattle.window_law.specs.Groups.{GroupState, group_at, fire_times}
use Rattle.node_group.specs.Held.{wire_at}
use Rattle.net_partition.specs.Partition.{group_in, groups_of}
use Rattle.window_law.specs.Windows.{none_fired, setting_of}
use Rattle.window_core.specs.Window.{WindowValue, value_at, states_of, machine_of, leaves_from, comes_to, IsPart, IsSplit, IsFrom, IsWindow}
use Rattle.window_law.proofs.Calls.{limit_keeps, apart_keeps}
use Rattle.net_partition.proofs.Partitions.{upto_greatest}

pub value_map : (f : GroupValue → GroupValue) (groups : List GroupValue) (h : ℕ) → h < length groups → value_at (map f groups) h ≡ f (value_at groups h)
value_map f [] h under = absurd (omega (arith, under))
value_map f (g ∷ groups) zero under = refl
value_map f (g ∷ groups) (suc h) under = value_map f groups h (omega (arith, under))

pub state_at : (groups : List GroupValue) (h : ℕ) → h < length groups → group_at (states_of groups) h ≡ state_of (value_at groups h)
state_at [] h under = absurd (omega (arith, under))
state_at (g ∷ groups) zero under = refl
state_at (g ∷ groups) (suc h) under = state_at groups h (omega (arith, under))

pub length_states : (groups : List GroupValue) → length (states_of groups) ≡ length groups
length_states groups = length-map groups state_of

pub group_below : (entries : List ℕ) (node : ℕ) → group_in entries node < groups_of entries
group_below entries node = let upto = upto_greatest entries node in omega (arith, upto)

-- AS GROUPS

pub on_run_at : (v : WindowValue) → IsWindow v → (h : ℕ) → h < length v.groups → IsOnRun (value_at v.groups h)
on_run_at v is h under =
    let g = value_at v.groups h in
    let part = is.split.parts h under in
    let size = length_states v.groups in
    record {
      scenario = is.from.scenario;
      before = is.from.before;
      edge = is.edge;
      window = machine_of v;
      is_group = record {
        in_run = subst (λ (m : ℕ). IsInRun is.from.scenario (group_in g.entries) m is.from.before is.edge (machine_of v)) (sym part.position_is)
            (subst (λ (entries : List ℕ). IsInRun is.from.scenario (group_in entries) v.position is.from.before is.edge (machine_of v)) (sym part.entries_are) is.from.in_run);
        within = (let number = part.number_is in omega (arith, under, size, number));
        is_it = ap (group_at (states_of v.groups)) part.number_is ∙ state_at v.groups h under;
        same_end = sym part.until_is;
        links_are = subst (AreEnds is.from.scenario.links) (sym part.links_are) is.from.links_are;
      };
    }

pub all_on_run : (v : WindowValue) → IsWindow v → All IsOnRun v.groups
all_on_run v is k d under = subst IsOnRun (within v.groups k under) (on_run_at v is k under)
  where
    within : (groups : List GroupValue) (k : ℕ) → k < length groups → value_at groups k ≡ get_or groups k d
    within [] k under = absurd (omega (arith, under))
    within (g ∷ groups) zero under = refl
    within (g ∷ groups) (suc k) under = within groups k (omega (arith, under))

-- A BOUND

abbrev pub bounded : ℕ → GroupValue → GroupValue
bounded until g = record g { until = until }

abbrev pub limited : WindowValue → ℕ → WindowValue
limited v until = record v { until = until; groups = map (bounded until) v.groups }

pub same_states : (until : ℕ) (groups : List GroupValue) → states_of (map (bounded until) groups) ≡ states_of groups
same_states until [] = refl
same_states until (g ∷ groups) = ap (λ (ss : List GroupState). state_of g ∷ ss) (same_states until groups)

pub split_limited : (v : WindowValue) (until : ℕ) → IsSplit v → IsSplit (limited v until)
split_limited v until is = record {
  count = length-map v.groups (bounded until) ∙ is.count;
  parts = λ h under.
      let inside = known h under in
      let part = is.parts h inside in
      subst (IsPart (limited v until) h) (sym (value_map (bounded until) v.groups h inside)) (record { number_is = part.number_is; entries_are = part.entries_are; links_are = part.links_are; until_is = refl; position_is = part.position_is });
  known = λ link under. let k = is.known link under in record { from = k.from; to = k.to };
  across = λ link under off. at link under off (is.across link under off);
  fits = is.fits;
}
  where
    known : (h : ℕ) → h < length (map (bounded until) v.groups) → h < length v.groups
    known h under = let size = length-map v.groups (bounded until) in omega (arith, under, size)

    at : (link : ℕ) → link < length v.links → leaves_from v link ≢ comes_to v link → came_in (value_at v.groups (comes_to v link)) link ≡ (wire_at (value_at v.groups (leaves_from v link)).held link).taken → came_in (value_at (map (bounded until) v.groups) (comes_to v link)) link ≡ (wire_at (value_at (map (bounded until) v.groups) (leaves_from v link)).held link).taken
    at link under off e = came_same (comes_to v link) link ∙ e ∙ sym (held_same (leaves_from v link) link)
      where
        any : (groups : List GroupValue) (h : ℕ) → came_in (value_at (map (bounded until) groups) h) link ≡ came_in (value_at groups h) link
        any [] h = refl
        any (g ∷ groups) zero = refl
        any (g ∷ groups) (suc h) = any groups h

        came_same : (h link' : ℕ) → came_in (value_at (map (bounded until) v.groups) h) link ≡ came_in (value_at v.groups h) link
        came_same h link' = any v.groups h

        wires : (groups : List GroupValue) (h : ℕ) → (value_at (map (bounded until) groups) h).held ≡ (value_at groups h).held
        wires [] h = refl
        wires (g ∷ groups) zero = refl
        wires (g ∷ groups) (suc h) = wires groups h

        held_same : (h link' : ℕ) → (wire_at (value_at (map (bounded until) v.groups) h).held link).taken ≡ (wire_at (value_at v.groups h).held link).taken
        held_same h link' = ap (λ (ws : List WireState). (wire_at ws link).taken) (wires v.groups h)

pub from_limited : (v : WindowValue) (moment : ℕ) → none_fired (states_of v.groups) ≡ true → (edge : State) → IsFrom edge v → IsFrom edge (limited v (min v.until moment))
from_limited v moment none edge is =
    record {
      scenario = is.scenario;
      before = is.before;
      in_run = record {
        is_scenario = is.in_run.is_scenario;
        comes = is.in_run.comes;
        is_open = subst (λ (groups : List GroupState). Rattle.window_law.specs.Calls.IsOpenFrom (setting_of (group_in v.entries) is.scenario) edge record { groups = groups; until = min v.until moment }) (sym (same_states (min v.until moment) v.groups)) (limit_keeps (setting_of (group_in v.entries) is.scenario) edge (machine_of v) is.in_run.is_open none moment);
      };
      links_are = is.links_are;
      ahead_is = is.ahead_is;
      end_is = is.end_is;
    }

-- GROUPS THAT COME BACK

module _ (v : WindowValue) (back : List GroupValue) (size : length back ≡ length v.groups) (fired : (h : ℕ) → h < length back → AfterFirings v.until (value_at v.groups h) (value_at back h)) where
  abbrev returned : WindowValue
  returned = record v { groups = back; out = false }

  inside : (h : ℕ) → h < length back → h < length v.groups
  inside h under = omega (arith, under, size)

  have_fired : IsSplit v → (h : ℕ) → h < length (states_of back) → (times : ℕ) × (group_at (states_of back) h ≡ fire_times (group_in v.entries) h v.until times (group_at (states_of v.groups) h))
  have_fired is h under =
      let l : h < length back = (let s = length_states back in omega (arith, under, s)) in
      let after = fired h l in
      let part = is.parts h (inside h l) in
      let g = value_at v.groups h in (
        after.times,
        state_at back h l
            ∙ after.state
            ∙ ap (λ (entries : List ℕ). fire_times (group_in entries) g.number v.until after.times (state_of g)) part.entries_are
            ∙ ap (λ (number : ℕ). fire_times (group_in v.entries) number v.until after.times (state_of g)) part.number_is
            ∙ ap (fire_times (group_in v.entries) h v.until after.times) (sym (state_at v.groups h (inside h l))),
      )

  pub from_returned : IsSplit v → (edge : State) → IsFrom edge v → IsFrom edge returned
  from_returned split edge is = record {
    scenario = is.scenario;
    before = is.before;
    in_run = record {
      is_scenario = is.in_run.is_scenario;
      comes = is.in_run.comes;
      is_open = apart_keeps (setting_of (group_in v.entries) is.scenario) edge (machine_of v) is.in_run.is_open (states_of back) (length_states back ∙ size ∙ sym (length_states v.groups)) (have_fired split);
    };
    links_are = is.links_are;
    ahead_is = is.ahead_is;
    end_is = is.end_is;
  }

  wires_at : (ws : List WireState) (link : ℕ) → (wire_at (map bare ws) link).taken ≡ (wire_at ws link).taken
  wires_at [] link = refl
  wires_at (w ∷ ws) zero = refl
  wires_at (w ∷ ws) (suc link) = wires_at ws link

  pub split_returned : IsSplit v → IsSplit returned
  split_returned is = record {
    count = size ∙ is.count;
    parts = λ h under.
        let part = is.parts h (inside h under) in
        let rest = (fired h under).rest in
        record {
          number_is = ap (λ (g : GroupValue). g.number) rest ∙ part.number_is;
          entries_are = ap (λ (g : GroupValue). g.entries) rest ∙ part.entries_are;
          links_are = ap (λ (g : GroupValue). g.links) rest ∙ part.links_are;
          until_is = ap (λ (g : GroupValue). g.until) rest ∙ part.until_is;
          position_is = ap (λ (g : GroupValue). g.position) rest ∙ part.position_is;
        };
    known = λ link under. let k = is.known link under in record { from = k.from; to = k.to };
    across = λ link under off.
        let to = comes_to v link in
        let from = leaves_from v link in
        let there : (h : ℕ) → h < groups_of v.entries → h < length back = λ h below. let count = is.count in omega (arith, below, size, count) in
        let to_in : to < length back = there to (group_below v.entries (place_at v.links link).node) in
        let from_in : from < length back = there from (group_below v.entries (ends_at v.links link).from) in
        let part = is.parts to (inside to to_in) in
        let old = value_at v.groups to in
        let its_from : group_from old link ≡ from = ap (λ (entries : List ℕ). group_in entries (ends_at old.links link).from) part.entries_are ∙ ap (λ (links : List LinkEnds). group_in v.entries (ends_at links link).from) part.links_are in
        let its_link : link < length old.links = subst (λ (links : List LinkEnds). link < length links) (sym part.links_are) under in
        let came = (fired to to_in).from_others link its_link (λ e. off (sym its_from ∙ e ∙ part.number_is)) in
        let stay : (wire_at (value_at back from).held link).taken ≡ (wire_at (value_at v.groups from).held link).taken =
        sym (wires_at (value_at back from).held link) ∙ ap (λ (ws : List WireState). (wire_at ws link).taken) (fired from from_in).wires_stay ∙ wires_at (value_at v.groups from).held link in
        came ∙ is.across link under off ∙ sym stay;
    fits = is.fits;
  }

-- WHETHER THEY ARE OUT

pub split_out : (v : WindowValue) (out : Bool) → IsSplit v → IsSplit record v { out = out }
split_out v out is = record {
  count = is.count;
  parts = λ h under. let part = is.parts h under in record { number_is = part.number_is; entries_are = part.entries_are; links_are = part.links_are; until_is = part.until_is; position_is = part.position_is };
  known = λ link under. let k = is.known link under in record { from = k.from; to = k.to };
  across = λ link under off. is.across link under off;
  fits = is.fits;
}

pub from_out : (v : WindowValue) (out : Bool) (edge : State) → IsFrom edge v → IsFrom edge record v { out = out }
from_out v out edge is = record { scenario = is.scenario; before = is.before; in_run = is.in_run; links_are = is.links_are; ahead_is = is.ahead_is; end_is = is.end_is }
