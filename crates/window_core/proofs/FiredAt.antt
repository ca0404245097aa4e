-- A window after an event of one of its groups.
use Rattle.std.proofs.Common.{◌≡◌, ◌≢◌, ◌≤◌, ◌<◌, ◌+◌, ℕ, List, [], length, length-append, set, Bool, true, false, Option, Some, None, Result, Ok, Err, sym, ap, subst, ◌∙◌, ⊎_elim, arith, true≢false}
use Rattle.std.proofs.lemmas.Bool.{cases_eq}
use Rattle.std.proofs.lemmas.List.{length-set, get_or-set_same, get_or-set_other, get_or_past, set-get_or, map-set}
use Rattle.std.specs.Option.{option_map}
use Rattle.std.specs.Result.{IfOk}
use Rattle.node_core.specs.TraceLine.{TraceLine}
use Rattle.sim_time.specs.declared.key.Key.{Key}
use Rattle.sim_time.specs.declared.limits.TheConstants.{MOST_EVENTS}
use Rattle.tournament.proofs.Maps.{not_some, same_some}
use Rattle.node_core.specs.declared.event.Event.{Event}
use Rattle.table_run.specs.State.{State, due}
use Rattle.window_core.specs.Full.{events_with}
use Rattle.node_group.specs.Group.{GroupValue, AfterFirings, Fired, state_of}
use Rattle.window_law.specs.Groups.{GroupState, no_group, group_at, up_to, fire, fire_on}
use Rattle.net_partition.specs.Partition.{group_in}
use Rattle.window_core.specs.Window.{WindowValue, no_value, value_at, states_of, machine_of, setting_in, IsFrom, IsWindow, HasFiredOr}
use Rattle.window_law.specs.Windows.{WindowState, Fire, moved}
use Rattle.window_law.proofs.Calls.{nothing_due}
use Rattle.node_group.proofs.Lines.{no_firing}
use Rattle.window_core.proofs.Windowed.{split_returned, from_returned, state_at, length_states}

-- there is no such group
pub none_past : (v : WindowValue) (number : ℕ) → length v.groups ≤ number → moved (setting_in v) (machine_of v) (Fire number) ≡ None
none_past v number past =
    let size = length_states v.groups in
    let none : fire (group_in v.entries) number v.until (group_at (states_of v.groups) number) ≡ None =
    ap (fire (group_in v.entries) number v.until) (get_or_past (states_of v.groups) number no_group (omega (arith, past, size)))
    ∙ ap (option_map (fire_on (group_in v.entries) number v.until no_group)) (nothing_due v.until) in
    ap (option_map {U = WindowState × List TraceLine} (λ (g : GroupState). (record { groups = set (states_of v.groups) number g; until = v.until }, []))) none

-- a firing makes one line
one_line : (group : ℕ → ℕ) (number until : ℕ) (s t : GroupState) → fire group number until s ≡ Some t → length t.lines ≡ length s.lines + 1
one_line group number until s t e = go (due (up_to until s)) e
  where
    go : (o : Option (Key × Event)) → option_map (fire_on group number until s) o ≡ Some t → length t.lines ≡ length s.lines + 1
    go None f = absurd (not_some f)
    go (Some entry) f = ap (λ (x : GroupState). length x.lines) (sym (same_some (fire_on group number until s entry) t f)) ∙ length-append s.lines _

module _ (v : WindowValue) (is : IsWindow v) (number : ℕ) (under : number < length v.groups) (g : GroupValue) where
  abbrev old : GroupValue
  old = value_at v.groups number

  abbrev back : List GroupValue
  back = set v.groups number g

  abbrev now : WindowValue
  now = record v { groups = back; out = false }

  many : length back ≡ length v.groups
  many = length-set v.groups number g

  module _ (after : AfterFirings v.until old g) where
    fired_each : (h : ℕ) → h < length back → AfterFirings v.until (value_at v.groups h) (value_at back h)
    fired_each h here = ⊎_elim
        (λ (at : h ≡ number). subst (λ n. AfterFirings v.until (value_at v.groups n) (value_at back n)) (sym at) (subst (AfterFirings v.until old) (sym (get_or-set_same v.groups number g no_value under)) after))
        (λ (off : h ≢ number). subst (AfterFirings v.until (value_at v.groups h)) (sym (get_or-set_other v.groups number h g no_value off)) (no_firing v.until (value_at v.groups h)))
        (cases_eq h number)

    pub from_fired : (edge : State) → IsFrom edge v → IsFrom edge now
    from_fired edge from = from_returned v back many fired_each is.split edge from

    pub window_fired : IsWindow now
    window_fired = record { split = split_returned v back many fired_each is.split; edge = is.edge; from = from_fired is.edge is.from }

  -- what the firing answers
  at_machine : fire (group_in old.entries) old.number v.until (state_of old) ≡ fire (group_in v.entries) number v.until (group_at (states_of v.groups) number)
  at_machine =
      let part = is.split.parts number under in
      ap (λ (entries : List ℕ). fire (group_in entries) old.number v.until (state_of old)) part.entries_are
      ∙ ap (λ n. fire (group_in v.entries) n v.until (state_of old)) part.number_is
      ∙ ap (fire (group_in v.entries) number v.until) (sym (state_at v.groups number under))

  next : GroupState → WindowState × List TraceLine
  next s = (record { groups = set (states_of v.groups) number s; until = v.until }, [])

  fired_or : (b : Bool) → v.out ≡ false → Fired v.until old b g → HasFiredOr b v number now
  unfolding next
  fired_or true out e =
      ap (option_map next) (sym at_machine ∙ e)
      ∙ (λ i. Some (record { groups = sym (map-set state_of v.groups number g) i; until = v.until }, []))
  fired_or false out e = (
    ap (option_map next) (sym at_machine ∙ ap (option_map (fire_on (group_in old.entries) old.number v.until (state_of old))) e.0),
    λ i. record v { groups = (ap (set v.groups number) e.1 ∙ set-get_or v.groups number no_value) i; out = sym out i },
  )

  -- one more event
  room : (b : Bool) → AfterFirings v.until old g → Fired v.until old b g → g.position + length g.lines ≤ MOST_EVENTS → b ≡ true → events_with v number < MOST_EVENTS
  room true after e fits _ =
      let more = one_line (group_in old.entries) old.number v.until (state_of old) (state_of g) e in
      let position = ap (λ (x : GroupValue). x.position) after.rest in
      let part = (is.split.parts number under).position_is in
      omega (arith, more, position, part, fits)
  room false after e fits t = absurd (true≢false (sym t))

  pub has_room : {E : Type 0} (r : Result Bool E) → AfterFirings v.until old g → IfOk r (λ fired. Fired v.until old fired g) → g.position + length g.lines ≤ MOST_EVENTS → IfOk r (λ fired. fired ≡ true → events_with v number < MOST_EVENTS)
  has_room (Ok b) after h fits = room b after h fits
  has_room (Err x) after h fits = tt

  pub has_fired : {E : Type 0} (r : Result Bool E) → v.out ≡ false → IfOk r (λ fired. Fired v.until old fired g) → IfOk r (λ fired. HasFiredOr fired v number now)
  has_fired (Ok b) out h = fired_or b out h
  has_fired (Err x) out h = tt
