-- The lines of a group among those that it has memory for: after no firing, and after one.
use Rattle.std.proofs.Common.{◌≡◌, ℕ, ◌+◌, ◌<◌, ◌≤◌, List, [], ◌∷◌, ◌++◌, length, map, take, set, refl, sym, ap, subst, ◌∙◌, Some, Option, Result, Ok, Err, false, true≢false, arith}
use Rattle.std.specs.Option.{option_map}
use Rattle.std.specs.Result.{OnOk, is_err}
use Rattle.std.proofs.lemmas.List.{length-map, length-take-le, map-append, take_more_set, take-set}
use Rattle.sim_time.specs.declared.key.Key.{Key}
use Rattle.sim_time.specs.declared.limits.TheConstants.{MOST_EVENTS}
use Rattle.tournament.specs.Keyed.{next_key}
use Rattle.tournament.specs.Timed.{time_of}
use Rattle.tournament.proofs.Maps.{not_some, same_some}
use Rattle.node_core.specs.declared.event.Event.{Event}
use Rattle.node_core.specs.declared.line.Line.{Line}
use Rattle.node_core.specs.TraceLine.{shown}
use Rattle.net_machine.specs.Nodes.{net_pending, IsFirst}
use Rattle.net_machine.specs.Region.{HasHappened}
use Rattle.node_group.specs.declared.area.Area.{Area}
use Rattle.node_group.specs.declared.group_state.GroupState.TheInside.{Inside}
use Rattle.node_group.specs.Group.{GroupValue, IsOnRun, AfterFirings, IsFiring, IsDueBelow}
use Rattle.node_group.specs.Passing.{nodes_of, with_node, HasPassed}
use Rattle.node_group.specs.GroupStateOf.{group_of, IsGroupState}
use Rattle.node_group.proofs.Endings.{has_fired}

pub reported_count : (lines : List Line) (count : ℕ) → count ≤ length lines → length (map shown (take count lines)) ≡ count
reported_count lines count within = length-map (take count lines) shown ∙ length-take-le count lines within

-- one line more
pub reported_more : (old lines : List Line) (count : ℕ) (line : Line) → count < length lines → take count lines ≡ take count old → map shown (take (count + 1) (set lines count line)) ≡ map shown (take count old) ++ shown line ∷ []
reported_more old lines count line within kept =
    ap (map shown) (take_more_set lines count line within ∙ ap (λ (all : List Line). all ++ line ∷ []) kept) ∙ map-append shown (take count old) (line ∷ [])

pub reported_same : (old lines : List Line) (count : ℕ) (line : Line) → take count lines ≡ take count old → map shown (take count (set lines count line)) ≡ map shown (take count old)
reported_same old lines count line kept = ap (map shown) (take-set lines count line ∙ kept)

-- a group after no firing
pub no_firing : (end : ℕ) (g : GroupValue) → AfterFirings end g g
no_firing end g = record { times = 0; state = refl; rest = refl; seats_stay = refl; from_others = λ link under off. refl; wires_stay = refl }

-- what holds of a result that is no error
pub on_ok : {T E P : Type 0} (r : Result T E) → OnOk r P → is_err r ≡ false → P
on_ok (Ok x) h e = h
on_ok (Err x) h e = absurd (true≢false e)

-- a share's group has fired: with a line more among those that there is memory for
pub has_fired_into : (s : Inside) (end place : ℕ) → s.count ≤ length s.lines.items → IsDueBelow end (group_of s) place → (made : List Line) → s.count < length made → take s.count made ≡ take s.count s.lines.items → (line : Line) (new : Area)
    → HasHappened nodes_of with_node (HasPassed s.links.items) s.area new place (shown line) → IsFiring end (group_of s) (record (group_of s) { seats = new.nodes_by_number; held = new.exits; lines = map shown (take (s.count + 1) (set made s.count line)) })
has_fired_into s end place within d made room kept line new has = has_fired d (shown line) new has (map shown (take (s.count + 1) (set made s.count line))) (reported_more s.lines.items made s.count line room kept)

-- the least event of a group state is below a moment
pub due_below : (s : Inside) → IsGroupState s → (g : GroupValue) → group_of s ≡ g → IsOnRun g → (end : ℕ) → end ≤ g.until → (place time : ℕ) → IsFirst (nodes_of s.area) place → Some time ≡ time_of (next_key (net_pending (nodes_of s.area))) → time < end → s.position + s.count < MOST_EVENTS → IsDueBelow end (group_of s) place
due_below s is g same on end below place time first next soon few =
    let reported = reported_count s.lines.items s.count is.count in
    record {
      is = is.is_group;
      on = subst IsOnRun (sym same) on;
      below = subst (λ (v : GroupValue). end ≤ v.until) (sym same) below;
      first = first;
      fits = omega (arith, reported, few);
      soon = λ k v here. subst (λ t. t < end) (same_some time k.time (next ∙ ap (λ (o : Option (Key × Event)). time_of (option_map (λ (entry : Key × Event). entry.0) o)) (first.same ∙ here))) soon;
      pending = λ none. not_some (sym (next ∙ ap (λ (o : Option (Key × Event)). time_of (option_map (λ (entry : Key × Event). entry.0) o)) first.same ∙ ap time_of none));
    }
