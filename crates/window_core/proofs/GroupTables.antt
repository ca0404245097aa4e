-- What is kept of the groups of a window.
use Rattle.std.proofs.Common.{◌≡◌, ◌≤◌, ◌<◌, ◌+◌, ◌&&◌, ℕ, zero, suc, min, List, [], ◌∷◌, ◌++◌, length, map, set, get_or, true, false, cond, is_none, nat_le, nat_lt, Option, Some, None, refl, sym, ap, ◌∙◌, arith, true≢false, Vec, Global}
use Rattle.std.proofs.lemmas.Bool.Decides.{nat_tests}
use Rattle.std.proofs.lemmas.List.{length-map, length-set, map-set, get_or_default}
use Rattle.std.proofs.Math.ListN.{get_or-map}
use Rattle.std.proofs.Math.Seq.{map-set_same}
use Rattle.std.specs.Option.{IfSome, option_map, unwrap_or}
use Rattle.std.specs.Vec.{with_item}
use Rattle.sim_time.specs.declared.key.Key.{Key}
use Rattle.node_core.specs.declared.event.Event.{Event}
use Rattle.table_run.specs.State.{below, due}
use Rattle.node_group.specs.declared.group_state.GroupState.{GroupState as StateOfGroup}
use Rattle.window_core.specs.declared.window.group_table.GroupTable.TheInside.{Inside}
use Rattle.node_group.specs.Group.{GroupValue, state_of}
use Rattle.window_law.specs.Groups.{GroupState, up_to}
use Rattle.window_law.specs.Lookahead.{lesser}
use Rattle.window_core.specs.GroupTableOf.{IsGroupTable}
use Rattle.window_core.specs.GroupTables.{next_of_group, nexts_of, least_moment}
use Rattle.window_core.specs.Window.{no_value, value_at, states_of}
use Rattle.window_law.specs.Windows.{all_done, all_lines, first_time, soonest}
use Rattle.window_core.proofs.Readings.{reported_more}
use Rattle.window_core.proofs.TurnReady.{cleared}

abbrev last : ℕ
last = 18446744073709551615

-- WHEN THE NEXT EVENT IS

late_test : (time until : ℕ) → until ≤ time → nat_lt time until ≡ false
late_test time until late = grind (arith, nat_tests)

none_below : (until : ℕ) (o : Option (Key × Event)) → until ≤ unwrap_or (option_map (λ (k : Key). k.time) (option_map (λ (entry : Key × Event). entry.0) o)) last → below until o ≡ None
none_below until None late = refl
none_below until (Some entry) late = ap (λ b. cond b (Some entry) None) (late_test entry.0.time until late)

-- a group whose next event is not before a moment has none before it
pub none_due : (until : ℕ) (g : GroupState) → until ≤ next_of_group g → due (up_to until g) ≡ None
none_due until g late = none_below until (Rattle.tournament.specs.Keyed.least g.pending) late

is_late : (time until : ℕ) (entry : Key × Event) → is_none (cond (nat_lt time until) (Some entry) None) ≡ nat_le until time
is_late time until entry = elim (nat_lt time until) as (λ b. nat_lt time until ≡ b → is_none (cond b (Some entry) None) ≡ nat_le until time) [
  | true ↦ λ t. (let t' = t in grind (arith, nat_tests, t'))
  | false ↦ λ t. (let t' = t in grind (arith, nat_tests, t'))
] refl

one_done : (until : ℕ) (o : Option (Key × Event)) → until ≤ last → is_none (below until o) ≡ nat_le until (unwrap_or (option_map (λ (k : Key). k.time) (option_map (λ (entry : Key × Event). entry.0) o)) last)
one_done until None few = grind (arith, nat_tests)
one_done until (Some entry) few = is_late entry.0.time until entry

both_late : (until a b : ℕ) → (nat_le until a && nat_le until b) ≡ nat_le until (min a b)
both_late until a b = grind (arith, nat_tests)

-- no group has an event before a moment where the least of all is not before it
pub done_is : (until : ℕ) (groups : List GroupState) → until ≤ last → all_done until groups ≡ nat_le until (least_moment (nexts_of groups))
done_is until [] few = grind (arith, nat_tests)
done_is until (g ∷ groups) few =
    (λ i. one_done until (Rattle.tournament.specs.Keyed.least g.pending) few i && done_is until groups few i) ∙ both_late until (next_of_group g) (least_moment (nexts_of groups))

pub least_upto : (nexts : List ℕ) → least_moment nexts ≤ last
least_upto [] = omega arith
least_upto (next ∷ nexts) = let rest = least_upto nexts in omega (arith, rest)

one_sooner : (a b : Option ℕ) (n : ℕ) → min (unwrap_or b last) last ≡ n → min (unwrap_or (lesser a b) last) last ≡ min (unwrap_or a last) n
one_sooner None None n e = omega (arith, e)
one_sooner None (Some b) n e = omega (arith, e)
one_sooner (Some a) None n e = omega (arith, e)
one_sooner (Some a) (Some b) n e = omega (arith, e)

soonest_or_last : (groups : List GroupState) → min (unwrap_or (soonest groups) last) last ≡ least_moment (nexts_of groups)
soonest_or_last [] = omega arith
soonest_or_last (g ∷ groups) = one_sooner (first_time g) (soonest groups) (least_moment (nexts_of groups)) (soonest_or_last groups)

some_sooner : (o : Option ℕ) (n : ℕ) → min (unwrap_or o last) last ≡ n → n < last → o ≡ Some n
some_sooner None n e sooner = absurd (omega (arith, e, sooner))
some_sooner (Some m) n e sooner = ap (λ k. Some k) (omega (arith, e, sooner))

-- the least of all, where it is before the last moment
pub soonest_is : (groups : List GroupState) (n : ℕ) → n ≡ least_moment (nexts_of groups) → n < last → soonest groups ≡ Some n
soonest_is groups n e sooner = some_sooner (soonest groups) n (soonest_or_last groups ∙ sym e) sooner

-- AFTER A CHANGE

nexts_set : (group_states : List GroupValue) (i : ℕ) (g : GroupValue) → nexts_of (states_of (set group_states i g)) ≡ set (nexts_of (states_of group_states)) i (next_of_group (state_of g))
nexts_set group_states i g = ap nexts_of (map-set state_of group_states i g) ∙ map-set next_of_group (states_of group_states) i (state_of g)

nexts_kept : (group_states : List GroupValue) (i : ℕ) (g : GroupValue) → next_of_group (state_of g) ≡ next_of_group (state_of (value_at group_states i)) → nexts_of (states_of (set group_states i g)) ≡ nexts_of (states_of group_states)
nexts_kept group_states i g same =
    ap nexts_of (map-set state_of group_states i g)
    ∙ map-set_same next_of_group (states_of group_states) i (state_of g) (state_of no_value) (same ∙ ap next_of_group (sym (get_or-map state_of group_states i no_value)))

-- a group gave its outgoing messages to another
pub nexts_handed : (group_states : List GroupValue) (from to : ℕ) (a b : GroupValue) → next_of_group (state_of a) ≡ next_of_group (state_of (value_at group_states from)) → set (nexts_of (states_of group_states)) to (next_of_group (state_of b)) ≡ nexts_of (states_of (set (set group_states from a) to b))
nexts_handed group_states from to a b same = sym (nexts_set (set group_states from a) to b ∙ ap (λ ns. set ns to (next_of_group (state_of b))) (nexts_kept group_states from a same))

pub nexts_cleared : (n : ℕ) (group_states : List GroupValue) → nexts_of (states_of (map (cleared n) group_states)) ≡ nexts_of (states_of group_states)
nexts_cleared n [] = refl
nexts_cleared n (g ∷ group_states) = ap (λ ns. next_of_group (state_of g) ∷ ns) (nexts_cleared n group_states)

pub none_reported : (n : ℕ) (group_states : List GroupValue) → all_lines (states_of (map (cleared n) group_states)) ≡ []
none_reported n [] = refl
none_reported n (g ∷ group_states) = none_reported n group_states

pub same_reported : (old new : List GroupValue) → length new ≡ length old → ((h : ℕ) → (value_at new h).lines ≡ (value_at old h).lines) → all_lines (states_of new) ≡ all_lines (states_of old)
same_reported [] [] size same = refl
same_reported [] (n ∷ new) size same = absurd (omega (arith, size))
same_reported (o ∷ old) [] size same = absurd (omega (arith, size))
same_reported (o ∷ old) (n ∷ new) size same =
    let rest = same_reported old new (omega (arith, size)) (λ h. same (suc h)) in
    let first = same 0 in
    λ i. first i ++ rest i

-- how many lines were told, where one group's are others
pub reported_set : (group_states : List GroupValue) (i : ℕ) (g : GroupValue) → i < length group_states → length (all_lines (states_of (set group_states i g))) + length (value_at group_states i).lines ≡ length (all_lines (states_of group_states)) + length g.lines
reported_set [] i g under = absurd (omega (arith, under))
reported_set (x ∷ group_states) zero g under = let new = reported_more g group_states in let old = reported_more x group_states in omega (arith, new, old)
reported_set (x ∷ group_states) (suc i) g under =
    let rest = reported_set group_states i g (omega (arith, under)) in
    let new = reported_more x (set group_states i g) in
    let old = reported_more x group_states in
    omega (arith, rest, new, old)

pub reported_upto : (group_states : List GroupValue) (i : ℕ) → i < length group_states → length (value_at group_states i).lines ≤ length (all_lines (states_of group_states))
reported_upto [] i under = absurd (omega (arith, under))
reported_upto (x ∷ group_states) zero under = let all = reported_more x group_states in omega (arith, all)
reported_upto (x ∷ group_states) (suc i) under =
    let rest = reported_upto group_states i (omega (arith, under)) in
    let all = reported_more x group_states in
    omega (arith, rest, all)

-- THE ROSTER

-- the next moment that is kept of a group
pub next_at : (group_states : List GroupValue) (i : ℕ) (nexts : List ℕ) (n : ℕ) → nexts ≡ nexts_of (states_of group_states) → i < length group_states → n ≡ get_or nexts i n → n ≡ next_of_group (state_of (value_at group_states i))
next_at group_states i nexts n are under read =
    let many = length-map (states_of group_states) next_of_group ∙ length-map group_states state_of in
    read
    ∙ ap (λ ns. get_or ns i n) are
    ∙ sym (get_or_default (nexts_of (states_of group_states)) i (next_of_group (state_of no_value)) n (omega (arith, under, many)))
    ∙ get_or-map next_of_group (states_of group_states) i (state_of no_value)
    ∙ ap next_of_group (get_or-map state_of group_states i no_value)

-- a group table whose groups are others, which have the same nexts and lines
pub with_groups : (w : Inside) (group_states : Vec StateOfGroup Global) (nexts : Vec ℕ Global) (least : Option ℕ) (reported : ℕ) → IsGroupTable w → w.out ≡ false → length group_states.items ≡ length w.group_states.items → nexts.items ≡ nexts_of (states_of group_states.items) → IfSome least (λ n. n ≡ least_moment nexts.items) → reported ≡ length (all_lines (states_of group_states.items)) → IsGroupTable record w { group_states = group_states; nexts = nexts; least = least; reported = reported }
with_groups w group_states nexts least reported is out size are read count =
    let few = is.few in
    let was : length w.nexts.items ≡ length w.group_states.items = is.size ∙ ap (λ b. length (cond b w.lent.value.items w.group_states.items)) out in
    let many : length nexts.items ≡ length group_states.items = ap length are ∙ length-map (states_of group_states.items) next_of_group ∙ length-map group_states.items state_of in
    record {
      few = omega (arith, few, was, many, size);
      size = many ∙ ap (λ b. length (cond b w.lent.value.items group_states.items)) (sym out);
      nexts = λ e. are;
      least = read;
      reported = λ e. count;
      room_out = λ e. let room = (is.room_out out).1 in ((is.room_out out).0, omega (arith, room, was, many, size));
      room_back = λ e. absurd (true≢false (sym e ∙ out));
    }

-- a group table after events of a group
pub after_events : (w : Inside) (i : ℕ) (g : GroupValue) (n reported : ℕ) → IsGroupTable w → w.out ≡ false → i < length w.group_states.items → n ≡ next_of_group (state_of g) → reported + length (value_at w.group_states.items i).lines ≡ w.reported + length g.lines → IsGroupTable record w { group_states = with_item w.group_states i g; nexts = with_item w.nexts i n; least = None; reported = reported }
after_events w i g n reported is out under next more =
    with_groups w (with_item w.group_states i g) (with_item w.nexts i n) None reported is out (length-set w.group_states.items i g)
    (ap (λ ns. set ns i n) (is.nexts out) ∙ ap (set (nexts_of (states_of w.group_states.items)) i) next ∙ sym (nexts_set w.group_states.items i g))
    tt
    (let all = reported_set w.group_states.items i g under in let was = is.reported out in omega (arith, all, was, more))
