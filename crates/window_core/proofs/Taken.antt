-- A window that has taken a batch, and what a turn leaves.
use Rattle.std.proofs.Common.{◌≡◌, ℕ, List, [], ◌∷◌, ◌+◌, length, map, Bool, true, false, cond, Some, None, Result, Ok, Err, refl, sym, ap, ◌∙◌}
use Rattle.std.specs.List.{enumerate_from}
use Rattle.std.specs.Result.{OnOk, OnErr, is_ok}
use Rattle.tournament.proofs.Maps.{not_some, same_some}
use Rattle.node_core.specs.Pending.{Events}
use Rattle.node_core.specs.TraceLine.{TraceLine}
use Rattle.table_run.specs.State.{State}
use Rattle.window_core.specs.declared.window.Window.TheInside.{Inside}
use Rattle.line_merge.specs.Batches.{BatchValue}
use Rattle.window_law.specs.Groups.{GroupState}
use Rattle.net_partition.specs.Partition.{group_in}
use Rattle.window_core.specs.Window.{WindowValue, states_of, machine_of, setting_in, IsSplit, IsFrom, HasGoneOn, HasTurned}
use Rattle.window_core.specs.WindowOf.{window_of, IsWindowInside}
use Rattle.window_law.specs.Windows.{WindowState, all_done, all_held, all_lines, groups_delivered, delivered_to, in_order, none_fired, opened}
use Rattle.window_law.proofs.Turn.{length_delivered}
use Rattle.window_core.proofs.Windowed.{length_states}

-- ANOTHER BATCH

split_taken : (v : WindowValue) (t : BatchValue) → IsSplit v → IsSplit record v { taken = t }
split_taken v t is = record {
  count = is.count;
  parts = λ h under. let part = is.parts h under in record { number_is = part.number_is; entries_are = part.entries_are; links_are = part.links_are; until_is = part.until_is; position_is = part.position_is };
  known = λ link under. let k = is.known link under in record { from = k.from; to = k.to };
  across = λ link under off. is.across link under off;
  fits = is.fits;
}

from_taken : (v : WindowValue) (t : BatchValue) (edge : State) → IsFrom edge v → IsFrom edge record v { taken = t }
from_taken v t edge is = record { scenario = is.scenario; before = is.before; in_run = is.in_run; links_are = is.links_are; ahead_is = is.ahead_is; end_is = is.end_is }

pub gone_taken : (v : WindowValue) (t : BatchValue) (edge : State) (lines : List TraceLine) → HasGoneOn edge lines v → HasGoneOn edge lines record v { taken = t }
gone_taken v t edge lines on = record { state = on.state; is_run = on.is_run; from = from_taken v t on.state on.from }

-- the fields of such a window
pub inside_taken : (w : Inside) (t s : BatchValue) → IsWindowInside w → IsWindowInside record w { taken = t; spare = s }
inside_taken w t s is = record {
  window = record { split = split_taken (window_of w) t is.window.split; edge = is.window.edge; from = from_taken (window_of w) t is.window.edge is.window.from };
  nexts = is.nexts;
  ranks = is.ranks;
}

-- RESULTS

pub on_ok_then : {A E P Q : Type 0} (r : Result A E) → OnOk r P → (P → Q) → OnOk r Q
on_ok_then (Ok x) p then = then p
on_ok_then (Err x) p then = tt

pub not_ok : {A E : Type 0} (Q : Type 0) (r : Result A E) → is_ok r ≡ false → OnOk r Q
not_ok Q (Ok x) e = absurd (cc)
not_ok Q (Err x) e = tt

-- AFTER A TURN

no_lines : (group : ℕ → ℕ) (held : Events) (n : ℕ) (groups : List GroupState) → none_fired (map (delivered_to group held) (enumerate_from n groups)) ≡ true
no_lines group held n [] = refl
no_lines group held n (g ∷ groups) = no_lines group held (n + 1) groups

-- the machine after it, and what it gives
abbrev after_turn : WindowValue → WindowState × List TraceLine
after_turn old = (opened (setting_in old) (groups_delivered (group_in old.entries) (states_of old.groups)), in_order (all_lines (states_of old.groups)))

-- its groups are those that got their messages
turned_groups : (old new : WindowValue) (batch : BatchValue) → HasTurned old batch new → states_of new.groups ≡ groups_delivered (group_in old.entries) (states_of old.groups)
turned_groups old new batch has = go (all_done old.until (states_of old.groups)) has.moved_on
  where
    go : (b : Bool) → cond b (Some (after_turn old)) None ≡ Some (machine_of new, batch.lines) → states_of new.groups ≡ groups_delivered (group_in old.entries) (states_of old.groups)
    go true e = sym (ap (λ (p : WindowState × List TraceLine). p.0.groups) (same_some (after_turn old) (machine_of new, batch.lines) e))
    go false e = absurd (not_some e)

pub turned_unfired : (old new : WindowValue) (batch : BatchValue) → HasTurned old batch new → none_fired (states_of new.groups) ≡ true
turned_unfired old new batch has = ap none_fired (turned_groups old new batch has) ∙ no_lines (group_in old.entries) (all_held (states_of old.groups)) 0 (states_of old.groups)

-- and they are in
pub turned_inside : (old new : WindowValue) (batch : BatchValue) (r : Result (Unit {0}) Rattle.window_core.specs.declared.window.turning.TurnFault.TurnFault) → OnOk r (HasTurned old batch new) → OnErr r (new ≡ old) → old.out ≡ false → new.out ≡ false
turned_inside old new batch (Ok x) has same out = ap (λ (v : WindowValue). v.out) has.rest ∙ out
turned_inside old new batch (Err x) has same out = ap (λ (v : WindowValue). v.out) same ∙ out

-- as many as before
pub turned_size : (old new : WindowValue) (batch : BatchValue) → HasTurned old batch new → length new.groups ≡ length old.groups
turned_size old new batch has =
    sym (length_states new.groups) ∙ ap length (turned_groups old new batch has) ∙ length_delivered (group_in old.entries) (states_of old.groups) ∙ length_states old.groups
