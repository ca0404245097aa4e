-- Groups that hold a state, put together, are it.
use Rattle.std.proofs.Common.{◌≡◌, ◌<◌, ◌+◌, ℕ, zero, suc, List, length, map, get_or, refl, sym, ap, ◌∙◌, arith, ext_get_or}
use Rattle.std.proofs.Math.ListN.{get_or-map}
use Rattle.std.specs.FinMap.{get}
use Rattle.tournament.specs.Gathered.{gathered, map_at, AtHome}
use Rattle.tournament.proofs.Maps.{same_at}
use Rattle.tournament.proofs.Gathered.{get-gathered}
use Rattle.node_core.specs.Pending.{Events}
use Rattle.table_run.specs.State.{no_part}
use Rattle.window_law.specs.Groups.{GroupState, no_group, group_at}
use Rattle.window_law.specs.Standing.{joined_parts, JoinedIsTheState}
use Rattle.window_law.proofs.Turn.{there, at_own}

length_joined : (group : ℕ → ℕ) (groups : List GroupState) (n count : ℕ) → length (joined_parts group groups n count) ≡ count
length_joined group groups n zero = refl
length_joined group groups n (suc count) = ap suc (length_joined group groups (n + 1) count)

joined_at : (group : ℕ → ℕ) (groups : List GroupState) (n count i : ℕ) → i < count → get_or (joined_parts group groups n count) i no_part ≡ get_or (group_at groups (group (n + i))).parts (n + i) no_part
joined_at group groups n zero i l = absurd (omega (arith, l))
joined_at group groups n (suc count) zero l = ap (λ j. get_or (group_at groups (group j)).parts j no_part) {x = n} {y = n + 0} (omega arith)
joined_at group groups n (suc count) (suc i) l = joined_at group groups (n + 1) count i (omega (arith, l)) ∙ ap (λ j. get_or (group_at groups (group j)).parts j no_part) {x = n + 1 + i} {y = n + suc i} (omega arith)

pub joined_is_the_state : JoinedIsTheState
joined_is_the_state group s groups st i = record { parts = parts i; pending = pending i; end = s.end }
  where
    parts : joined_parts group groups 0 (length s.parts) ≡ s.parts
    parts = ext_get_or no_part _ s.parts (length_joined group groups 0 (length s.parts)) (λ n l.
        joined_at group groups 0 (length s.parts) n (omega (arith, l, length_joined group groups 0 (length s.parts)))
        ∙ ap (λ j. get_or (group_at groups (group j)).parts j no_part) {x = 0 + n} {y = n} (omega arith)
        ∙ sym (st.parts n))

    at : (h : ℕ) → map_at (map (λ (g : GroupState). g.pending) groups) h ≡ (group_at groups h).pending
    at h = get_or-map (λ (g : GroupState). g.pending) groups h no_group

    at_home : AtHome (λ k. group k.node) (map (λ (g : GroupState). g.pending) groups)
    at_home h k v e = at_own group s groups st h k v (ap (λ (m : Events). get m k) (sym (at h)) ∙ e)

    pending : gathered (map (λ (g : GroupState). g.pending) groups) ≡ s.pending
    pending = same_at _ s.pending (λ k.
        get-gathered (λ q. group q.node) (map (λ (g : GroupState). g.pending) groups) at_home k
        ∙ ap (λ (m : Events). get m k) (at (group k.node))
        ∙ sym (there group s groups st k))
