-- A state split by groups stands.
use Rattle.std.proofs.Common.{◌≡◌, ◌≤◌, ◌<◌, ◌+◌, ℕ, zero, suc, length, get_or, cond, ◌==◌, None, refl, sym, ap, ◌∙◌, ⊎_elim, arith, ne_eqb}
use Rattle.std.proofs.lemmas.Bool.{cases_lt}
use Rattle.std.proofs.lemmas.List.{get_or_past}
use Rattle.std.specs.FinMap.{get, get-empty, get-retain_keys}
use Rattle.sim_time.specs.declared.key.Key.{Key}
use Rattle.sim_time.specs.Keys.{key_cmp}
use Rattle.sim_time.proofs.Order.{exact_keys}
use Rattle.table_run.specs.State.{State, no_part}
use Rattle.window_law.specs.Groups.{GroupState, no_group, group_at}
use Rattle.window_law.specs.Standing.{Stands, SplitStands, part_of, split_from, split}

module _ (group : ℕ → ℕ) (s : State) where
  length_split : (m count : ℕ) → length (split_from group s m count) ≡ count
  length_split m zero = refl
  length_split m (suc count) = ap suc (length_split (m + 1) count)

  split_at : (m count h : ℕ) → h < count → group_at (split_from group s m count) h ≡ part_of group s (m + h)
  split_at m zero h l = absurd (omega (arith, l))
  split_at m (suc count) zero l = ap (part_of group s) {x = m} {y = m + 0} (omega arith)
  split_at m (suc count) (suc h) l = split_at (m + 1) count h (omega (arith, l)) ∙ ap (part_of group s) {x = m + 1 + h} {y = m + suc h} (omega arith)

  at : (count h : ℕ) → h < count → group_at (split group count s) h ≡ part_of group s h
  at count h l = split_at 0 count h l ∙ ap (part_of group s) {x = 0 + h} {y = h} (omega arith)

  past : (count h : ℕ) → count ≤ h → group_at (split group count s) h ≡ no_group
  past count h l = get_or_past (split group count s) h no_group (omega (arith, l, length_split 0 count))

  pub split_is : (count : ℕ) → ((n : ℕ) → group n < count) → Stands group s (split group count s)
  split_is count few = record {
    few = λ n. omega (arith, few n, length_split 0 count);
    sizes = λ n. ap (λ (g : GroupState). length g.parts) (at count (group n) (few n));
    parts = λ n. ap (λ (g : GroupState). get_or g.parts n no_part) (sym (at count (group n) (few n)));
    pending = there;
    held = λ h. ⊎_elim (λ (l : h < count). ap (λ (g : GroupState). g.held) (at count h l)) (λ (o : count ≤ h). ap (λ (g : GroupState). g.held) (past count h o)) (cases_lt h count);
    lines = λ h. ⊎_elim (λ (l : h < count). ap (λ (g : GroupState). g.lines) (at count h l)) (λ (o : count ≤ h). ap (λ (g : GroupState). g.lines) (past count h o)) (cases_lt h count);
  }
    where
      there : (h : ℕ) (k : Key) → get (group_at (split group count s) h).pending k ≡ cond (group k.node == h) (get s.pending k) None
      there h k =
          ⊎_elim
          (λ (l : h < count). ap (λ (g : GroupState). get g.pending k) (at count h l) ∙ get-retain_keys s.pending (λ z. group z.node == h) k (λ z e. ap (λ (y : Key). group y.node == h) (sym (exact_keys k z e))))
          (λ (o : count ≤ h).
          ap (λ (g : GroupState). get g.pending k) (past count h o) ∙ get-empty key_cmp k
          ∙ ap (λ b. cond b (get s.pending k) None) (sym (ne_eqb (group k.node) h (λ e. let f = few k.node in absurd (omega (arith, e, f, o))))))
          (cases_lt h count)

pub split_stands : SplitStands
split_stands group count s few = split_is group s count few
