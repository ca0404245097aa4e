-- What a tree of winners says of its root.
use Rattle.std.proofs.Common.{◌≡◌, ◌≢◌, ℕ, zero, suc, ◌+◌, ◌*◌, ◌/◌, ◌<◌, ◌≤◌, Bool, true, false, cond, List, length, get_or, Option, Some, None, refl, sym, ap, subst, ◌∙◌, ⊎_elim, ◌⊎◌, inl, inr, arith, is_some, replicate}
use mathlib.Core.Bool.{false≢true}
use Rattle.std.proofs.lemmas.Bool.{cases_lt, cases_eq}
use Rattle.std.proofs.lemmas.List.{length-map, ext_get_or, get_or-replicate, length-replicate}
use Rattle.std.specs.Prelude.{slice_index}
use Rattle.std.specs.declared.cmp.Ordering.{Ordering}
use Rattle.std.specs.declared.cmp.Ordering.TheVariants.{Less, Equal, Greater}
use Rattle.std.specs.Ordering.{nat_cmp, ordering_then, ordering_reverse, is_lt, is_gt}
use Rattle.std.specs.Cmp.{IsTotalOrder}
use Rattle.std.proofs.lemmas.Cmp.{on_total, then_total, nat_cmp_total, upto, tied_itself}
use Rattle.sim_time.proofs.Order.{keys_total}
use Rattle.tournament.specs.declared.entry.Entry.{Entry}
use Rattle.tournament.specs.Tournament.{entry_cmp, vacant_key, key_of, first_place, no_entry, entry_of_place, rank_of, ranks_of, won_below, AllWon, IsVacantAt, IsTournament}
use Rattle.tournament.specs.Leading.{rank_at, Leads}
use Rattle.sim_time.specs.declared.key.Key.{Key}
use Rattle.sim_time.specs.Keys.{key_cmp}
use Rattle.std.specs.Option.{unwrap_or}
use Rattle.std.proofs.Math.ListN.{get_or-map, get_or-eq_default}
use Rattle.std.proofs.lemmas.Map.Keys.{le_from_not_gt}

pub standings_total : IsTotalOrder entry_cmp
standings_total =
    then_total (on_total (λ (s : Entry). cond s.held 0 1) nat_cmp_total) (then_total (on_total key_of keys_total) (on_total (λ (s : Entry). s.place) nat_cmp_total))

-- the one does not come after the other
abbrev pub Upto : Entry → Entry → Type 0
Upto a b = is_gt (entry_cmp a b) ≡ false

upto_over : (a b c : Entry) → Upto a b → Upto b c → Upto a c
upto_over a b c e f = upto standings_total a b c e f

turned_gt : (r : Ordering) → is_gt (ordering_reverse r) ≡ is_lt r
turned_gt Less = refl
turned_gt Equal = refl
turned_gt Greater = refl

not_both : (r : Ordering) → is_lt r ≡ true → is_gt r ≡ false
not_both Less e = refl
not_both Equal e = refl
not_both Greater e = absurd (false≢true e)

upto_itself : (a : Entry) → Upto a a
upto_itself a = ap is_gt (tied_itself standings_total a)

-- the first of two places comes after neither
first_left : (leaves : List Entry) (a b : ℕ) → Upto (entry_of_place leaves (first_place leaves a b)) (entry_of_place leaves a)
first_left leaves a b =
    elim (is_lt (entry_cmp (entry_of_place leaves b) (entry_of_place leaves a))) as (λ t. is_lt (entry_cmp (entry_of_place leaves b) (entry_of_place leaves a)) ≡ t → Upto (entry_of_place leaves (cond t b a)) (entry_of_place leaves a)) [
      | true ↦ λ less. not_both _ less
      | false ↦ λ _. upto_itself (entry_of_place leaves a)
    ] refl

first_right : (leaves : List Entry) (a b : ℕ) → Upto (entry_of_place leaves (first_place leaves a b)) (entry_of_place leaves b)
first_right leaves a b =
    elim (is_lt (entry_cmp (entry_of_place leaves b) (entry_of_place leaves a))) as (λ t. is_lt (entry_cmp (entry_of_place leaves b) (entry_of_place leaves a)) ≡ t → Upto (entry_of_place leaves (cond t b a)) (entry_of_place leaves b)) [
      | true ↦ λ _. upto_itself (entry_of_place leaves b)
      | false ↦ λ most. ap is_gt (standings_total.antisymm (entry_of_place leaves a) (entry_of_place leaves b)) ∙ turned_gt (entry_cmp (entry_of_place leaves b) (entry_of_place leaves a)) ∙ most
    ] refl

-- it is one of the two
pub one_place : (leaves : List Entry) (a b : ℕ) → (first_place leaves a b ≡ a) ⊎ (first_place leaves a b ≡ b)
one_place leaves a b =
    elim (is_lt (entry_cmp (entry_of_place leaves b) (entry_of_place leaves a))) as (λ t. (cond t b a ≡ a) ⊎ (cond t b a ≡ b)) [ true ↦ inr refl | false ↦ inl refl ]

module _ (leaves : List Entry) (winners : List ℕ) (all : AllWon leaves winners) where
  -- what a node's place stands by
  abbrev at : ℕ → Entry
  at j = entry_of_place leaves (slice_index winners j)

  -- the root comes after no node
  root_leads : (most j : ℕ) → j ≤ most → 0 < j → j < length winners → Upto (at 1) (at j)
  root_leads zero j few some within = absurd (omega (arith, few, some))
  root_leads (suc most) j few some within =
      ⊎_elim
      (λ (first : j ≡ 1). subst (λ i. Upto (at 1) (at i)) (sym first) (upto_itself (at 1)))
      (λ (later : j ≢ 1).
      let h = j / 2 in
      let above : Upto (at 1) (at h) = root_leads most h (omega (arith, few, later)) (omega (arith, later, some)) (omega (arith, within)) in
      let won : slice_index winners h ≡ won_below leaves winners h = all h (omega (arith, later, some)) (omega (arith, within)) in
      ⊎_elim
      (λ (even : j ≡ 2 * h). subst (λ i. Upto (at 1) (at i)) (sym even)
      (upto_over (at 1) (at h) (at (2 * h)) above
      (subst (λ p. Upto (entry_of_place leaves p) (at (2 * h))) (sym won) (first_left leaves (slice_index winners (2 * h)) (slice_index winners (2 * h + 1))))))
      (λ (odd : j ≢ 2 * h). subst (λ i. Upto (at 1) (at i)) {x = 2 * h + 1} {y = j} (omega (arith, odd))
      (upto_over (at 1) (at h) (at (2 * h + 1)) above
      (subst (λ p. Upto (entry_of_place leaves p) (at (2 * h + 1))) (sym won) (first_right leaves (slice_index winners (2 * h)) (slice_index winners (2 * h + 1))))))
      (cases_eq j (2 * h)))
      (cases_eq j 1)

-- the key at a place is that of its leaf
rank_place : (leaves : List Entry) (p : ℕ) → rank_at (ranks_of leaves) p ≡ rank_of (entry_of_place leaves p)
rank_place leaves p = get_or-map rank_of leaves p no_entry

held_key : (s : Entry) (b : Bool) (k : Key) → cond b (Some s.key) None ≡ Some k → (b ≡ true) × (s.key ≡ k)
held_key s true k e = (refl, ap (λ o. unwrap_or o s.key) e)
held_key s false k e = absurd (false≢true (ap is_some e))

past_none : (leaves : List Entry) (i : ℕ) (k : Key) → rank_of (entry_of_place leaves i) ≡ Some k → i < length leaves
past_none leaves i k e = ⊎_elim
    (λ (within : i < length leaves). within)
    (λ (past : length leaves ≤ i). absurd (false≢true (ap is_some (ap rank_of (sym (get_or-eq_default leaves no_entry past)) ∙ e))))
    (cases_lt i (length leaves))

-- the order of standings that have a key or not
abbrev behind : Bool → Bool → Entry → Entry → Ordering
behind h g a b = ordering_then (nat_cmp (cond h 0 1) (cond g 0 1)) (ordering_then (key_cmp (cond h a.key vacant_key) (cond g b.key vacant_key)) (nat_cmp a.place b.place))

first_not_greater : (r s : Ordering) → is_gt (ordering_then r s) ≡ false → r ≢ Greater
first_not_greater r s e g = false≢true (sym e ∙ ap (λ x. is_gt (ordering_then x s)) g)

-- of two that have keys
both_held : (a b : Entry) → a.held ≡ true → b.held ≡ true → Upto a b → is_gt (ordering_then (key_cmp a.key b.key) (nat_cmp a.place b.place)) ≡ false
both_held a b p q e = sym (ap (λ h. is_gt (behind h b.held a b)) p ∙ ap (λ h. is_gt (behind true h a b)) q) ∙ e

-- nothing that has no key comes before a key
none_held : (a b : Entry) → a.held ≡ false → b.held ≡ true → Upto a b → ⊥
none_held a b p q e = false≢true (sym e ∙ ap (λ h. is_gt (behind h b.held a b)) p ∙ ap (λ h. is_gt (behind false h a b)) q)

-- the key that comes first is not the greater
key_not_greater : (a b : Entry) → a.held ≡ true → b.held ≡ true → Upto a b → key_cmp a.key b.key ≢ Greater
key_not_greater a b p q e = first_not_greater (key_cmp a.key b.key) (nat_cmp a.place b.place) (both_held a b p q e)

-- of one key at two places the one has the lower place
same_key : (a b : Entry) → a.held ≡ true → b.held ≡ true → a.key ≡ b.key → Upto a b → a.place ≤ b.place
same_key a b p q is e =
    let tied : key_cmp a.key b.key ≡ Equal = ap (key_cmp a.key) (sym is) ∙ tied_itself keys_total a.key in
    le_from_not_gt a.place b.place (ap (λ r. is_gt (ordering_then r (nat_cmp a.place b.place))) (sym tied) ∙ both_held a b p q e)

module _ (leaves : List Entry) (moments winners : List ℕ) (t : IsTournament leaves moments winners) where
  abbrev root : Entry
  root = entry_of_place leaves (slice_index winners 1)

  root_upto : (p : ℕ) → p < length leaves → Upto root (entry_of_place leaves p)
  root_upto p within =
      let led : Upto root (entry_of_place leaves (slice_index winners (length leaves + p))) =
      root_leads leaves winners t.won (length leaves + p) (length leaves + p) (omega arith) (omega (arith, within)) (omega (arith, within, t.size)) in
      subst (λ i. Upto root (entry_of_place leaves i)) (t.own p within) led

  -- a root with a key has the least
  pub leads_root : 0 < length leaves → root.held ≡ true → Leads (ranks_of leaves) (slice_index winners 1) root.key
  leads_root some held =
      record {
        held = rank_place leaves (slice_index winners 1) ∙ ap (λ b. cond b (Some root.key) None) held;
        none_less = λ other k e.
            let at : rank_of (entry_of_place leaves other) ≡ Some k = sym (rank_place leaves other) ∙ e in
            let is = held_key (entry_of_place leaves other) (entry_of_place leaves other).held k at in
            subst (λ x. key_cmp root.key x ≢ Greater) is.1 (key_not_greater root (entry_of_place leaves other) held is.0 (root_upto other (past_none leaves other k at)));
        none_lower = λ other lower e.
            let at : rank_of (entry_of_place leaves other) ≡ Some root.key = sym (rank_place leaves other) ∙ e in
            let is = held_key (entry_of_place leaves other) (entry_of_place leaves other).held root.key at in
            let within : other < length leaves = past_none leaves other root.key at in
            let own : root.place ≡ slice_index winners 1 = t.numbered (slice_index winners 1) (t.within 1 (omega (arith, some, t.size))) in
            omega (arith, lower, same_key root (entry_of_place leaves other) held is.0 (sym is.1) (root_upto other within), t.numbered other within, own);
      }

  -- where the root has none, no place has
  pub none_ranked : root.held ≡ false → (p : ℕ) → rank_at (ranks_of leaves) p ≡ None
  none_ranked held p =
      elim (entry_of_place leaves p).held as (λ b. (entry_of_place leaves p).held ≡ b → rank_at (ranks_of leaves) p ≡ None) [
        | true ↦ λ is.
            let within : p < length leaves = past_none leaves p (entry_of_place leaves p).key (ap (λ b. cond b (Some (entry_of_place leaves p).key) None) is) in
            absurd (none_held root (entry_of_place leaves p) held is (root_upto p within))
        | false ↦ λ is. rank_place leaves p ∙ ap (λ b. cond b (Some (entry_of_place leaves p).key) None) is
      ] refl

-- no place has a key
pub all_vacant : (places : ℕ) (leaves : List Entry) → length leaves ≡ places → ((p : ℕ) → p < places → IsVacantAt leaves p) → ranks_of leaves ≡ replicate places None
all_vacant places leaves size vacant = ext_get_or None (ranks_of leaves) (replicate places None) lengths each
  where
    lengths : length (ranks_of leaves) ≡ length (replicate {A = Option Key} places None)
    lengths = length-map leaves rank_of ∙ omega (arith, size, length-replicate {A = Option Key} places None)

    each : (i : ℕ) → i < length (ranks_of leaves) → get_or (ranks_of leaves) i None ≡ get_or (replicate {A = Option Key} places None) i None
    each i under =
        let within : i < places = omega (arith, under, length-map leaves rank_of, size) in
        rank_place leaves i ∙ ap (λ b. cond b (Some (entry_of_place leaves i).key) None) (vacant i within).held ∙ sym (get_or-replicate {A = Option Key} places i None None within)
