-- Which of two places comes first, by their moments.
use Rattle.std.proofs.Common.{◌≡◌, ◌≢◌, ℕ, ◌+◌, ◌*◌, ◌/◌, ◌<◌, ◌≤◌, Bool, true, false, cond, List, refl, sym, ap, ◌∙◌, ⊎_elim, arith}
use Rattle.std.proofs.lemmas.Bool.{cases_eq, cases_lt}
use Rattle.std.specs.Prelude.{slice_index}
use Rattle.std.specs.Cmp.{nat_cmp_is}
use Rattle.std.specs.declared.cmp.Ordering.{Ordering}
use Rattle.std.specs.declared.cmp.Ordering.TheVariants.{Less, Equal}
use Rattle.std.specs.Ordering.{nat_cmp, ordering_then, ordering_reverse, is_lt}
use Rattle.sim_time.proofs.Order.{earlier_less}
use Rattle.sim_time.specs.declared.key.Key.{Key}
use Rattle.sim_time.specs.Keys.{key_cmp}
use Rattle.tournament.specs.declared.entry.Entry.{Entry}
use Rattle.tournament.specs.Tournament.{entry_cmp, vacant_key, moment_of, moment_at, first_place, entry_of_place, won_below}
use Rattle.tournament.proofs.Winners.{standings_total}

-- what decides between two keys of one time and node
abbrev rest : Key → Key → Ordering
rest k l = ordering_then (nat_cmp k.source l.source) (nat_cmp k.number l.number)

-- the order of keys, or none, at places
abbrev order : Bool → Bool → Key → Key → ℕ → ℕ → Ordering
order h g k l p q = ordering_then (nat_cmp (cond h 0 1) (cond g 0 1)) (ordering_then (key_cmp (cond h k vacant_key) (cond g l vacant_key)) (nat_cmp p q))

-- of two keys the one with the lesser moment is less
pub sooner : (k l : Key) → moment_of k.time k.node 0 true < moment_of l.time l.node 0 true → key_cmp k l ≡ Less
sooner k l less =
    ⊎_elim
    (λ (before : k.time < l.time). earlier_less k l before)
    (λ (late : l.time ≤ k.time).
    let same : k.time ≡ l.time = omega (arith, less, late) in
    let lower : k.node < l.node = omega (arith, less, late) in
    ap (λ o. ordering_then o (ordering_then (nat_cmp k.node l.node) (rest k l))) (sym (nat_cmp_is k.time l.time Equal same))
    ∙ ap (λ o. ordering_then o (rest k l)) (sym (nat_cmp_is k.node l.node Less lower)))
    (cases_lt k.time l.time)

earlier : (h g : Bool) (k l : Key) (p q : ℕ) → moment_of k.time k.node p h < moment_of l.time l.node q g → order h g k l p q ≡ Less
earlier true true k l p q less = ap (λ o. ordering_then o (nat_cmp p q)) (sooner k l less)
earlier true false k l p q less = refl
earlier false true k l p q less = absurd (omega (arith, less))
earlier false false k l p q less = sym (nat_cmp_is p q Less (omega (arith, less)))

-- the one with the lesser moment comes first
lesser_moment : (a b : Entry) → moment_of a.key.time a.key.node a.place a.held < moment_of b.key.time b.key.node b.place b.held → entry_cmp a b ≡ Less
lesser_moment a b less = earlier a.held b.held a.key b.key a.place b.place less

module _ (leaves : List Entry) (p q : ℕ) (less : moment_at leaves p < moment_at leaves q) where
  abbrev a : Entry
  a = entry_of_place leaves p

  abbrev b : Entry
  b = entry_of_place leaves q

  before : entry_cmp a b ≡ Less
  before = lesser_moment a b less

  first_as_left : p ≡ first_place leaves p q
  first_as_left = ap (λ o. cond (is_lt o) q p) (sym (standings_total.antisymm b a ∙ ap ordering_reverse before))

  first_as_right : p ≡ first_place leaves q p
  first_as_right = ap (λ o. cond (is_lt o) p q) (sym before)

-- of the two below a node the one with the lesser moment has the place that comes first there
pub first_beside : (leaves : List Entry) (winners : List ℕ) (i s : ℕ) → i ≢ s → i / 2 ≡ s / 2
    → moment_at leaves (slice_index winners i) < moment_at leaves (slice_index winners s) → slice_index winners i ≡ won_below leaves winners (i / 2)
first_beside leaves winners i s apart same less =
    let p = slice_index winners i in
    let q = slice_index winners s in
    let h = i / 2 in
    ⊎_elim
    (λ (even : i ≡ 2 * h).
    first_as_left leaves p q less ∙ ap (λ n. first_place leaves (slice_index winners n) q) even ∙ ap (λ n. first_place leaves (slice_index winners (2 * h)) (slice_index winners n)) {x = s} {y = 2 * h + 1} (omega (arith, apart, same, even)))
    (λ (odd : i ≢ 2 * h).
    first_as_right leaves p q less ∙ ap (λ n. first_place leaves (slice_index winners n) p) {x = s} {y = 2 * h} (omega (arith, apart, same, odd))
    ∙ ap (λ n. first_place leaves (slice_index winners (2 * h)) (slice_index winners n)) {x = i} {y = 2 * h + 1} (omega (arith, odd)))
    (cases_eq i (2 * h))
