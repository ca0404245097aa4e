-- What the root of a tree of words says of the times.
use Rattle.std.proofs.Common.{◌≡◌, ◌≢◌, ℕ, zero, suc, ◌+◌, ◌-◌, ◌*◌, ◌/◌, ◌<◌, ◌≤◌, List, Some, None, length, refl, sym, ap, subst, ◌∙◌, ⊎_elim, arith}
use Rattle.std.proofs.lemmas.Bool.{cases_lt, cases_eq}
use Rattle.std.proofs.Math.ListN.{get_or-eq_default}
use Rattle.std.specs.Prelude.{slice_index}
use Rattle.tournament.specs.Timed.{time_at, IsSoonest}
use Rattle.tournament.specs.Words.{late_time, reported_at, times_reported, AllLesser, IsTimetable}
use Rattle.tournament.proofs.Searched.{held_within}
use Rattle.tournament.proofs.Reported.{places_of, time-at, early, none, upto}

module _ (tree : List ℕ) (places : ℕ) (size : length tree ≡ 2 * places) (lesser : AllLesser tree) where
  -- no node has a lesser word than the root
  root_least : (most j : ℕ) → j ≤ most → 0 < j → j < length tree → slice_index tree 1 ≤ slice_index tree j
  root_least zero j few some within = absurd (omega (arith, few, some))
  root_least (suc most) j few some within =
      ⊎_elim
      (λ (first : j ≡ 1). subst (λ i. slice_index tree 1 ≤ slice_index tree i) (sym first) (omega arith))
      (λ (later : j ≢ 1).
      let h = j / 2 in
      let above : slice_index tree 1 ≤ slice_index tree h = root_least most h (omega (arith, few, later)) (omega (arith, later, some)) (omega (arith, within)) in
      let chosen = lesser h (omega (arith, later, some)) (omega (arith, within)) in
      ⊎_elim
      (λ (even : j ≡ 2 * h). subst (λ i. slice_index tree 1 ≤ slice_index tree i) (sym even) (omega (arith, above, chosen)))
      (λ (odd : j ≢ 2 * h). subst (λ i. slice_index tree 1 ≤ slice_index tree i) {x = 2 * h + 1} {y = j} (omega (arith, odd)) (omega (arith, above, chosen)))
      (cases_eq j (2 * h)))
      (cases_eq j 1)

  -- a node has the word of a place
  has_place : (most j : ℕ) → length tree ≤ j + most → 0 < j → j < length tree → (p : ℕ) × ((p < places) × (slice_index tree j ≡ slice_index tree (places + p)))
  has_place zero j few some within = absurd (omega (arith, few, within))
  has_place (suc most) j few some within =
      ⊎_elim
      (λ (inner : 2 * j < length tree).
      let chosen = lesser j some inner in
      ⊎_elim
      (λ (left : slice_index tree (2 * j) < slice_index tree (2 * j + 1)).
      let below = has_place most (2 * j) (omega (arith, few, some)) (omega (arith, some)) inner in
      (below.0, (below.1.0, omega (arith, chosen, left, below.1.1))))
      (λ (right : slice_index tree (2 * j + 1) ≤ slice_index tree (2 * j)).
      let below = has_place most (2 * j + 1) (omega (arith, few, some)) (omega arith) (omega (arith, inner, size)) in
      (below.0, (below.1.0, omega (arith, chosen, right, below.1.1))))
      (cases_lt (slice_index tree (2 * j)) (slice_index tree (2 * j + 1))))
      (λ (outer : length tree ≤ 2 * j). (j - places, (omega (arith, within, size, outer), ap (slice_index tree) {x = j} {y = places + (j - places)} (omega (arith, size, outer)))))
      (cases_lt (2 * j) (length tree))

module _ (late tree : List ℕ) (t : IsTimetable late tree) where
  -- a place's time is not before what its word tells
  reported_upto : (p time : ℕ) → time_at (times_reported late tree) p ≡ Some time → (p < length late) × (reported_at tree (length late + p) ≤ time)
  reported_upto p time there =
      let under : p < length late = omega (arith, held_within (times_reported late tree) p time there, places_of late tree (times_reported late tree) refl) in (
        under,
        upto (reported_at tree (length late + p)) (slice_index late p) time (t.words p under).is_late (sym (time-at late tree p under) ∙ there),
      )

  module _ (some : 0 < length late) where
    home : (p : ℕ) × ((p < length late) × (slice_index tree 1 ≡ slice_index tree (length late + p)))
    home = has_place tree (length late) (t.size some) t.lesser (length tree) 1 (omega arith) (omega arith) t.rooted

    root_upto : (p : ℕ) → p < length late → slice_index tree 1 ≤ slice_index tree (length late + p)
    root_upto p under = root_least tree (length late) (t.size some) t.lesser (length late + p) (length late + p) (omega arith) (omega (arith, under)) (omega (arith, under, t.size some))

    -- the time and the place that the root tells
    module _ (time place : ℕ) (reported : reported_at tree 1 ≡ time) (rest : time * 4096 + place ≡ slice_index tree 1) where
      time_is : reported_at tree (length late + home.0) ≡ time
      time_is = ap (λ w. w / 4096) (sym home.1.1) ∙ reported

      place_is : place ≡ home.0
      place_is = omega (arith, rest, home.1.1, (t.words home.0 home.1.0).numbered, time_is)

      -- where that is a time, it is the least
      pub soonest : time < late_time → IsSoonest (times_reported late tree) place time
      soonest before = record {
        held = ap (time_at (times_reported late tree)) place_is ∙ time-at late tree home.0 home.1.0
            ∙ early (reported_at tree (length late + home.0)) (slice_index late home.0) (omega (arith, time_is, before)) ∙ ap (λ n. Some n) time_is;
        none_sooner = λ other o e.
            let most = reported_upto other o e in
            omega (arith, root_upto other most.0, reported, most.1);
        none_lower = λ other lower e.
            let most = reported_upto other time e in
            let word = root_upto other most.0 in
            absurd (let no : ⊥ = omega (arith, word, (t.words other most.0).numbered, most.1, rest, lower) in no);
      }

  -- where the root tells of none, there is none
  pub none_reported : late_time < reported_at tree 1 → (p : ℕ) → time_at (times_reported late tree) p ≡ None
  none_reported after p = ⊎_elim
      (λ (under : p < length late).
      let least = root_upto (omega (arith, under)) p under in
      time-at late tree p under ∙ none (reported_at tree (length late + p)) (slice_index late p) (omega (arith, after, least)))
      (λ (past : length late ≤ p). get_or-eq_default (times_reported late tree) None (omega (arith, past, places_of late tree (times_reported late tree) refl)))
      (cases_lt p (length late))
