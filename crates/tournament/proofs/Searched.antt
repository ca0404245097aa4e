-- The soonest of the places so far, as they are looked at one after another.
use Rattle.std.proofs.Common.{◌≡◌, ◌≢◌, ℕ, ◌+◌, ◌<◌, ◌≤◌, List, length, sym, ap, subst, ◌∙◌, Some, None, Option, ⊎_elim, arith, refl}
use Rattle.std.proofs.lemmas.Bool.{cases_lt}
use Rattle.std.proofs.Math.ListN.{get_or-eq_default}
use Rattle.std.specs.Prelude.{MatchOption, IfSome}
use Rattle.tournament.specs.Timed.{time_at, IsSoonest, IsSoonestOrPast}
use Rattle.tournament.proofs.Maps.{not_some, same_some}

-- of the places before an end
pub record IsSoonestBefore (times : List (Option ℕ)) (end place time : ℕ) : Type 0 where
  pub held : time_at times place ≡ Some time
  pub none_sooner : (other t : ℕ) → other < end → time_at times other ≡ Some t → time ≤ t
  pub none_lower : (other : ℕ) → other < place → time_at times other ≢ Some time

abbrev pub IsSought : List (Option ℕ) → ℕ → Option (ℕ × ℕ) → Type 0
IsSought times end first = MatchOption first ((p : ℕ) → p < end → time_at times p ≡ None) (λ (entry : ℕ × ℕ). IsSoonestBefore times end entry.0 entry.1)

-- one place on, which has no time
pub passed : (times : List (Option ℕ)) (end : ℕ) (first : Option (ℕ × ℕ)) → time_at times end ≡ None → IsSought times end first → IsSought times (end + 1) first
passed times end None none sought = λ p under. ⊎_elim (λ (before : p < end). sought p before) (λ (last : end ≤ p). ap (time_at times) {x = p} {y = end} (omega (arith, under, last)) ∙ none) (cases_lt p end)
passed times end (Some entry) none sought = record {
  held = sought.held;
  none_sooner = λ other t under there. ⊎_elim
      (λ (before : other < end). sought.none_sooner other t before there)
      (λ (last : end ≤ other). absurd (not_some (sym none ∙ ap (time_at times) {x = end} {y = other} (omega (arith, under, last)) ∙ there)))
      (cases_lt other end);
  none_lower = sought.none_lower;
}

-- and which has one
pub replaced : (times : List (Option ℕ)) (end time : ℕ) (first next : Option (ℕ × ℕ)) → time_at times end ≡ Some time → IsSought times end first → (first ≡ None → next ≡ Some (end, time))
    → IfSome first (λ (entry : ℕ × ℕ). time < entry.1 → next ≡ Some (end, time)) → IfSome first (λ (entry : ℕ × ℕ). entry.1 ≤ time → next ≡ first) → IsSought times (end + 1) next
replaced times end time None next there sought none less most = subst (IsSought times (end + 1)) (sym (none refl)) (record {
  held = there;
  none_sooner = λ other t under here. ⊎_elim
      (λ (before : other < end). absurd (not_some (sym (sought other before) ∙ here)))
      (λ (last : end ≤ other).
      let same : time ≡ t = same_some time t (sym there ∙ ap (time_at times) {x = end} {y = other} (omega (arith, under, last)) ∙ here) in
      omega (arith, same))
      (cases_lt other end);
  none_lower = λ other lower here. not_some (sym (sought other lower) ∙ here);
})
replaced times end time (Some entry) next there sought none less most = ⊎_elim
    (λ (earlier : time < entry.1). subst (IsSought times (end + 1)) (sym (less earlier)) (record {
      held = there;
      none_sooner = λ other t under here. ⊎_elim
          (λ (before : other < end). omega (arith, earlier, sought.none_sooner other t before here))
          (λ (last : end ≤ other).
          let same : time ≡ t = same_some time t (sym there ∙ ap (time_at times) {x = end} {y = other} (omega (arith, under, last)) ∙ here) in
          omega (arith, same))
          (cases_lt other end);
      none_lower = λ other lower here. let least = sought.none_sooner other time lower here in absurd (let no : ⊥ = omega (arith, earlier, least) in no);
    }))
    (λ (upto : entry.1 ≤ time). subst (IsSought times (end + 1)) (sym (most upto)) (record {
      held = sought.held;
      none_sooner = λ other t under here. ⊎_elim
          (λ (before : other < end). sought.none_sooner other t before here)
          (λ (last : end ≤ other).
          let same : time ≡ t = same_some time t (sym there ∙ ap (time_at times) {x = end} {y = other} (omega (arith, under, last)) ∙ here) in
          omega (arith, same, upto))
          (cases_lt other end);
      none_lower = sought.none_lower;
    }))
    (cases_lt time entry.1)

-- a place that has a time is one of them
pub held_within : (times : List (Option ℕ)) (p t : ℕ) → time_at times p ≡ Some t → p < length times
held_within times p t there = ⊎_elim
    (λ (inside : p < length times). inside)
    (λ (past : length times ≤ p). absurd (not_some (sym (get_or-eq_default times None past) ∙ there)))
    (cases_lt p (length times))

past_none : (times : List (Option ℕ)) (end p t : ℕ) → length times ≤ end → time_at times p ≡ Some t → p < end
past_none times end p t all there = omega (arith, held_within times p t there, all)

-- all places were looked at
pub searched : (times : List (Option ℕ)) (end : ℕ) (first : Option (ℕ × ℕ)) → length times ≤ end → IsSought times end first → MatchOption first ((p : ℕ) → time_at times p ≡ None) (λ (entry : ℕ × ℕ). IsSoonest times entry.0 entry.1)
searched times end None all sought = λ p. ⊎_elim (λ (before : p < end). sought p before) (λ (last : end ≤ p). get_or-eq_default times None (omega (arith, last, all))) (cases_lt p end)
searched times end (Some entry) all sought = record {
  held = sought.held;
  none_sooner = λ other t there. sought.none_sooner other t (past_none times end other t all there) there;
  none_lower = sought.none_lower;
}

pub is_past : (times : List (Option ℕ)) (place time : ℕ) → place ≡ length times → ((other : ℕ) → time_at times other ≡ None) → IsSoonestOrPast times place time
is_past times place time past none = record {
  most = omega (arith, past);
  soonest = λ within. absurd (let no : ⊥ = omega (arith, within, past) in no);
  none = λ _. none;
}
