-- The place in a rising list of numbers that moves on as packets are counted.
use Rattle.std.proofs.Common.{◌≡◌, ℕ, ◌+◌, ◌<◌, ◌≤◌, ◌==◌, false, List, length, get_or, sym, subst, ⊎_elim, ◌∙◌, arith}
use Rattle.std.proofs.lemmas.Bool.{cases_lt, ne_eqb}
use Rattle.std.proofs.lemmas.List.{get_or_default}
use Rattle.std.proofs.lemmas.List.Folds.{list_any_none}
use Rattle.std.proofs.lemmas.List.Kept.{AllPairs-from_increasing}
use Rattle.port.specs.Losses.{is_lost, IsNextLoss}

module _ (lose : List ℕ) (offered place : ℕ) (next : IsNextLoss lose offered place) where
  -- the packet of the number at the place was offered
  pub moved_on : place < length lose → get_or lose place 0 ≡ offered + 1 → IsNextLoss lose (offered + 1) (place + 1)
  moved_on within here = record {
    rises = next.rises;
    passed = λ k lt. ⊎_elim (λ (before : k < place). let least = next.passed k before in omega (arith, least)) (λ (at : place ≤ k). let same : place ≡ k = omega arith in subst (λ j. get_or lose j 0 ≤ offered + 1) same (omega (arith, here))) (cases_lt k place);
    to_come = λ k le below. let more : get_or lose place 0 < get_or lose k 0 = AllPairs-from_increasing lose next.rises place k 0 (omega arith) below in omega (arith, here, more);
  }

  -- a packet of another number was offered
  pub stayed : (place < length lose → get_or lose place 0 ≡ offered + 1 → ⊥) → IsNextLoss lose (offered + 1) place
  stayed other = record {
    rises = next.rises;
    passed = λ k lt. let least = next.passed k lt in omega (arith, least);
    to_come = λ k le below.
        ⊎_elim (λ (behind : place < k). let first : offered < get_or lose place 0 = next.to_come place (omega arith) (omega arith) in let more : get_or lose place 0 < get_or lose k 0 = AllPairs-from_increasing lose next.rises place k 0 behind below in omega (arith, first, more))
        (λ (at : k ≤ place). let same : place ≡ k = omega arith in subst (λ j. offered + 1 < get_or lose j 0) same (let at_most : place < length lose = omega arith in let first = next.to_come place (omega arith) at_most in let ne = other at_most in omega (arith, first, ne)))
        (cases_lt place k);
  }

  -- and it is not lost
  pub none_lost : (place < length lose → get_or lose place 0 ≡ offered + 1 → ⊥) → false ≡ is_lost lose (offered + 1)
  none_lost other =
      sym
      (list_any_none (λ n. n == offered + 1) lose (λ k d within.
      ne_eqb (get_or lose k d) (offered + 1) (λ same.
      let at : get_or lose k 0 ≡ offered + 1 = get_or_default lose k 0 d within ∙ same in
      ⊎_elim (λ (before : k < place). let least = next.passed k before in omega (arith, least, at))
      (λ (after : place ≤ k). let more = (stayed other).to_come k after within in omega (arith, more, at)) (cases_lt k place))))
