-- No more is sent again than is sent.
use Rattle.std.proofs.Common.{◌≡◌, ℕ, ◌+◌, ◌≤◌, Bool, true, false, cond, List, [], ◌∷◌, length, arith}
use Rattle.std.specs.Prelude.{count_by, nat_lt}
use Rattle.std.proofs.lemmas.List.Sums.{sum_by-cons}
use Rattle.figures.specs.Turns.{Turn, planned_in, again_in, in_recovery}
use Rattle.figures.specs.Laws.{SentAgainIsSent}

at_most_one : (b : Bool) → cond {A = ℕ} b 1 0 ≤ 1
at_most_one true = omega arith
at_most_one false = omega arith

counted : {A : Type 0} (p : A → Bool) (xs : List A) → count_by p xs ≤ length xs
counted p [] = omega arith
counted {A} p (x ∷ xs) =
    let first = sum_by-cons (λ (y : A). cond (p y) 1 0) x xs in
    let one = at_most_one (p x) in
    let rest = counted p xs in
    omega (arith, first, one, rest)

either : (b : Bool) (n : ℕ) → cond b n 0 + cond b 0 n ≡ n
either true n = omega arith
either false n = omega arith

pub sent_again_is_sent : SentAgainIsSent
sent_again_is_sent [] = omega arith
sent_again_is_sent (t ∷ ts) =
    let recovering = sum_by-cons (λ (u : Turn). cond (in_recovery u) (again_in u) 0) t ts in
    let otherwise = sum_by-cons (λ (u : Turn). cond (in_recovery u) 0 (again_in u)) t ts in
    let all = sum_by-cons (λ (u : Turn). length (planned_in u).sent) t ts in
    let both = either (in_recovery t) (again_in t) in
    let few = counted (λ x. nat_lt x t.old.high) (planned_in t).sent in
    let rest = sent_again_is_sent ts in
    omega (arith, recovering, otherwise, all, both, few, rest)
