use Rattle.std.proofs.Common.{List, ◌≡◌, ◌≤◌, ◌<◌, ℕ, length, get_or, replicate, subst, sym, arith, ⊎_elim}
use Rattle.std.proofs.lemmas.Bool.{cases_lt}
use Rattle.std.proofs.lemmas.List.{get_or-replicate, length-replicate}
use Rattle.std.proofs.Math.ListN.{get_or-eq_default}
use Rattle.debugger.proofs.under_way.none_counted.Goals as goal

zeros : (n c : ℕ) → ◌≡◌ {A = ℕ} (get_or (replicate n 0) c 0) 0
zeros n c =
    ⊎_elim (λ (under : c < n). get_or-replicate {A = ℕ} n c 0 0 under)
    (λ (past : n ≤ c). let size : length (replicate n 0) ≤ c = omega (arith, past, length-replicate {A = ℕ} n 0) in get_or-eq_default {A = ℕ} (replicate n 0) 0 size)
    (cases_lt c n)

pub returns-in-Ok : goal.returns-in-Ok
returns-in-Ok c = λ flow. subst (λ (all : List ℕ). get_or all flow 0 ≡ 0) (sym (c.in-Ok.ensures.items_if_clones_equal (λ y e. e))) (zeros 128 flow)
