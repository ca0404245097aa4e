-- What a debugger's answer says of the net that a move came to.
use Rattle.std.proofs.Common.{◌≡◌, ℕ, refl, sym, subst, ap, IfOk, IfErr, MatchResult, Result, Ok, Err}
use Rattle.net_machine.specs.Run.{Reached}
use Rattle.debugger.specs.declared.fault.MoveFault.{MoveFault}

-- the answer to what a move came to: its position, or its fault
abbrev pub Answers : Result Reached MoveFault → Result ℕ MoveFault → Type 0
Answers found result = MatchResult found (λ net. result ≡ Ok net.position) (λ fault. result ≡ Err fault)

pub ok_answers : (found : Result Reached MoveFault) (net : Reached) (p : ℕ) → found ≡ Ok net → p ≡ net.position → Answers found (Ok p)
ok_answers found net p is same = subst (λ (f : Result Reached MoveFault). Answers f (Ok p)) (sym is) (ap (λ n. Ok n) same)

pub err_answers : (found : Result Reached MoveFault) (fault : MoveFault) → found ≡ Err fault → Answers found (Err fault)
err_answers found fault is = subst (λ (f : Result Reached MoveFault). Answers f (Err fault)) (sym is) refl

-- what holds of the position holds of the answer, and what holds of the fault
pub ok_shown : (P : ℕ → Type 0) (found : Result Reached MoveFault) (result : Result ℕ MoveFault) → Answers found result → IfOk found (λ net. P net.position) → IfOk result P
ok_shown P (Ok net) result is h = subst (λ (r : Result ℕ MoveFault). IfOk r P) (sym is) h
ok_shown P (Err fault) result is h = subst (λ (r : Result ℕ MoveFault). IfOk r P) (sym is) h

pub err_shown : (P : MoveFault → Type 0) (found : Result Reached MoveFault) (result : Result ℕ MoveFault) → Answers found result → IfErr found P → IfErr result P
err_shown P (Ok net) result is h = subst (λ (r : Result ℕ MoveFault). IfErr r P) (sym is) h
err_shown P (Err fault) result is h = subst (λ (r : Result ℕ MoveFault). IfErr r P) (sym is) h
