-- A run that comes to its end has no other event.
use Rattle.std.proofs.Common.{◌≡◌, ◌∙◌, ℕ, zero, suc, ◌+◌, ◌-◌, ◌≤◌, List, [], ◌∷◌, ◌++◌, arith, None, Some, refl, sym, subst, ap}
use Rattle.std.specs.Option.{option_map, option_and_then}
use Rattle.sim_time.specs.declared.limits.TheConstants.{MOST_EVENTS}
use Rattle.node_core.specs.TraceLine.{TraceLine}
use Rattle.table_run.specs.State.{State, run, step, one_step_more}
use Rattle.sessions.specs.Trace.{IsTooLong}
use Rattle.sessions.proofs.Lines.{due_steps}
use Rattle.command_line.proofs.Options.{some_none, same_some}

-- no event comes after the last one
none_after : (s : State) (n : ℕ) → run s n ≡ None → (k : ℕ) → run s (k + n) ≡ None
none_after s n none zero = let same : n ≡ 0 + n = omega arith in subst (λ m. run s m ≡ None) same none
none_after s n none (suc k) =
    let same : suc (k + n) ≡ suc k + n = omega arith in
    let more : run s (suc (k + n)) ≡ None = ap (option_and_then one_step_more) (none_after s n none k) in
    subst (λ m. run s m ≡ None) same more

-- a run that has ended has no event due later
no_more : (s : State) (n m : ℕ) (lines lines' : List TraceLine) (last last' : State) → n ≤ m → run s n ≡ Some (lines, last) → step last ≡ None → run s m ≡ Some (lines', last') → step last' ≡ None
no_more s n m lines lines' last last' few is final later = go (m - n) refl
  where
    next : run s (suc n) ≡ None
    next = ap (option_and_then one_step_more) is ∙ ap (option_map (λ (next : TraceLine × State). (lines ++ next.0 ∷ [], next.1))) final

    go : (k : ℕ) → m - n ≡ k → step last' ≡ None
    go zero e =
        let same : n ≡ m = omega (arith, few, e) in
        let both : Some (lines, last) ≡ Some (lines', last') = sym is ∙ subst (λ x. run s x ≡ Some (lines', last')) (sym same) later in
        subst (λ x. step x ≡ None) (ap (λ (p : List TraceLine × State). p.1) (same_some (lines, last) (lines', last') both)) final
    go (suc k) e =
        let same : k + suc n ≡ m = omega (arith, few, e) in
        absurd (some_none (lines', last') (sym later ∙ subst (λ x. run s x ≡ None) same (none_after s (suc n) next k)))

-- a run comes to its end within 10^15 events, or it does not
pub ends_in_time : (s : State) (n : ℕ) (lines : List TraceLine) (last : State) → n ≤ MOST_EVENTS → run s n ≡ Some (lines, last) → step last ≡ None → IsTooLong s → ⊥
ends_in_time s n lines last few is_run final long = due_steps long.last long.one_due (no_more s n MOST_EVENTS lines long.lines last long.last few is_run final long.is_run)
