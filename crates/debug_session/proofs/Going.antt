-- Where `goto` goes: back to a position, or on to it.
use Rattle.std.proofs.Common.{◌≡◌, ◌<◌, ◌≤◌, ◌-◌, ◌∙◌, ℕ, Result, Ok, Err, sym, ap, subst}
use Rattle.std.specs.Result.{IfOk}
use Rattle.table_run.specs.State.{State}
use Rattle.debugger.specs.declared.fault.MoveFault.{MoveFault}
use Rattle.debugger.specs.Debugging.{Debugging, HasMoved}
use Rattle.debugger.specs.Moves.{Passes, StepGoesTo}
use Rattle.debug_session.proofs.Moved.{start_of}
use Rattle.debug_session.proofs.TypedMoving.{went_back, went_on}

pub back_there : (old new : Debugging) (m target : ℕ) (moved : Result ℕ MoveFault) → m ≡ old.shown.position → target < m → IfOk moved (HasMoved old new) → IfOk moved (λ p. p ≡ old.shown.position - (m - target))
    → IfOk moved (StepGoesTo old.start 0 target)
back_there old new m target (Ok p) is under has goes =
    let here : Passes old.start new.shown = subst (λ (s : State). Passes s new.shown) (start_of old new p has) has.on_run in
    subst (StepGoesTo old.start 0 target) has.at (went_back old.start new.shown m target here under (has.at ∙ goes ∙ ap (λ n. n - (m - target)) (sym is)))
back_there old new m target (Err fault) is under has goes = tt

pub on_there : (old : Debugging) (m target : ℕ) (moved : Result ℕ MoveFault) → m ≡ old.shown.position → m ≤ target → IfOk moved (StepGoesTo old.start old.shown.position (target - m)) → IfOk moved (StepGoesTo old.start 0 target)
on_there old m target (Ok p) is from goes = went_on old.start m target p from (subst (λ n. StepGoesTo old.start n (target - m) p) (sym is) goes)
on_there old m target (Err fault) is from goes = tt
