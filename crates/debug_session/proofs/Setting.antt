-- What a session answers where a breakpoint is asked for.
use Rattle.std.proofs.Common.{◌≡◌, ◌<◌, ◌≤◌, ◌⊎◌, ◌++◌, ◌∷◌, [], ℕ, List, Bool, true, false, MatchBool, length, inl, inr, ⊎_elim, sym, ap, ◌∙◌, arith, length-append, Result, Ok, Err}
use Rattle.std.proofs.lemmas.Bool.{cases_lt, false≢true}
use Rattle.std.specs.List.{Contains}
use Rattle.std.specs.Result.{is_ok}
use Rattle.breakpoints.specs.declared.breaks.Break.{Break}
use Rattle.breakpoints.specs.declared.breaks.BreakFault.{BreakFault}
use Rattle.breakpoints.specs.declared.breaks.BreakFault.TheVariants.{TooMany, NoMemory}
use Rattle.debugger.specs.Debugging.{Debugging}
use Rattle.prompt_words.specs.declared.command.Command.TheVariants.{SetBreak}
use Rattle.debug_session.specs.Answers.{session_state, Obeys, break_line}

pub decided : (P : Type 0) (b : Bool) → MatchBool b P (¬ P) → P ⊎ (¬ P)
decided P true h = inl h
decided P false h = inr h

-- a debugger whose breakpoints alone changed
pub stands : (old new : Debugging) → new ≡ record old { breaks = new.breaks } → (breaks : List Break) → new.breaks ≡ breaks → session_state new ≡ record { shown = old.shown; breaks = breaks }
stands old new same breaks is = let shown : new.shown ≡ old.shown = ap (λ (d : Debugging). d.shown) same in λ i. record { shown = shown i; breaks = is i }

pub is_full : (breaks : List Break) → length breaks ≤ 64 → (length breaks < 64 → ⊥) → length breaks ≡ 64
is_full breaks few room = ⊎_elim (λ (under : length breaks < 64). absurd (room under)) (λ (past : 64 ≤ length breaks). omega (arith, past, few)) (cases_lt (length breaks) 64)

pub has_room : (breaks : List Break) → length breaks ≤ 64 → (length breaks ≡ 64 → ⊥) → length breaks < 64
has_room breaks few full = ⊎_elim (λ (under : length breaks < 64). under) (λ (past : 64 ≤ length breaks). absurd (full (omega (arith, past, few)))) (cases_lt (length breaks) 64)

pub set_done : (b : Break) (old new : Debugging) (n : ℕ) (out : List ℕ) → Contains old.breaks b ⊎ (¬ Contains old.breaks b) → length old.breaks ≤ 64
    → new ≡ record old { breaks = new.breaks } → n ≡ length new.breaks → (Contains old.breaks b → new ≡ old) → (¬ Contains old.breaks b → new.breaks ≡ old.breaks ++ b ∷ [])
    → (¬ Contains old.breaks b → length old.breaks ≡ 64 → ⊥) → out ≡ break_line n → Obeys old.start (SetBreak b) (session_state old) (session_state new) (Ok out)
set_done b old new n out known few same count again fresh full reported =
    ⊎_elim
    (λ (has : Contains old.breaks b).
    let kept : new ≡ old = again has in
    inl (has, record { same = ap session_state kept; reported = reported ∙ ap break_line (count ∙ ap (λ (d : Debugging). length d.breaks) kept) }))
    (λ (hasn't : ¬ Contains old.breaks b).
    let joined : new.breaks ≡ old.breaks ++ b ∷ [] = fresh hasn't in
    inr (record {
      fresh = hasn't;
      few = has_room old.breaks few (full hasn't);
      joined = stands old new same (old.breaks ++ b ∷ []) joined;
      reported = reported ∙ ap break_line (count ∙ ap length joined ∙ length-append old.breaks (b ∷ []));
    }))
    known

-- the answers differ
pub ok_no_err : (n : ℕ) (fault : BreakFault) → Ok n ≡ Err fault → ⊥
ok_no_err n fault e = false≢true (sym (ap is_ok e))

pub err_no_ok : (n : ℕ) (fault : BreakFault) → Err fault ≡ Ok n → ⊥
err_no_ok n fault e = false≢true (ap is_ok e)

pub many_no_memory : TooMany ≡ NoMemory → ⊥
many_no_memory e = cc

abbrev pub fault_of : Result ℕ BreakFault → BreakFault
fault_of (Ok n) = NoMemory
fault_of (Err fault) = fault
