-- What a watched run says of a move.
use Rattle.std.proofs.Common.{◌≡◌, ◌+◌, ◌≤◌, ℕ, Bool, true, false, not, min, List, ◌++◌, length, Option, Some, refl, sym, ap, subst, ◌∙◌, arith, true≢false, Result, Ok, Err, IfOk, IfErr, ◌⊎◌, inl, inr, ⊎_elim}
use Rattle.std.specs.Option.{option_map}
use Rattle.sim_time.specs.declared.limits.TheConstants.{MOST_EVENTS}
use Rattle.node_core.specs.TraceLine.{TraceLine}
use Rattle.table_run.specs.State.{State, run, step_at}
use Rattle.table_run.proofs.Runs.{run_add}
use Rattle.net_machine.specs.declared.net.StepFault.{StepFault}
use Rattle.net_machine.specs.declared.net.StepFault.TheVariants.{CountFull}
use Rattle.net_machine.specs.Run.{Reached, Stepped}
use Rattle.net_watch.specs.declared.run_end.RunEnd.{RunEnd}
use Rattle.net_watch.specs.declared.run_end.RunEnd.TheVariants.{Stopped, Held, Done}
use Rattle.net_watch.specs.RunsOn.{RunsOn}
use Rattle.net_watch.specs.Watched.{IsStepFault, IsRunEnd, goes_on}
use Rattle.breakpoints.specs.declared.breaks.Break.{Break}
use Rattle.debugger.specs.Backwards.{FindsLast}
use Rattle.breakpoints.specs.Breaks.{IsHit}
use Rattle.debugger.specs.Moves.{Passes, HasPosition, StepGoesTo, RunGoesTo, IsTooLong}
use Rattle.debugger.specs.Stops.{HasSought}
use Rattle.debugger.proofs.Backward.{found_here, found_before}
use Rattle.debugger.proofs.Walks.{step_done, step_ended, end_here, end_last, run_stopped, run_ended, too_long}

-- a run that is held at a position has made so many steps, or is at its end
pub step_goes : (start : State) (old new : Reached) (k upto : ℕ) (end : RunEnd) → Passes start new → goes_on (Ok end) ≡ true → IsRunEnd (⊥ ⊎ (new.position ≡ upto)) old new (Ok end)
    → upto ≡ min (old.position + k) 18446744073709551615 → new.position ≤ upto → new.position ≤ MOST_EVENTS → StepGoesTo start old.position k new.position
step_goes start old new k upto Stopped here on end until within few = absurd (true≢false (sym on))
step_goes start old new k upto Held here on (inl none) until within few = absurd none
step_goes start old new k upto Held here on (inr at) until within few = step_done start new old.position k here (omega (arith, at, until, few))
step_goes start old new k upto Done here on end until within few = step_ended start new old.position k here (ap (option_map (step_at new.state)) end) (omega (arith, within, until))

-- a run up to a position that there is comes there, where nothing else holds it
pub comes_up_to : (start : State) (halts : Type 0) (old new : Reached) (target upto : ℕ) (end : Result RunEnd StepFault) → Passes start new → HasPosition start target → upto ≡ target → new.position ≤ upto → IsRunEnd (⊥ ⊎ (halts ⊎ (new.position ≡ upto))) old new end
    → IfOk end (λ why. goes_on (Ok why) ≡ true → halts ⊎ (new.position ≡ target))
comes_up_to start halts old new target upto (Ok Stopped) here there same within end = λ on. absurd (true≢false (sym on))
comes_up_to start halts old new target upto (Ok Held) here there same within end = λ _.
    ⊎_elim (λ (x : ⊥). absurd x) (⊎_elim (λ (held : halts). inl held) (λ (at : new.position ≡ upto). inr (at ∙ same))) end
comes_up_to start halts old new target upto (Ok Done) here there same within end = λ _.
    let last = end_last start new.position (record { state = there.0; position = target }) (end_here start new here (ap (option_map (step_at new.state)) end)) there.1 in
    inr (omega (arith, last, within, same))
comes_up_to start halts old new target upto (Err fault) here there same within end = tt

-- a run that the count ends is too long
pub too_long_there : (start : State) (new : Reached) (fault : StepFault) → Passes start new → IsStepFault new fault → fault ≡ CountFull → IsTooLong start
too_long_there start new fault here stops full =
    let full_there = subst (IsStepFault new) full stops in
    too_long start new here full_there.0 full_there.1

pub too_long_where : (start : State) (halts : Type 0) (old new : Reached) (end : Result RunEnd StepFault) → Passes start new → IsRunEnd halts old new end → IfErr end (λ fault. fault ≡ CountFull → IsTooLong start)
too_long_where start halts old new (Ok why) here end = tt
too_long_where start halts old new (Err fault) here end = too_long_there start new fault here end

-- a run passes what a stretch of it comes to
pub passes_on : (start : State) (old new : Reached) → Passes start old → RunsOn old new → Passes start new
passes_on start old new at runs = record {
  lines = at.lines ++ runs.lines;
  comes = subst (λ n. run start n ≡ Some (at.lines ++ runs.lines, new.state)) {x = old.position + length runs.lines} {y = new.position} (omega (arith, runs.position))
      (run_add start old.state new.state old.position (length runs.lines) at.lines runs.lines at.comes runs.comes);
}

-- a line more, which a breakpoint matches or not; `own` and `p` as the code has them
pub sought_next : (start : State) (breaks : List Break) (m : ℕ) (old new : Reached) (line : TraceLine) (first own : Bool) (found : Option ℕ) (p : ℕ) (was is : Bool) → own ≡ first → p ≡ new.position → m ≤ old.position → Passes start old
    → Stepped old (Some line) new → HasSought start breaks m old.position first found was is true → IsHit breaks old.state line new.state → HasSought start breaks m new.position first (Some p) was is (not own)
sought_next start breaks m old new line first own found p was is same here from at next so hit =
    subst (λ b. HasSought start breaks m new.position first (Some p) was is (not b)) (sym same)
    (subst (λ q. HasSought start breaks m new.position first (Some q) was is (not first)) (sym here) (by first so))
  where
    by : (b : Bool) → HasSought start breaks m old.position b found was is true → HasSought start breaks m new.position b (Some new.position) was is (not b)
    by true sought = λ _. (refl, run_stopped (IsHit breaks) start m old new line (subst (FindsLast start breaks m old.position) (sought.2 refl) sought.1) from at next hit)
    by false sought = (sought.0, found_here start breaks m old new line at next from hit, λ e. absurd (true≢false (sym e)))

pub missed_next : (start : State) (breaks : List Break) (m : ℕ) (old new : Reached) (line : TraceLine) (first : Bool) (found : Option ℕ) (was is : Bool) → Passes start old → Stepped old (Some line) new
    → HasSought start breaks m old.position first found was is true → (IsHit breaks old.state line new.state → ⊥) → HasSought start breaks m new.position first found was is true
missed_next start breaks m old new line first found was is at next so missed = (so.0, found_before start breaks m old new line at next found so.1 missed, so.2)

-- a run to the first is there, or at its end
pub stop_found : (start : State) (breaks : List Break) (old new : Reached) (first : Bool) (found : Option ℕ) (was is : Bool) (end : RunEnd) → Passes start new → IsRunEnd (⊥ ⊎ ⊥) old new (Ok end)
    → HasSought start breaks old.position new.position first found was is (goes_on (Ok end)) → first ≡ true → is ≡ false → RunGoesTo start breaks old.position new.position
stop_found start breaks old new first found was is Stopped here end sought one none = (sought none).1
stop_found start breaks old new first found was is Held here end sought one none = ⊎_elim (λ (x : ⊥). absurd x) (λ (x : ⊥). absurd x) end
stop_found start breaks old new first found was is Done here end sought one none =
    run_ended (IsHit breaks) start old.position new (subst (FindsLast start breaks old.position new.position) (sought.2 one) sought.1) here (ap (option_map (step_at new.state)) end)

-- a run for the last comes to where it is to end
pub last_found : (start : State) (breaks : List Break) (m p upto : ℕ) (first : Bool) (found : Option ℕ) (was is on : Bool) → HasSought start breaks m p first found was is on → first ≡ false → is ≡ false → (on ≡ true → ⊥ ⊎ (p ≡ upto))
    → FindsLast start breaks m upto found
last_found start breaks m p upto first found was is true sought all none comes =
    ⊎_elim (λ (x : ⊥). absurd x) (λ (here : p ≡ upto). subst (λ q. FindsLast start breaks m q found) here sought.1) (comes refl)
last_found start breaks m p upto first found was is false sought all none comes = absurd (true≢false (sym (sought none).0 ∙ all))
