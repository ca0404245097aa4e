-- The stalls of a run, as they are found one line after another.
use Rattle.std.proofs.Common.{◌≡◌, ◌+◌, ◌∙◌, ℕ, zero, suc, List, [], ◌∷◌, ◌++◌, Bool, true, false, true≢false, refl, sym, ap, arith, append_assoc, append-nil, Some, Ok, ◌⊎◌, ⊎_elim}
use Rattle.std.specs.Prelude.{if◌then◌else◌}
use Rattle.node_core.specs.TraceLine.{TraceLine}
use Rattle.table_run.specs.State.{State}
use Rattle.net_machine.specs.Run.{Reached, Stepped}
use Rattle.net_watch.specs.declared.run_end.RunEnd.{RunEnd}
use Rattle.net_watch.specs.declared.run_end.RunEnd.TheVariants.{Stopped, Held, Done}
use Rattle.net_watch.specs.Watched.{IsRunEnd, goes_on}
use Rattle.flow_waits.specs.Stalled.{becomes_stalled}
use Rattle.debugger.specs.declared.stalls.StallAt.{StallAt}
use Rattle.debugger.specs.Moves.{Passes, EndsAt}
use Rattle.debugger.specs.Stalls.{stall_by, stalls_below, stalls_by, stalls_of_step, stalls_after, stalls_upto}

module _ (p : ℕ) (before : State) (line : TraceLine) (after : State) where
  -- those of one flow more
  pub stalls_more : (flow : ℕ) → stalls_below (flow + 1) p before line after ≡ stalls_below flow p before line after ++ stall_by p before line after flow
  unfolding stalls_below
  stalls_more flow = let e : flow + 1 ≡ suc flow = omega arith in ap (λ n. stalls_below n p before line after) e

  pub stalls_none : stalls_below 0 p before line after ≡ []
  unfolding stalls_below
  stalls_none = refl

  none_by : (flow : ℕ) → (becomes_stalled flow before after ≡ true → ⊥) → stall_by p before line after flow ≡ []
  none_by flow none =
      elim (becomes_stalled flow before after) as (λ b. becomes_stalled flow before after ≡ b → stall_by p before line after flow ≡ []) [
        | true ↦ λ e. absurd (none e)
        | false ↦ λ e. ap (λ (b : Bool). if b then record { position = p; flow = flow; time = line.key.time } ∷ [] else []) e
      ] refl

  -- there are none where no flow becomes stalled
  pub none_below : (flow : ℕ) → ((own : ℕ) → becomes_stalled own before after ≡ true → ⊥) → stalls_below flow p before line after ≡ []
  unfolding stalls_below
  none_below zero none = refl
  none_below (suc flow) none = ap (λ l. l ++ stall_by p before line after flow) (none_below flow none) ∙ none_by flow (none flow)

-- those of one line more
stalls_next : (start : State) (old new : Reached) (line : TraceLine) → Passes start old → Stepped old (Some line) new
    → stalls_upto start new.position ≡ stalls_upto start old.position ++ stalls_by new.position old.state line new.state
stalls_next start old new line at next =
    let so_far = stalls_upto start old.position in
    let one_on : new.position ≡ suc old.position = omega (arith, next.1) in
    ap (stalls_upto start) one_on
    ∙ ap (λ o. so_far ++ stalls_after (old.position + 1) o) at.comes
    ∙ ap (λ o. so_far ++ stalls_of_step (old.position + 1) old.state o) next.0
    ∙ ap (λ k. so_far ++ stalls_by k old.state line new.state) (sym next.1)

pub stalls_found : (start : State) (old new : Reached) (line : TraceLine) (before out made : List StallAt) → Passes start old → Stepped old (Some line) new
    → out ≡ before ++ stalls_upto start old.position → made ≡ out ++ stalls_by new.position old.state line new.state → made ≡ before ++ stalls_upto start new.position
stalls_found start old new line before out made at next are is =
    let found = stalls_by new.position old.state line new.state in
    is ∙ ap (λ l. l ++ found) are ∙ append_assoc before (stalls_upto start old.position) found ∙ ap (λ l. before ++ l) (sym (stalls_next start old new line at next))

-- at the run's beginning there is none
pub none_at_first : (start : State) (p : ℕ) (out : List StallAt) → p ≡ 0 → out ≡ out ++ stalls_upto start p
none_at_first start p out begins = sym (append-nil out) ∙ ap (λ k. out ++ stalls_upto start k) (sym begins)

-- a run that nothing held and whose last line ended nothing is at its end
pub ends_there : (start : State) (old new : Reached) (end : RunEnd) → Passes start new → goes_on (Ok end) ≡ true → IsRunEnd (⊥ ⊎ ⊥) old new (Ok end) → EndsAt start new.position
ends_there start old new Stopped here on end = absurd (true≢false (sym on))
ends_there start old new Held here on end = ⊎_elim (λ (x : ⊥). absurd x) (λ (x : ⊥). absurd x) end
ends_there start old new Done here on end = record { last = new.state; passes = here; none_due = end }
