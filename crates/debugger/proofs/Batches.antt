-- The lines of a window as steps of the run.
use Rattle.std.proofs.Common.{◌≡◌, ℕ, zero, suc, ◌+◌, ◌-◌, ◌<◌, ◌≤◌, List, [], ◌∷◌, ◌++◌, length, sym, ap, subst, ◌∙◌, Option, None, Some, false, arith}
use Rattle.std.specs.Option.{option_map}
use Rattle.std.proofs.Math.Seq.{get_or-append_seam}
use Rattle.std.proofs.lemmas.List.{length-set}
use Rattle.sim_time.specs.declared.limits.TheConstants.{MOST_EVENTS}
use Rattle.tournament.proofs.Maps.{same_some}
use Rattle.node_core.specs.TraceLine.{TraceLine, blank}
use Rattle.table_run.specs.State.{State, due, step_at, step, run, effect_of}
use Rattle.table_run.proofs.Runs.{of_step, of_run, run_add, run_parts, run_length}
use Rattle.net_machine.specs.Run.{Reached, Stepped}
use Rattle.window_core.specs.Batches.{BatchValue}
use Rattle.window_core.specs.Full.{HasTooMany}
use Rattle.window_core.specs.Merged.{line_in}
use Rattle.window_engine.specs.Engines.{GoesOn}
use Rattle.breakpoints.specs.declared.breaks.Break.{Break}
use Rattle.breakpoints.specs.Breaks.{IsLineHit}
use Rattle.debugger.specs.Moves.{Passes, HasPosition, RunsTo, UntilGoesTo, IsTooLong}
use Rattle.debugger.specs.Aims.{LineHit}
use Rattle.debugger.specs.declared.course.WindowedNet.{WindowedNet}
use Rattle.debugger.specs.Courses.{IsOnWindows, WentOn, IsFirstIndex, HasNone}
use Rattle.debugger.proofs.Walks.{passes_next, NoneBy, none_by_next, run_stopped, SomeBefore, some_before_next, until_stopped}

-- no step where nothing is due
pub no_more : (s : State) → due s ≡ None → step s ≡ None
no_more s e = ap (option_map {U = TraceLine × State} (step_at s)) e

-- a step leaves as many nodes
step_nodes : (s t : State) (line : TraceLine) → step s ≡ Some (line, t) → length t.parts ≡ length s.parts
step_nodes s t line e = of_step s line t e (λ k v _ new_is _. ap (λ (u : State). length u.parts) new_is ∙ length-set s.parts k.node (effect_of s (k, v)).part)

run_nodes : (n : ℕ) (s t : State) (lines : List TraceLine) → run s n ≡ Some (lines, t) → length t.parts ≡ length s.parts
run_nodes zero s t lines e = ap (λ (p : List TraceLine × State). length p.1.parts) (sym (same_some ([], s) (lines, t) e))
run_nodes (suc n) s t lines e = of_run s t n lines e (λ line u rest first others is. run_nodes n u t rest others ∙ step_nodes s u line first)

-- each state of a run has as many nodes
pub same_nodes : (start : State) (at : Reached) → Passes start at → length at.state.parts ≡ length start.parts
same_nodes start at here = run_nodes at.position start at.state here.lines here.comes

-- the run goes on
pub passes_on : (start : State) (old : Reached) (batch : BatchValue) (new : Reached) → Passes start old → GoesOn old batch new → Passes start new
passes_on start old batch new at gone = record {
  lines = at.lines ++ batch.lines;
  comes = ap (run start) gone.position ∙ run_add start old.state new.state old.position (length batch.lines) at.lines batch.lines at.comes gone.is_run;
}

-- a window of it, or none
pub window_of : (old new : Reached) (o : Option BatchValue) (batch : BatchValue) → o ≡ Some batch → WentOn old o new → GoesOn old batch new
window_of old new o batch is gone = subst (λ (x : Option BatchValue). WentOn old x new) is gone

pub no_window : (old new : Reached) (o : Option BatchValue) → o ≡ None → WentOn old o new → (due old.state ≡ None) × (new ≡ old)
no_window old new o is gone = subst (λ (x : Option BatchValue). WentOn old x new) is gone

-- on its way after a window
pub way_on : (start : State) (old new : WindowedNet) (batch : BatchValue) (most : ℕ) → IsOnWindows start old.engine.net.position old → GoesOn old.engine.net batch new.engine.net → new.engine.failed ≡ false → new.behind ≡ old.behind → old.engine.net.position ≤ most
    → IsOnWindows start most new
way_on start old new batch most way gone running behind from =
    let at = ap (λ (r : Reached). r.position) behind in
    record {
      running = running;
      ahead = passes_on start old.engine.net batch new.engine.net way.ahead gone;
      behind = subst (Passes start) (sym behind) way.behind;
      upto = omega (arith, at, way.upto, from);
    }

-- a run that has too many events from one of its states on is too long
pub too_long_from : (start : State) (at : Reached) → Passes start at → at.position ≤ MOST_EVENTS → HasTooMany at → IsTooLong start
too_long_from start at here few full = record {
  last = full.last;
  passes = record {
    lines = here.lines ++ full.lines;
    comes = ap (run start) {x = MOST_EVENTS} {y = at.position + (MOST_EVENTS - at.position)} (omega (arith, few)) ∙ run_add start at.state full.last at.position (MOST_EVENTS - at.position) here.lines full.lines here.comes full.is_run;
  };
  one_due = full.one_due;
}

-- the step that gives a line of a window
pub record GivesLine (start : State) (old : Reached) (lines : List TraceLine) (i : ℕ) : Type 0 where
  pub between : State
  pub after : State
  pub passes : Passes start (record { state = between; position = old.position + i })
  pub gives : step between ≡ Some (line_in lines i, after)

pub gives_line : (start : State) (old : Reached) (batch : BatchValue) (new : Reached) (i : ℕ) → Passes start old → GoesOn old batch new → i < length batch.lines → GivesLine start old batch.lines i
gives_line start old batch new i at gone within =
    let more = length batch.lines - (i + 1) in
    let parted = run_parts old.state new.state i (suc more) batch.lines (ap (run old.state) {x = i + suc more} {y = length batch.lines} (omega (arith, within)) ∙ gone.is_run) in
    let many : length parted.first ≡ i = run_length i old.state parted.between parted.first parted.begins in
    of_run parted.between new.state more parted.rest parted.goes_on (λ line t rest first others is.
    let there : line_in batch.lines i ≡ line =
    ap (λ ls. line_in ls i) (parted.together ∙ ap (λ ls. parted.first ++ ls) is)
    ∙ ap (line_in (parted.first ++ line ∷ rest)) (sym many)
    ∙ get_or-append_seam parted.first line rest blank in
    record {
      between = parted.between;
      after = t;
      passes = record { lines = at.lines ++ parted.first; comes = run_add start old.state parted.between old.position i at.lines parted.first at.comes parted.begins };
      gives = first ∙ ap (λ l. Some (l, t)) (sym there);
    })

module _ (start : State) (m : ℕ) (old : Reached) (batch : BatchValue) (new : Reached) (here : Passes start old) (from : m ≤ old.position) (gone : GoesOn old batch new) where
  -- the states before and after a line
  abbrev at_line : (i : ℕ) → GivesLine start old batch.lines i → Reached
  at_line i g = record { state = g.between; position = old.position + i }

  abbrev past_line : (i : ℕ) → GivesLine start old batch.lines i → Reached
  past_line i g = record { state = g.after; position = old.position + suc i }

  stepped : (i : ℕ) (g : GivesLine start old batch.lines i) → Stepped (at_line i g) (Some (line_in batch.lines i)) (past_line i g)
  stepped i g = (g.gives, omega arith)

  -- lines that meet the conditions of no breakpoint
  hits_none : (breaks : List Break) (k : ℕ) → k ≤ length batch.lines → ((j : ℕ) → j < k → IsLineHit breaks (line_in batch.lines j) → ⊥) → NoneBy (LineHit breaks) start m old.position → NoneBy (LineHit breaks) start m (old.position + k)
  hits_none breaks zero upto missed none = subst (NoneBy (LineHit breaks) start m) {x = old.position} {y = old.position + zero} (omega arith) none
  hits_none breaks (suc k) upto missed none =
      let g = gives_line start old batch new k here gone upto in
      none_by_next (LineHit breaks) start m (at_line k g) (past_line k g) (line_in batch.lines k) (hits_none breaks k (omega (arith, upto)) (λ j under. missed j (omega (arith, under))) none) g.passes (stepped k g) (missed k (omega arith))

  pub none_hit_on : (breaks : List Break) → NoneBy (LineHit breaks) start m old.position → HasNone (IsLineHit breaks) batch → NoneBy (LineHit breaks) start m new.position
  none_hit_on breaks none has = subst (NoneBy (LineHit breaks) start m) (sym gone.position) (hits_none breaks (length batch.lines) (omega arith) has none)

  -- `run` ends after the first line that a breakpoint matches
  pub run_ends_in : (breaks : List Break) (index p : ℕ) → NoneBy (LineHit breaks) start m old.position → IsFirstIndex (IsLineHit breaks) batch index → p ≡ batch.first + index → RunsTo (LineHit breaks) start m p × HasPosition start p
  run_ends_in breaks index p none is e =
      let g = gives_line start old batch new index here gone is.within in
      let place : old.position + suc index ≡ p = omega (arith, e, gone.first) in
      let before = hits_none breaks index (omega (arith, is.within)) is.before none in
      let goes = run_stopped (LineHit breaks) start m (at_line index g) (past_line index g) (line_in batch.lines index) before (omega (arith, from)) g.passes (stepped index g) is.holds in
      let passed = passes_next start (at_line index g) (past_line index g) (line_in batch.lines index) g.passes (stepped index g) in
      (subst (RunsTo (LineHit breaks) start m) place goes, subst (HasPosition start) place (g.after, passed))

  -- lines before a time
  before_all : (time k : ℕ) → k ≤ length batch.lines → ((j : ℕ) → j < k → time ≤ (line_in batch.lines j).key.time → ⊥) → SomeBefore start time m old.position → SomeBefore start time m (old.position + k)
  before_all time zero upto early some = subst (SomeBefore start time m) {x = old.position} {y = old.position + zero} (omega arith) some
  before_all time (suc k) upto early some =
      let g = gives_line start old batch new k here gone upto in
      let soon = early k (omega arith) in
      some_before_next start time m (at_line k g) (past_line k g) (line_in batch.lines k) (before_all time k (omega (arith, upto)) (λ j under. early j (omega (arith, under))) some) g.passes (stepped k g) (omega (arith, soon))

  pub some_before_on : (time : ℕ) → SomeBefore start time m old.position → HasNone (λ (line : TraceLine). time ≤ line.key.time) batch → SomeBefore start time m new.position
  some_before_on time some has = subst (SomeBefore start time m) (sym gone.position) (before_all time (length batch.lines) (omega arith) has some)

  -- `until` ends before the first line that isn't before the time
  pub until_ends_in : (time index p : ℕ) → SomeBefore start time m old.position → IsFirstIndex (λ (line : TraceLine). time ≤ line.key.time) batch index → p ≡ old.position + index → UntilGoesTo start time m p × HasPosition start p
  until_ends_in time index p some is e =
      let g = gives_line start old batch new index here gone is.within in
      let before = before_all time index (omega (arith, is.within)) is.before some in
      let goes = until_stopped start time m (at_line index g) (past_line index g) (line_in batch.lines index) before (omega (arith, from)) g.passes (stepped index g) is.holds in
      (subst (UntilGoesTo start time m) (sym e) goes, subst (HasPosition start) (sym e) (g.between, g.passes))
