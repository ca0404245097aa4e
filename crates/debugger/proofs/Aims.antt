-- A move by windows, whatever it looks for.
use Rattle.std.proofs.Common.{◌≡◌, ℕ, ◌<◌, ◌≤◌, ⊎_elim, inl, inr, refl, sym, true≢false, Bool, true, false, ◌||◌, List, Option, None, Some, is_some, arith}
use Rattle.std.specs.Prelude.{IsTrue, IfSome}
use Rattle.table_run.specs.State.{State, step}
use Rattle.net_machine.specs.Run.{Reached}
use Rattle.window_core.specs.Batches.{BatchValue}
use Rattle.window_engine.specs.Engines.{GoesOn}
use Rattle.debugger.specs.declared.aim.Aim.{Aim}
use Rattle.debugger.specs.declared.aim.Aim.TheVariants.{Hit, Moment}
use Rattle.debugger.specs.Moves.{Passes, HasPosition, EndsAt, StopsBy, StopsAt, RunsTo, RunGoesTo}
use Rattle.node_core.specs.TraceLine.{TraceLine}
use Rattle.node_core.specs.declared.line.After.{After}
use Rattle.breakpoints.specs.declared.breaks.Break.{Break}
use Rattle.breakpoints.specs.declared.breaks.StallOf.{StallOf}
use Rattle.breakpoints.specs.declared.values.Value.TheVariants.{Queue, Wait, Count, Rto, Dups}
use Rattle.breakpoints.specs.declared.values.Values.{Values}
use Rattle.breakpoints.specs.Breaks.{Stalls, IsHit, asks_unshown, AsksUnshown}
use Rattle.breakpoints.specs.Values.{MeetsKept, asked_of, asks_kept}
use Rattle.breakpoints.specs.Seen.{MeetsStates, asks_states}
use Rattle.debugger.specs.Courses.{HasNone}
use Rattle.debugger.specs.Aims.{IsMet, LineHit, EndsIn, GoesTo}
use Rattle.debugger.proofs.Walks.{NoneBy, none_by_yet, run_ended, SomeBefore, some_before_yet, until_ended}
use Rattle.debugger.proofs.Batches.{none_hit_on, run_ends_in, some_before_on, until_ends_in}

-- a move from m has not come to its end at a position
abbrev pub NotYet : State → Aim → ℕ → ℕ → Type 0
NotYet start (Hit breaks) m = NoneBy (LineHit breaks.now) start m
NotYet start (Moment time) m = SomeBefore start time m

pub not_yet_at : (start : State) (aim : Aim) (m : ℕ) → NotYet start aim m m
not_yet_at start (Hit breaks) m = none_by_yet (LineHit breaks.now) start m
not_yet_at start (Moment time) m = some_before_yet start time m

-- it ends with the run
pub ended : (start : State) (aim : Aim) (m : ℕ) (at : Reached) → NotYet start aim m at.position → m ≤ at.position → Passes start at → step at.state ≡ None → GoesTo start aim m at.position
ended start (Hit breaks) m at yet from here no_more = run_ended (LineHit breaks.now) start m at yet here no_more
ended start (Moment time) m at yet from here no_more = until_ended start time m at yet from here no_more

module _ (start : State) (m : ℕ) (old : Reached) (batch : BatchValue) (new : Reached) (here : Passes start old) (from : m ≤ old.position) (gone : GoesOn old batch new) where
  -- it goes on past a window
  pub not_yet_on : (aim : Aim) → NotYet start aim m old.position → HasNone (IsMet aim) batch → NotYet start aim m new.position
  not_yet_on (Hit breaks) yet none = none_hit_on start m old batch new here from gone breaks.now yet none
  not_yet_on (Moment time) yet none = some_before_on start m old batch new here from gone time yet none

  -- or ends in it
  pub ends_in : (aim : Aim) (p : ℕ) → NotYet start aim m old.position → EndsIn aim batch (Some p) → GoesTo start aim m p × HasPosition start p
  ends_in (Hit breaks) p yet (index, is, at) = run_ends_in start m old batch new here from gone breaks.now index p yet is at
  ends_in (Moment time) p yet (index, is, at) = until_ends_in start m old batch new here from gone time index p yet is (let first = gone.first in omega (arith, at, first))

  -- and not before it
  pub not_before : (aim : Aim) (p : ℕ) → EndsIn aim batch (Some p) → old.position ≤ p
  not_before (Hit breaks) p (index, is, at) = let first = gone.first in omega (arith, at, first)
  not_before (Moment time) p (index, is, at) = let first = gone.first in omega (arith, at, first)

-- where no more is asked for than lines show, a breakpoint matches where its conditions on them are met
no_stall : (before after : State) (o : Option StallOf) (rest : Bool) → (IsTrue (is_some o || rest) → ⊥) → IfSome o (λ asked. Stalls asked before after)
no_stall before after None rest none = tt
no_stall before after (Some asked) rest none = absurd (none refl)

not_asked : {A : Type 0} (P : A → Type 0) (o : Option A) → (IsTrue (is_some o) → ⊥) → IfSome o P
not_asked P None none = tt
not_asked P (Some asked) none = absurd (none refl)

of_left : (a b : Bool) → (IsTrue (a || b) → ⊥) → IsTrue a → ⊥
of_left true b none is = none refl
of_left false b none is = true≢false (sym is)

of_right : (a b : Bool) → (IsTrue (a || b) → ⊥) → IsTrue b → ⊥
of_right true b none is = none refl
of_right false b none is = none is

none_kept : (v : Values) (after : After) → (IsTrue (asks_kept v) → ⊥) → MeetsKept v after
none_kept v after none = record {
  rto = not_asked _ (asked_of v Rto) (of_left (is_some (asked_of v Rto)) (is_some (asked_of v Dups)) none);
  dups = not_asked _ (asked_of v Dups) (of_right (is_some (asked_of v Rto)) (is_some (asked_of v Dups)) none);
}

none_states : (v : Values) (before : State) (line : TraceLine) (after : State) → (IsTrue (asks_states v) → ⊥) → MeetsStates v before line after
none_states v before line after none =
    let first = of_left (is_some (asked_of v Queue) || is_some (asked_of v Wait)) (is_some (asked_of v Count) || is_some v.change) none in
    let second = of_right (is_some (asked_of v Queue) || is_some (asked_of v Wait)) (is_some (asked_of v Count) || is_some v.change) none in
    record {
      links = record {
        queue = not_asked _ (asked_of v Queue) (of_left (is_some (asked_of v Queue)) (is_some (asked_of v Wait)) first);
        wait = not_asked _ (asked_of v Wait) (of_right (is_some (asked_of v Queue)) (is_some (asked_of v Wait)) first);
        count = not_asked _ (asked_of v Count) (of_left (is_some (asked_of v Count)) (is_some v.change) second);
      };
      change = not_asked _ v.change (of_right (is_some (asked_of v Count)) (is_some v.change) second);
    }

module _ (breaks : List Break) (none : AsksUnshown breaks → ⊥) (start : State) where
  to_line : (before : State) (line : TraceLine) (after : State) → IsHit breaks before line after → LineHit breaks before line after
  to_line before line after h = (h.0, h.1, h.2, h.3, h.4.meets)

  of_line : (before : State) (line : TraceLine) (after : State) → LineHit breaks before line after → IsHit breaks before line after
  of_line before line after h =
      let unasked : IsTrue (asks_unshown h.1) → ⊥ = λ some. none (h.0, h.1, h.2, h.3, some) in
      let more = asks_kept h.1.values || asks_states h.1.values in
      let no_more = of_right (is_some h.1.stall) more unasked in (
        h.0,
        h.1,
        h.2,
        h.3,
        record {
          meets = h.4;
          kept = none_kept h.1.values line.after (of_left (asks_kept h.1.values) (asks_states h.1.values) no_more);
          states = none_states h.1.values before line after (of_right (asks_kept h.1.values) (asks_states h.1.values) no_more);
          stalls = no_stall before after h.1.stall more unasked;
        },
      )

  -- and so `run` goes where windows go
  pub by_lines : (m p : ℕ) → RunsTo (LineHit breaks) start m p → RunGoesTo start breaks m p
  by_lines m p goes = record {
    holds = ⊎_elim
        (λ (stops : (m < p) × StopsBy (LineHit breaks) start p). inl (stops.0, record { line = stops.1.line; given = stops.1.given; hit = of_line stops.1.given.before.state stops.1.line stops.1.given.after stops.1.hit }))
        (λ (ends : EndsAt start p). inr ends) goes.holds;
    least = λ q. ⊎_elim
        (λ (stops : (m < q) × StopsAt start breaks q). goes.least q (inl (stops.0, record { line = stops.1.line; given = stops.1.given; hit = to_line stops.1.given.before.state stops.1.line stops.1.given.after stops.1.hit })))
        (λ (ends : EndsAt start q). goes.least q (inr ends));
  }
