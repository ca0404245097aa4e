-- A stretch of a run before a moment, and one event more.
use Rattle.std.proofs.Common.{◌≡◌, ◌<◌, ◌≤◌, ℕ, suc, List, [], ◌∷◌, ◌++◌, length, length-append, Option, Some, None, ap, subst, ◌∙◌, arith}
use Rattle.std.specs.List.{AllByRecursion}
use Rattle.std.specs.Option.{option_map, option_and_then}
use Rattle.sim_time.specs.declared.key.Key.{Key}
use Rattle.node_core.specs.declared.event.Event.{Event}
use Rattle.node_core.specs.TraceLine.{TraceLine}
use Rattle.tournament.proofs.Maps.{not_some, same_some}
use Rattle.table_run.specs.State.{State, due, step_at, run, one_step_more}
use Rattle.net_machine.specs.declared.due.Due.{Due}
use Rattle.net_machine.specs.Due.{due_of}
use Rattle.net_machine.specs.Run.{Reached, Stepped}
use Rattle.net_watch.specs.RunsBefore.{RunsBefore, IsNextBefore, IsHeldAt}

-- what is due is what is told of
pub held : (s : State) (moment : ℕ) (next : Due) → Some next ≡ option_map due_of (due s) → moment ≤ next.time → IsHeldAt moment s
held s moment next is late k v due_is = let same = same_some next (due_of (k, v)) (is ∙ ap (option_map due_of) due_is) in subst (λ (d : Due). moment ≤ d.time) same late

pub next_before : (s : State) (moment : ℕ) (next : Due) → Some next ≡ option_map due_of (due s) → next.time < moment → IsNextBefore moment s
next_before s moment next is early k v due_is = let same = same_some next (due_of (k, v)) (is ∙ ap (option_map due_of) due_is) in subst (λ (d : Due). d.time < moment) same early

pub none_next : (s : State) (moment : ℕ) → None ≡ option_map due_of (due s) → IsNextBefore moment s
none_next s moment is k v due_is = absurd (not_some (is ∙ ap (option_map due_of) due_is))

-- the event of a step is the one that is due
of_due : (s : State) (o : Option (Key × Event)) (line : TraceLine) (t : State) → option_map (step_at s) o ≡ Some (line, t) → o ≡ Some (line.key, line.event)
of_due s None line t is = absurd (not_some is)
of_due s (Some e) line t is = ap (λ (x : TraceLine × State). Some (x.0.key, x.0.event)) (same_some (step_at s e) (line, t) is)

abbrev Early : ℕ → TraceLine → Type 0
Early moment line = line.key.time < moment

early_more : (moment : ℕ) (lines : List TraceLine) (line : TraceLine) → AllByRecursion (Early moment) lines → line.key.time < moment → AllByRecursion (Early moment) (lines ++ line ∷ [])
early_more moment [] line all early = (early, tt)
early_more moment (first ∷ lines) line all early = (all.0, early_more moment lines line all.1 early)

pub before_more : (moment : ℕ) (old mid new : Reached) (line : TraceLine) → RunsBefore moment old mid → IsNextBefore moment mid.state → Stepped mid (Some line) new → RunsBefore moment old new
before_more moment old mid new line so next stepped =
    let long = length-append so.lines (line ∷ []) in
    let longer : length (so.lines ++ line ∷ []) ≡ suc (length so.lines) = omega (arith, long) in
    record {
      lines = so.lines ++ line ∷ [];
      comes = ap (run old.state) longer ∙ ap (option_and_then one_step_more) so.comes ∙ ap (option_map {U = List TraceLine × State} (λ (x : TraceLine × State). (so.lines ++ x.0 ∷ [], x.1))) stepped.0;
      position = (let p = stepped.1 in let q = so.position in omega (arith, p, q, longer));
      early = early_more moment so.lines line so.early (next line.key line.event (of_due mid.state (due mid.state) line new.state stepped.0));
    }
