-- From one state of a run to a later one: what one more step gives, and when a move is at its end.
use Rattle.std.proofs.Common.{◌≡◌, ◌≢◌, ℕ, suc, ◌+◌, ◌-◌, ◌<◌, ◌≤◌, List, [], ◌∷◌, ◌++◌, Bool, true, false, cond, refl, sym, ap, subst, ◌∙◌, Option, Some, None, inl, inr, ⊎_elim, arith}
use Rattle.std.specs.Prelude.{nat_lt}
use borrow.Author.Tests.{ltb-false}
use Rattle.std.specs.Option.{option_map, option_and_then}
use Rattle.std.proofs.lemmas.Bool.{cases_lt}
use Rattle.sim_time.specs.declared.key.Key.{Key}
use Rattle.sim_time.specs.declared.limits.TheConstants.{MOST_EVENTS}
use Rattle.tournament.specs.Keyed.{least}
use Rattle.tournament.proofs.Maps.{not_some, same_some, none_least}
use Rattle.node_core.specs.declared.event.Event.{Event}
use Rattle.node_core.specs.TraceLine.{TraceLine}
use Rattle.table_run.specs.State.{State, below, due, step_at, step, one_step_more, run}
use Rattle.table_run.specs.Sound.{EachEvent}
use Rattle.table_run.proofs.Runs.{of_step, of_run, run_parts}
use Rattle.table_run.proofs.Due.{least_time, is_due}
use Rattle.net_machine.specs.Run.{Reached, Stepped}
use Rattle.debugger.specs.Moves.{Passes, HasPosition, EndsAt, GivesAt, StopsBy, NonePendingBefore, StepGoesTo, RunsTo, UntilGoesTo, IsTooLong}

-- a run begins at its first state
pub passes_start : (start : State) → Passes start (record { state = start; position = 0 })
passes_start start = record { lines = []; comes = refl }

pub passes_first : (first : Reached) → first.position ≡ 0 → Passes first.state first
passes_first first at = subst (λ n. Passes first.state (record { state = first.state; position = n })) (sym at) (passes_start first.state)

-- the run passes the state after one more step
pub passes_next : (start : State) (old new : Reached) (line : TraceLine) → Passes start old → Stepped old (Some line) new → Passes start new
passes_next start old new line at next = record {
  lines = at.lines ++ line ∷ [];
  comes = subst (λ n. run start n ≡ Some (at.lines ++ line ∷ [], new.state)) {x = suc old.position} {y = new.position} (omega (arith, next.1))
      (ap (option_and_then one_step_more) at.comes ∙ ap (option_map {U = List TraceLine × State} (λ (next : TraceLine × State). (at.lines ++ next.0 ∷ [], next.1))) next.0);
}

-- a run has one state at each position
pub same_state : (start : State) (a b : Reached) → Passes start a → Passes start b → a.position ≡ b.position → a.state ≡ b.state
same_state start a b at bt same = ap (λ (q : List TraceLine × State). q.1) (same_some (at.lines, a.state) (bt.lines, b.state) (sym at.comes ∙ ap (run start) same ∙ bt.comes))

-- a run has each position up to one that it has
pub has_earlier : (start : State) (at : Reached) (q : ℕ) → Passes start at → q ≤ at.position → HasPosition start q
has_earlier start at q here upto =
    let parted = run_parts start at.state q (at.position - q) here.lines (ap (run start) {x = q + (at.position - q)} {y = at.position} (omega (arith, upto)) ∙ here.comes) in
    (parted.between, record { lines = parted.first; comes = parted.begins })

no_step : (s t : State) (line : TraceLine) → due s ≡ None → step s ≡ Some (line, t) → ⊥
no_step s t line none e = not_some (sym (ap (option_map {U = TraceLine × State} (step_at s)) none) ∙ e)

pub none_due : (s : State) → step s ≡ None → due s ≡ None
none_due s e = go (due s) e
  where
    go : (d : Option (Key × Event)) → option_map {U = TraceLine × State} (step_at s) d ≡ None → d ≡ None
    go None e = refl
    go (Some entry) e = absurd (not_some (sym e))

-- no state of a run is past its end
pub end_last : (start : State) (q : ℕ) (at : Reached) → EndsAt start q → Passes start at → at.position ≤ q
end_last start q at ends here = ⊎_elim past (λ (upto : at.position ≤ q). upto) (cases_lt q at.position)
  where
    past : q < at.position → at.position ≤ q
    past under =
        let more = at.position - (q + 1) in
        let parted = run_parts start at.state q (suc more) here.lines (ap (run start) {x = q + suc more} {y = at.position} (omega (arith, under)) ∙ here.comes) in
        let same : parted.between ≡ ends.last = same_state start (record { state = parted.between; position = q }) (record { state = ends.last; position = q }) (record { lines = parted.first; comes = parted.begins }) ends.passes refl in
        of_run parted.between at.state more parted.rest parted.goes_on (λ line t rest first _ _. absurd (no_step parted.between t line (ap due same ∙ ends.none_due) first))

pub end_here : (start : State) (at : Reached) → Passes start at → step at.state ≡ None → EndsAt start at.position
end_here start at here none = record { last = at.state; passes = here; none_due = none_due at.state none }

pub too_long : (start : State) (at : Reached) → Passes start at → due at.state ≢ None → at.position ≡ MOST_EVENTS → IsTooLong start
too_long start at here more full = record { last = at.state; passes = subst (λ n. Passes start (record { state = at.state; position = n })) full here; one_due = more }

-- steps: so many were made
pub step_done : (start : State) (at : Reached) (m k : ℕ) → Passes start at → at.position ≡ m + k → StepGoesTo start m k at.position
step_done start at m k here is = record { holds = inl is; least = λ q. ⊎_elim (λ (e : q ≡ m + k). omega (arith, e, is)) (λ (ends : EndsAt start q). end_last start q at ends here) }

-- or the run is at its end
pub step_ended : (start : State) (at : Reached) (m k : ℕ) → Passes start at → step at.state ≡ None → at.position ≤ m + k → StepGoesTo start m k at.position
step_ended start at m k here none upto =
    record { holds = inr (end_here start at here none); least = λ q. ⊎_elim (λ (e : q ≡ m + k). omega (arith, e, upto)) (λ (ends : EndsAt start q). end_last start q at ends here) }

-- steps up to a position that the run has come to it
pub comes_there : (start : State) (m target p : ℕ) → StepGoesTo start m (target - m) p → m ≤ target → HasPosition start target → p ≡ target
comes_there start m target p goes below has =
    let upto : p ≤ target = goes.least target (inl (omega (arith, below))) in
    ⊎_elim (λ (e : p ≡ m + (target - m)). omega (arith, e, below)) (λ (ends : EndsAt start p). let most = end_last start p (record { state = has.0; position = target }) ends has.1 in omega (arith, most, upto)) goes.holds

abbrev pub gives_next : (start : State) (old new : Reached) (line : TraceLine) → Passes start old → Stepped old (Some line) new → GivesAt start line new.position
gives_next start old new line at next = record { before = old; after = new.state; passes = at; gives = next.0; is_next = next.1 }

module _ (P : State → TraceLine → State → Type 0) where
  -- P holds of no line from past one position up to another
  abbrev pub NoneBy : State → ℕ → ℕ → Type 0
  NoneBy start m p = (q : ℕ) → m < q → q ≤ p → StopsBy P start q → ⊥

  pub none_by_yet : (start : State) (m : ℕ) → NoneBy start m m
  none_by_yet start m q above upto stops = absurd (omega (arith, above, upto))

  -- the step to a position is one
  same_stop : (start : State) (old new : Reached) (line : TraceLine) (p : ℕ) → p ≡ new.position → Passes start old → Stepped old (Some line) new → StopsBy P start p → P old.state line new.state
  same_stop start old new line p here at next stops =
      let given = stops.given in
      let before = same_state start given.before old given.passes at (let is = given.is_next in omega (arith, is, here, next.1)) in
      let both : (stops.line, given.after) ≡ (line, new.state) = same_some (stops.line, given.after) (line, new.state) (sym given.gives ∙ ap step before ∙ next.0) in
      subst (λ (x : State × TraceLine × State). P x.0 x.1 x.2) (λ i. (before i, (both i).0, (both i).1)) stops.hit

  pub none_by_next : (start : State) (m : ℕ) (old new : Reached) (line : TraceLine) → NoneBy start m old.position → Passes start old → Stepped old (Some line) new → (P old.state line new.state → ⊥) → NoneBy start m new.position
  none_by_next start m old new line none at next missed q above upto stops =
      ⊎_elim
      (λ (before : q < new.position). none q above (omega (arith, before, next.1)) stops)
      (λ (from : new.position ≤ q). missed (same_stop start old new line q (omega (arith, from, upto)) at next stops))
      (cases_lt q new.position)

  -- a run stops at the first line of which P holds
  pub run_stopped : (start : State) (m : ℕ) (old new : Reached) (line : TraceLine) → NoneBy start m old.position → m ≤ old.position → Passes start old → Stepped old (Some line) new → P old.state line new.state → RunsTo P start m new.position
  run_stopped start m old new line none from at next hit = record {
    holds = inl ((omega (arith, from, next.1)), record { line = line; given = gives_next start old new line at next; hit = hit });
    least = λ q. ⊎_elim
        (λ (stops : (m < q) × StopsBy P start q). ⊎_elim (λ (before : q < new.position). absurd (none q stops.0 (omega (arith, before, next.1)) stops.1)) (λ (h : new.position ≤ q). h) (cases_lt q new.position))
        (λ (ends : EndsAt start q). end_last start q new ends (passes_next start old new line at next));
  }

  -- or at the run's end
  pub run_ended : (start : State) (m : ℕ) (at : Reached) → NoneBy start m at.position → Passes start at → step at.state ≡ None → RunsTo P start m at.position
  run_ended start m at none here no_more = record {
    holds = inr (end_here start at here no_more);
    least = λ q. ⊎_elim
        (λ (stops : (m < q) × StopsBy P start q). ⊎_elim (λ (before : q < at.position). absurd (none q stops.0 (omega (arith, before)) stops.1)) (λ (h : at.position ≤ q). h) (cases_lt q at.position))
        (λ (ends : EndsAt start q). end_last start q at ends here);
  }

-- nothing before a time is pending below the end
abbrev NothingBefore : ℕ → State → Type 0
NothingBefore time s = EachEvent (λ (k : Key) (v : Event). k.time < time → s.end ≤ k.time) s.pending

-- at each position from one on up to another, something before a time is pending below the end
abbrev pub SomeBefore : State → ℕ → ℕ → ℕ → Type 0
SomeBefore start time m p = (q : ℕ) → m ≤ q → q < p → NonePendingBefore start time q → ⊥

pub some_before_yet : (start : State) (time m : ℕ) → SomeBefore start time m m
some_before_yet start time m q from under none = absurd (omega (arith, from, under))

pub some_before_next : (start : State) (time m : ℕ) (old new : Reached) (line : TraceLine) → SomeBefore start time m old.position → Passes start old → Stepped old (Some line) new → line.key.time < time → SomeBefore start time m new.position
some_before_next start time m old new line some at next early q from under none =
    ⊎_elim
    (λ (before : q < old.position). some q from before none)
    (λ (upto : old.position ≤ q).
    let same = same_state start old (record { state = none.state; position = q }) at none.passes (omega (arith, upto, under, next.1)) in
    let nothing = subst (NothingBefore time) (sym same) none.none in
    of_step old.state line new.state next.0 (λ k v is _ line_is.
    let due_is = is_due old.state k v is in
    let time_is : line.key.time ≡ k.time = ap (λ (l : TraceLine). l.key.time) line_is in
    let late = nothing k v due_is.pending (omega (arith, time_is, early)) in
    let in_time = due_is.in_time in
    absurd (omega (arith, late, in_time))))
    (cases_lt q old.position)

nothing_before_due : (time : ℕ) (s t : State) (line : TraceLine) → step s ≡ Some (line, t) → time ≤ line.key.time → NothingBefore time s
nothing_before_due time s t line e late =
    of_step s line t e (λ k v is _ line_is q w there early.
    let time_is : line.key.time ≡ k.time = ap (λ (l : TraceLine). l.key.time) line_is in
    let first = (is_due s k v is).first q w there in
    absurd (omega (arith, time_is, late, early, first)))

nothing_before_end : (time : ℕ) (s : State) → step s ≡ None → NothingBefore time s
nothing_before_end time s none q w there early = go (least s.pending) refl (none_due s none)
  where
    test : (k : Key) (v : Event) (b : Bool) → least s.pending ≡ Some (k, v) → nat_lt k.time s.end ≡ b → cond {A = Option (Key × Event)} b (Some (k, v)) None ≡ None → s.end ≤ q.time
    test k v true is in_time e = absurd (not_some (sym e))
    test k v false is past e = let first = least_time s.pending k v is q w there in let late = ltb-false k.time s.end past in omega (arith, first, late)

    go : (o : Option (Key × Event)) → least s.pending ≡ o → below s.end o ≡ None → s.end ≤ q.time
    go None is e = absurd (not_some (sym (none_least s.pending is q) ∙ there))
    go (Some entry) is e = test entry.0 entry.1 (nat_lt entry.0.time s.end) is refl e

-- `until` stops before the first event that is not before the time
pub until_stopped : (start : State) (time m : ℕ) (old new : Reached) (line : TraceLine) → SomeBefore start time m old.position → m ≤ old.position → Passes start old → Stepped old (Some line) new → time ≤ line.key.time → UntilGoesTo start time m old.position
until_stopped start time m old new line some from at next late = record {
  holds = (from, record { state = old.state; passes = at; none = nothing_before_due time old.state new.state line next.0 late });
  least = λ q h. ⊎_elim (λ (before : q < old.position). absurd (some q h.0 before h.1)) (λ (upto : old.position ≤ q). upto) (cases_lt q old.position);
}

-- or at the run's end
pub until_ended : (start : State) (time m : ℕ) (at : Reached) → SomeBefore start time m at.position → m ≤ at.position → Passes start at → step at.state ≡ None → UntilGoesTo start time m at.position
until_ended start time m at some from here no_more = record {
  holds = (from, record { state = at.state; passes = here; none = nothing_before_end time at.state no_more });
  least = λ q h. ⊎_elim (λ (before : q < at.position). absurd (some q h.0 before h.1)) (λ (upto : at.position ≤ q). upto) (cases_lt q at.position);
}
