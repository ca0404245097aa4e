-- A run whose figures are written step by step.
use Rattle.std.proofs.Common.{◌≡◌, ◌⊎◌, inl, inr, ◌∙◌, ◌+◌, ◌<◌, ◌≤◌, ◌++◌, ◌∷◌, [], ℕ, zero, suc, min, List, length, get_or, Option, None, Some, Ok, Err, refl, sym, ap, ap₂, subst, arith, length-append, append_assoc, append-nil}
use Rattle.std.proofs.lemmas.List.{get_or_append_left}
use Rattle.std.proofs.lemmas.List.Folds.{concat-append}
use Rattle.std.proofs.Math.Seq.{get_or-append_seam}
use Rattle.std.specs.Io.KnownBytes.{Appends}
use Rattle.std.specs.List.{AllByRecursion, concat}
use Rattle.sim_time.specs.declared.key.Key.{Key}
use Rattle.sim_time.specs.declared.limits.TheConstants.{LATEST_END, MOST_EVENTS}
use Rattle.scenario_image.specs.declared.parts.ScenarioParts.{ScenarioParts}
use Rattle.node_core.specs.declared.event.Event.{Event}
use Rattle.node_core.specs.TraceLine.{TraceLine}
use Rattle.table_run.specs.State.{State, due, initial, run}
use Rattle.table_run.specs.Laws.{ComesTo}
use Rattle.table_run.proofs.Due.{is_due}
use Rattle.table_run.proofs.Lists.{all_append}
use Rattle.table_run.proofs.Runs.{run_add}
use Rattle.net_machine.specs.Run.{Reached}
use Rattle.net_watch.specs.RunsBefore.{RunsBefore, IsHeldAt}
use Rattle.figures.specs.declared.figures.Figures.{Figures}
use Rattle.figures.specs.Figures.{AreOfRun, AreOfSomeRun, base_at}
use Rattle.figures.specs.Moments.{Base, moments}
use Rattle.figures_text.specs.declared.step.Span.{Span}
use Rattle.figures_text.specs.SeriesText.{series_heading}
use Rattle.figures_text.specs.Steps.{IsSeriesBegun, AreRowsOf, AreSteps, RunGoesOn, HasComeTo, IsGoingOn, RunIsOver, begin_of, rows_over, span_of}
use Rattle.figures_text.specs.Summaries.{IsTableFrom}
use Rattle.figures_text.specs.Table.{TextNames}
use Rattle.window_text.proofs.Bytes.{appends_more, appends_nothing}
use Rattle.sessions.specs.declared.fault.SessionFault.{SessionFault}
use Rattle.sessions.specs.declared.fault.SessionFault.TheVariants.{WriteFailed, NoMemory, CountFull}
use Rattle.sessions.specs.Ended.{SessionEnded}
use Rattle.sessions.specs.FiguresOutput.{IsBothOutput, IsSeriesOutput, AreRowsOfSteps, HasCome, IsCountFault, IsRowsOutput, IsStepBegun, StandsAt}
use Rattle.sessions.specs.Output.{IsAllOrNothing}
use Rattle.sessions.specs.Written.{Writes}
use Rattle.sessions.proofs.Figured.{count_refused, counts_from, end_of_run}
use Rattle.command_line.proofs.Options.{same_some}

-- a line is before a moment
abbrev pub IsEarly : ℕ → TraceLine → Type 0
IsEarly moment line = line.key.time < moment

still_early : (begin until : ℕ) (lines : List TraceLine) → begin ≤ until → AllByRecursion (IsEarly begin) lines → AllByRecursion (IsEarly until) lines
still_early begin until [] le all = tt
still_early begin until (line ∷ lines) le all = ((let here = all.0 in omega (arith, here, le)), still_early begin until lines le all.1)

-- a run that stands at a moment runs on before a later one, and stands there
stands_on : (p : ScenarioParts) (begin until : ℕ) (r at : Reached) → begin ≤ until → StandsAt p begin r → RunsBefore until r at → IsHeldAt until at.state → StandsAt p until at
stands_on p begin until r at le stands before held = record {
  lines = stands.lines ++ before.lines;
  comes = subst (λ n. run (initial p) n ≡ Some (stands.lines ++ before.lines, at.state)) (sym before.position) (run_add (initial p) r.state at.state r.position (length before.lines) stands.lines before.lines stands.comes before.comes);
  early = all_append (IsEarly until) stands.lines before.lines (still_early begin until stands.lines le stands.early) before.early;
  held = held;
}

-- a run that was begun at its initial state comes to where it stands
pub comes_there : (p : ScenarioParts) (moment : ℕ) (old mid : Reached) → old ≡ record { state = initial p; position = 0 } → (before : RunsBefore moment old mid) → ComesTo p mid.position before.lines mid.state
comes_there p moment old mid at before =
    let first : old.position ≡ 0 = ap (λ (x : Reached). x.position) at in
    let far : length before.lines ≡ mid.position = (let moved = before.position in omega (arith, moved, first)) in
    subst (λ n. run (initial p) n ≡ Some (before.lines, mid.state)) far (subst (λ (x : Reached). run x.state (length before.lines) ≡ Some (before.lines, mid.state)) at before.comes)

-- and stands at the moment before which it runs
pub stands_there : (p : ScenarioParts) (moment : ℕ) (old mid : Reached) → old ≡ record { state = initial p; position = 0 } → RunsBefore moment old mid → IsHeldAt moment mid.state → StandsAt p moment mid
stands_there p moment old mid at before held = record { lines = before.lines; comes = comes_there p moment old mid at before; early = before.early; held = held }

-- a number below the next is below, or the same
below_next : (k n : ℕ) → k < suc n → (k < n) ⊎ (k ≡ n)
below_next zero zero under = inr refl
below_next zero (suc n) under = inl (omega arith)
below_next (suc k) zero under = absurd (omega (arith, under))
below_next (suc k) (suc n) under = elim (below_next k n (omega (arith, under))) [
  | inl less ↦ inl (omega (arith, less))
  | inr same ↦ inr (ap suc same)
]

-- one step more
steps_more : (column : Option TextNames) (p : ScenarioParts) (from every : ℕ) (steps : List (List ℕ)) (rows : List ℕ) → AreSteps column p from every steps → (0 < length steps → RunGoesOn p (begin_of from every (length steps)))
    → AreRowsOf column p (span_of from every (length steps)) rows → AreSteps column p from every (steps ++ rows ∷ [])
steps_more column p from every steps rows are goes its = record {
  each = λ k under. elim (below_next k (length steps) (let long = length-append steps (rows ∷ []) in omega (arith, under, long))) [
    | inl less ↦ subst (λ text. AreRowsOf column p (span_of from every k) text) (sym (get_or_append_left steps (rows ∷ []) [] k less)) (are.each k less)
    | inr same ↦ subst (λ n. AreRowsOf column p (span_of from every n) (get_or (steps ++ rows ∷ []) n [])) (sym same) (subst (λ text. AreRowsOf column p (span_of from every (length steps)) text) (sym (get_or-append_seam steps rows [] [])) its)
  ];
  on = λ k some under. elim (below_next k (length steps) (let long = length-append steps (rows ∷ []) in omega (arith, under, long))) [
    | inl less ↦ are.on k some less
    | inr same ↦ subst (λ n. RunGoesOn p (begin_of from every n)) (sym same) (goes (omega (arith, some, same)))
  ];
}

-- the rows of the steps so far were written, and nothing is counted yet from the next one's begin on
pub record IsSoFar (column : Option TextNames) (p : ScenarioParts) (from every begin : ℕ) (f : Figures) (r : Reached) (old now : Option (List ℕ)) : Type 0 where
  pub steps : List (List ℕ)
  pub are : AreSteps column p from every steps
  pub at : begin ≡ begin_of from every (length steps)
  pub on : 0 < length steps → RunGoesOn p begin
  pub written : Appends old now (concat steps)
  pub begun : IsStepBegun p begin f r
  pub some : AreOfSomeRun f r
  pub early : begin ≤ LATEST_END

-- at the beginning none was
pub none_yet : (column : Option TextNames) (p : ScenarioParts) (from every : ℕ) (f : Figures) (r : Reached) (now : Option (List ℕ)) → IsStepBegun p from f r → AreOfSomeRun f r → from ≤ MOST_EVENTS → IsSoFar column p from every from f r now now
unfolding begin_of
none_yet column p from every f r now begun some early = record {
  steps = [];
  are = record { each = λ k under. absurd (omega (arith, under)); on = λ k pos under. absurd (omega (arith, under)) };
  at = refl;
  on = λ pos. absurd (omega (arith, pos));
  written = appends_nothing now;
  begun = begun;
  some = some;
  early = early;
}

-- where there is more to count from a moment on, it is at most the scenario's end
pub going_early : (p : ScenarioParts) (moment : ℕ) (s : State) → s.end ≡ p.end → IsHeldAt moment s → IsGoingOn p moment s → moment ≤ p.end
going_early p moment s end held (inl one_due) = go (due s) refl
  where
    go : (d : Option (Key × Event)) → due s ≡ d → moment ≤ p.end
    go None is = absurd (one_due is)
    go (Some (k, v)) is = (let late = held k v is in let most = (is_due s k v is).in_time in omega (arith, late, most, end))
going_early p moment s end held (inr before) = (let less = before.0 in omega (arith, less))

module _ (column : Option TextNames) (p : ScenarioParts) (from every begin until : ℕ) (f counted : Figures) (r at : Reached) (old now : Option (List ℕ)) (so : IsSoFar column p from every begin f r old now)
    (until_is : until ≡ begin + every) (before : RunsBefore until r at) (goes : (q : ScenarioParts) (b : Base) → AreOfRun q b f r → AreOfRun q b counted at) (fits : at.position ≤ MOST_EVENTS) where
  pub step_of : AreOfRun p (base_at p (min begin p.end) r) counted at
  step_of = goes p (base_at p (min begin p.end) r) so.begun.of

  pub step_come : HasCome p at
  step_come = record { lines = step_of.lines; comes = step_of.comes }

  abbrev pub step_rows : List ℕ
  step_rows = rows_over column p (record { begin = begin; until = until }) (base_at p (min begin p.end) r) (moments r.state step_of.count) at.state

  -- counting was stopped in a step: the rows before it were written
  pub step_stopped : (fault : SessionFault) → IsCountFault at fault → Writes (IsRowsOutput column p from every (Err fault)) old now
  step_stopped NoMemory stops = (concat so.steps, so.written, record { steps = so.steps; are = so.are; out_is = refl })
  step_stopped CountFull stops = (concat so.steps, so.written, (count_refused p at CountFull step_come stops, record { steps = so.steps; are = so.are; out_is = refl }))
  step_stopped _ stops = absurd stops

  module _ (held : IsHeldAt until at.state) where
    pub step_stands : StandsAt p until at
    step_stands = stands_on p begin until r at (omega (arith, until_is)) so.begun.stands before held

    same_lines : step_of.counted ≡ before.lines
    same_lines =
        let moved = step_of.position in
        let ran = before.position in
        let count : length before.lines ≡ step_of.count = omega (arith, moved, ran) in
        let both : Some (step_of.counted, at.state) ≡ Some (before.lines, at.state) = sym step_of.goes_on ∙ subst (λ n. run r.state n ≡ Some (before.lines, at.state)) count before.comes in
        ap (λ (x : List TraceLine × State). x.0) (same_some (step_of.counted, at.state) (before.lines, at.state) both)

    its_rows : AreRowsOf column p (record { begin = begin; until = until }) step_rows
    its_rows = record {
      base = base_at p (min begin p.end) r;
      counted = counts_from p begin r so.begun.stands;
      n = step_of.count;
      lines = step_of.counted;
      last = at.state;
      is_run = step_of.goes_on;
      early = subst (AllByRecursion (IsEarly until)) (sym same_lines) before.early;
      late = held;
      rows_are = refl;
    }

    its_span : ◌≡◌ {A = Span} (record { begin = begin; until = until }) (span_of from every (length so.steps))
    unfolding begin_of
    its_span = ap₂ (λ b u. record { begin = b; until = u }) so.at (until_is ∙ ap (λ n. n + every) so.at)

    pub more_steps : AreSteps column p from every (so.steps ++ step_rows ∷ [])
    more_steps =
        steps_more column p from every so.steps step_rows so.are (λ some. subst (RunGoesOn p) so.at (so.on some))
        (subst (λ (span : Span). AreRowsOf column p span step_rows) its_span its_rows)

    joined : concat (so.steps ++ step_rows ∷ []) ≡ concat so.steps ++ step_rows
    joined = concat-append so.steps (step_rows ∷ []) ∙ ap (λ xs. concat so.steps ++ xs) (append-nil step_rows)

    -- writing its rows was stopped
    pub step_cut : (fault : SessionFault) (new : Option (List ℕ)) → Writes (IsAllOrNothing step_rows (Err fault)) now new → Writes (IsRowsOutput column p from every (Err fault)) old new
    step_cut NoMemory new (bytes, takes, none) = (
      concat so.steps ++ bytes,
      appends_more old now new (concat so.steps) bytes so.written takes,
      record { steps = so.steps; are = so.are; out_is = ap (λ xs. concat so.steps ++ xs) none ∙ append-nil (concat so.steps) },
    )
    step_cut WriteFailed new (bytes, takes, (rest, is)) = (
      concat so.steps ++ bytes,
      appends_more old now new (concat so.steps) bytes so.written takes,
      (rest, record { steps = so.steps ++ step_rows ∷ []; are = more_steps; out_is = append_assoc (concat so.steps) bytes rest ∙ ap (λ xs. concat so.steps ++ xs) is ∙ sym joined }),
    )
    step_cut _ new (bytes, takes, made) = absurd made

    module _ (new : Option (List ℕ)) (wrote : Appends now new step_rows) where
      pub all_written : Appends old new (concat (so.steps ++ step_rows ∷ []))
      all_written = subst (Appends old new) (sym joined) (appends_more old now new (concat so.steps) step_rows so.written wrote)

      abbrev pub rows_of_steps : AreRowsOfSteps column p from every (concat (so.steps ++ step_rows ∷ []))
      rows_of_steps = record { steps = so.steps ++ step_rows ∷ []; are = more_steps; out_is = refl }

      one_more_step : length (so.steps ++ step_rows ∷ []) ≡ suc (length so.steps)
      one_more_step = (let long = length-append so.steps (step_rows ∷ []) in omega (arith, long))

      its_until : until ≡ begin_of from every (length (so.steps ++ step_rows ∷ []))
      unfolding begin_of
      its_until = until_is ∙ ap (λ n. n + every) so.at ∙ ap (begin_of from every) (sym one_more_step)

      come_to : HasComeTo p until at.state
      come_to = record { n = at.position; few = fits; lines = step_stands.lines; comes = step_stands.comes; early = step_stands.early; late = held }

      -- it was the last one
      pub step_last : ¬ IsGoingOn p until at.state → Writes (IsRowsOutput column p from every (Ok tt)) old new
      step_last over = (
        concat (so.steps ++ step_rows ∷ []),
        all_written,
        record {
          rows = rows_of_steps;
          some = omega (arith, one_more_step);
          over = subst (RunIsOver p) its_until (record { state = at.state; come = come_to; over = over });
        },
      )

      -- memory was refused behind it
      pub step_short : Writes (IsRowsOutput column p from every (Err NoMemory)) old new
      step_short = (concat (so.steps ++ step_rows ∷ []), all_written, rows_of_steps)

      -- it goes on
      pub step_next : (next : Figures) → IsGoingOn p until at.state → AreOfRun p (base_at p (min until p.end) at) next at → AreOfSomeRun next at → p.end ≤ LATEST_END → IsSoFar column p from every until next at old new
      step_next next going of some most =
          let end = end_of_run p at step_come in
          let early = going_early p until at.state end held going in
          record {
            steps = so.steps ++ step_rows ∷ [];
            are = more_steps;
            at = its_until;
            on = λ pos. record { state = at.state; come = come_to; going = going };
            written = all_written;
            begun = record { stands = step_stands; of = of };
            some = some;
            early = omega (arith, early, most);
          }

no_steps : (column : Option TextNames) (p : ScenarioParts) (from every : ℕ) → AreSteps column p from every []
no_steps column p from every = record { each = λ k under. absurd (omega (arith, under)); on = λ k pos under. absurd (omega (arith, under)) }

-- counting was stopped before the first step: nothing was written
pub never_begun : (column : Option TextNames) (p : ScenarioParts) (from every : ℕ) (r : Reached) (fault : SessionFault) (known : Option (List ℕ)) → HasCome p r → IsCountFault r fault → Writes (IsRowsOutput column p from every (Err fault)) known known
never_begun column p from every r NoMemory known come stops = ([], appends_nothing known, record { steps = []; are = no_steps column p from every; out_is = refl })
never_begun column p from every r CountFull known come stops = ([], appends_nothing known, (count_refused p r CountFull come stops, record { steps = []; are = no_steps column p from every; out_is = refl }))
never_begun column p from every r _ known come stops = absurd stops

-- writing the heading was stopped
pub heading_cut : (column : Option TextNames) (p : ScenarioParts) (from every : ℕ) (fault : SessionFault) (old new : Option (List ℕ)) → Writes (IsAllOrNothing (series_heading column) (Err fault)) old new → Writes (IsSeriesOutput column p from every (Err fault)) old new
heading_cut column p from every NoMemory old new (bytes, takes, none) = (bytes, takes, inl none)
heading_cut column p from every WriteFailed old new (bytes, takes, (rest, is)) =
    (bytes, takes, (rest, inr (record { steps = []; are = no_steps column p from every; bytes_are = is ∙ sym (append-nil (series_heading column)) })))
heading_cut column p from every _ old new (bytes, takes, made) = absurd made

-- rows behind the heading are a series
abbrev behind : (column : Option TextNames) (p : ScenarioParts) (from every : ℕ) (rows : List ℕ) → AreRowsOfSteps column p from every rows → IsSeriesBegun column p from every (series_heading column ++ rows)
behind column p from every rows are = record { steps = are.steps; are = are.are; bytes_are = ap (λ xs. series_heading column ++ xs) are.out_is }

pub behind_heading : (column : Option TextNames) (p : ScenarioParts) (from every : ℕ) (ended : SessionEnded) (old mid new : Option (List ℕ)) → Appends old mid (series_heading column) → Writes (IsRowsOutput column p from every ended) mid new
    → Writes (IsSeriesOutput column p from every ended) old new
behind_heading column p from every (Ok u) old mid new heads (bytes, takes, made) =
    (series_heading column ++ bytes, appends_more old mid new (series_heading column) bytes heads takes, record { begun = behind column p from every bytes made.rows; some = made.some; over = made.over })
behind_heading column p from every (Err NoMemory) old mid new heads (bytes, takes, made) = (series_heading column ++ bytes, appends_more old mid new (series_heading column) bytes heads takes, inr (behind column p from every bytes made))
behind_heading column p from every (Err CountFull) old mid new heads (bytes, takes, made) =
    (series_heading column ++ bytes, appends_more old mid new (series_heading column) bytes heads takes, (made.0, inr (behind column p from every bytes made.1)))
behind_heading column p from every (Err WriteFailed) old mid new heads (bytes, takes, (rest, made)) = (
  series_heading column ++ bytes,
  appends_more old mid new (series_heading column) bytes heads takes,
  (rest, inr (subst (IsSeriesBegun column p from every) (sym (append_assoc (series_heading column) bytes rest)) (behind column p from every (bytes ++ rest) made))),
)
behind_heading column p from every (Err _) old mid new heads (bytes, takes, made) = absurd made

-- a series behind its table
pub behind_table : (column : Option TextNames) (p : ScenarioParts) (from every : ℕ) (ended : SessionEnded) (old mid new : Option (List ℕ)) → Writes (IsTableFrom column p from) old mid → Writes (IsSeriesOutput column p from every ended) mid new
    → Writes (IsBothOutput column p from every ended) old new
behind_table column p from every (Ok u) old mid new (table, heads, is) (rest, takes, made) = (table ++ rest, appends_more old mid new table rest heads takes, record { table = table; rest = rest; is_table = is; is_rest = made; out_is = refl })
behind_table column p from every (Err fault) old mid new (table, heads, is) (rest, takes, made) = (table ++ rest, appends_more old mid new table rest heads takes, inr (record { table = table; rest = rest; is_table = is; is_rest = made; out_is = refl }))
