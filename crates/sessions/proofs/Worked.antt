-- What a run by workers has written.
use Rattle.std.proofs.Common.{◌≡◌, ◌∙◌, ℕ, ◌≤◌, ◌+◌, List, [], ◌++◌, length, length-append, take, drop, append_assoc, append-nil, false, is_err, Option, None, Some, Result, Ok, Err, IfOk, IfErr, refl, sym, ap, subst, arith, inl, inr}
use Rattle.std.specs.Option.{option_map}
use Rattle.std.proofs.lemmas.List.{take-append-drop}
use Rattle.std.specs.Io.KnownBytes.{Appends}
use Rattle.sim_time.specs.declared.limits.TheConstants.{MOST_EVENTS}
use Rattle.tournament.specs.Keyed.{least}
use Rattle.node_core.specs.TraceLine.{TraceLine}
use Rattle.table_run.specs.State.{State, below, due, run, step_at}
use Rattle.table_run.proofs.Runs.{run_add, run_end}
use Rattle.net_machine.specs.Run.{IsRun, Reached}
use Rattle.trace_text.specs.End.{end_bytes}
use Rattle.window_core.specs.Full.{HasTooMany}
use Rattle.window_engine.specs.declared.fault.EngineFault.{EngineFault}
use Rattle.window_engine.specs.declared.fault.EngineFault.TheVariants.{NoMemory as engine_NoMemory, CountFull as engine_CountFull, NoWorker as engine_NoWorker, Sink, Failed}
use Rattle.window_engine.specs.declared.fault.Stop.{Stop}
use Rattle.window_engine.specs.declared.fault.Stop.TheVariants.{End, Until}
use Rattle.window_engine.specs.Engines.{Commits, EngineValue, IsStop, SinkTakes, sink_failures}
use Rattle.window_engine.specs.Text.{text_from}
use Rattle.window_text.proofs.Bytes.{appends_more, appends_nothing, take_past}
use Rattle.window_text.proofs.Numbered.{text_both}
use Rattle.window_engine.proofs.TooMany.{earlier_full}
use Rattle.sessions.specs.declared.fault.SessionFault.{SessionFault}
use Rattle.sessions.specs.declared.fault.SessionFault.TheVariants.{WriteFailed, NoMemory}
use Rattle.sessions.specs.Ended.{SessionEnded, IsRunOutput, writes_after}
use Rattle.sessions.specs.Faults.{of_engine}
use Rattle.sessions.specs.Trace.{lines_bytes, IsTrace, IsTraceStart, IsTraceOrStart}
use Rattle.sessions.specs.Worked.{EndsRun, HasRun, RunsTo, TakesAll, at_first}
use Rattle.sessions.specs.Written.{Writes, IsBeginningOf}

-- the text of some lines, and of more
text_more : (xs ys : List TraceLine) (n : ℕ) → n ≡ length xs → lines_bytes (xs ++ ys) ≡ lines_bytes xs ++ text_from (n + 1) ys
text_more xs ys n at =
    let first : 1 + length xs ≡ n + 1 = omega (arith, at) in
    text_both 1 xs ys ∙ ap (λ k. lines_bytes xs ++ text_from k ys) first

-- what a call takes, behind what was taken
takes_more : (r : Result Stop EngineFault) (xs ys : List ℕ) (a b c : Option (List ℕ)) → Appends a b xs → SinkTakes r ys b c → TakesAll r (xs ++ ys) a c
takes_more (Ok stop) xs ys a b c first then = appends_more a b c xs ys first then
takes_more (Err engine_NoMemory) xs ys a b c first then = appends_more a b c xs ys first then
takes_more (Err engine_CountFull) xs ys a b c first then = appends_more a b c xs ys first then
takes_more (Err engine_NoWorker) xs ys a b c first then = appends_more a b c xs ys first then
takes_more (Err Failed) xs ys a b c first then = appends_more a b c xs ys first then
takes_more (Err (Sink written)) xs ys a b c first then =
    let few = then.0 in (
      length xs + written,
      (omega (arith, few, length-append xs ys), subst (Appends a c) (sym (take_past written xs ys)) (appends_more a b c xs (take written ys) first then.1)),
    )

-- nothing was run yet
pub runs_nothing : (old : Reached) (known : Option (List ℕ)) → old.position ≡ 0 → RunsTo old.state (Ok End) old known known
runs_nothing old known is = record { lines = []; state = old.state; is_run = refl; position_is = is; state_is = refl; takes = appends_nothing known }

-- a call of the engine more
pub runs_on : {until : ℕ} (s : State) (stop : Stop) (mid : Reached) (r : Result Stop EngineFault) (new : Reached) (a b c : Option (List ℕ)) → RunsTo s (Ok stop) mid a b → Commits until mid r new b c → RunsTo s r new a c
runs_on s stop mid r new a b c to commits =
    let n = length to.lines in
    let m = length commits.lines in
    let both : run s n ≡ Some (to.lines, mid.state) = subst (λ t. run s n ≡ Some (to.lines, t)) (sym to.state_is) to.is_run in
    let text = text_more to.lines commits.lines mid.position to.position_is in
    record {
      lines = to.lines ++ commits.lines;
      state = commits.state;
      is_run = ap (run s) (length-append to.lines commits.lines) ∙ run_add s mid.state commits.state n m to.lines commits.lines both commits.is_run;
      position_is = (let p = to.position_is in let q = commits.position_is in omega (arith, p, q, length-append to.lines commits.lines));
      state_is = commits.state_is;
      takes = subst (λ all. TakesAll r all a c) (sym text) (takes_more r (lines_bytes to.lines) (text_from (mid.position + 1) commits.lines) a b c to.takes commits.takes);
    }

-- where a run stopped makes no difference
pub any_stop : (s : State) (one other : Stop) (new : Reached) (a b : Option (List ℕ)) → RunsTo s (Ok one) new a b → RunsTo s (Ok other) new a b
any_stop s one other new a b to = record { lines = to.lines; state = to.state; is_run = to.is_run; position_is = to.position_is; state_is = to.state_is; takes = to.takes }

-- a run that has too many events from here has too many from its beginning
pub full_from_start : (old : Reached) (stop : Stop) (mid : Reached) (a b : Option (List ℕ)) → old.position ≡ 0 → RunsTo old.state (Ok stop) mid a b → mid.position ≤ MOST_EVENTS → HasTooMany mid
    → HasTooMany old
full_from_start old stop mid a b is to few full =
    let both : run old.state (length to.lines) ≡ Some (to.lines, mid.state) = subst (λ t. run old.state (length to.lines) ≡ Some (to.lines, t)) (sym to.state_is) to.is_run in
    let at = to.position_is in
    earlier_full old mid to.lines both (omega (arith, is, at)) few full

-- the same of whatever a call answers
pub full_by : (old mid : Reached) (r : Result Stop EngineFault) → (HasTooMany mid → HasTooMany old) → IfErr r (λ fault. fault ≡ engine_CountFull → HasTooMany mid) → IfErr r (λ fault. fault ≡ engine_CountFull → HasTooMany old)
full_by old mid (Ok stop) earlier full = tt
full_by old mid (Err fault) earlier full = λ is. earlier (full is)

-- lines of the run's first events
begun : (s : State) (lines : List TraceLine) (last : State) → run s (length lines) ≡ Some (lines, last) → IsTraceStart s (lines_bytes lines)
begun s lines last is = record { n = length lines; lines = lines; last = last; is_run = is; bytes_are = refl }

-- a fault of the engine ended the run
pub engine_failed : (s : State) (fault : EngineFault) (new : Reached) (a b : Option (List ℕ)) → RunsTo {T = Stop} s (Err fault) new a b → (fault ≡ engine_CountFull → HasTooMany (at_first s))
    → Writes (IsRunOutput s (Err (of_engine fault))) a b
engine_failed s engine_NoMemory new a b commits full = (lines_bytes commits.lines, commits.takes, begun s commits.lines commits.state commits.is_run)
engine_failed s engine_CountFull new a b commits full = (lines_bytes commits.lines, commits.takes, (full refl, begun s commits.lines commits.state commits.is_run))
engine_failed s engine_NoWorker new a b commits full = (lines_bytes commits.lines, commits.takes, begun s commits.lines commits.state commits.is_run)
engine_failed s Failed new a b commits full = (lines_bytes commits.lines, commits.takes, begun s commits.lines commits.state commits.is_run)
engine_failed s (Sink written) new a b commits full =
    let all = lines_bytes commits.lines in
    let count = commits.takes.0 in
    (take count all, commits.takes.1.1, (drop count all, inr (subst (IsTraceStart s) (sym (take-append-drop count all)) (begun s commits.lines commits.state commits.is_run))))

module _ (s : State) (new : Reached) (a b : Option (List ℕ)) where
  -- before the scenario's end nothing is due
  none_due : (stop : Stop) → RunsTo s (Ok stop) new a b → IsStop s.end new.state stop → due new.state ≡ None
  none_due End commits stops = stops
  none_due Until commits stops =
      let ends : new.state.end ≡ s.end = ap (λ (t : State). t.end) commits.state_is ∙ run_end (length commits.lines) s commits.state commits.lines commits.is_run in
      subst (λ end. below end (least new.state.pending) ≡ None) (sym ends) stops.1

  module _ (stop : Stop) (commits : RunsTo s (Ok stop) new a b) where
    count : new.position ≡ length commits.lines
    count = commits.position_is

    trace : (n : ℕ) (last : List ℕ) → IsStop s.end new.state stop → new.position ≤ MOST_EVENTS → n ≡ new.position → last ≡ end_bytes n → IsTrace s (lines_bytes commits.lines ++ last)
    trace n last stops few at ends =
        let as_many = count in
        record {
          n = length commits.lines;
          few = omega (arith, few, as_many);
          lines = commits.lines;
          last = new.state;
          is_run = subst (λ t. run s (length commits.lines) ≡ Some (commits.lines, t)) (sym commits.state_is) commits.is_run;
          final = ap (option_map (step_at new.state)) (none_due stop commits stops);
          bytes_are = ap (λ l. lines_bytes commits.lines ++ l) (ends ∙ ap end_bytes (at ∙ count));
        }

    -- all lines were written, and the last line as well
    pub all_written : (c : Option (List ℕ)) (n : ℕ) (last : List ℕ) → IsStop s.end new.state stop → new.position ≤ MOST_EVENTS → n ≡ new.position → last ≡ end_bytes n → Appends b c last
        → Writes (IsTrace s) a c
    all_written c n last stops few at ends wrote =
        let all = lines_bytes commits.lines in (all ++ last, appends_more a b c all last commits.takes wrote, trace n last stops few at ends)

    -- there was no memory for the last line
    pub last_refused : Writes (IsTraceStart s) a b
    last_refused = (lines_bytes commits.lines, commits.takes, begun s commits.lines commits.state commits.is_run)

    -- the writer failed over the last line
    pub last_failed : (c : Option (List ℕ)) (n : ℕ) (last : List ℕ) → IsStop s.end new.state stop → new.position ≤ MOST_EVENTS → n ≡ new.position → last ≡ end_bytes n
        → Writes (IsBeginningOf (λ all. all ≡ last)) b c → Writes (IsBeginningOf (IsTraceOrStart s)) a c
    last_failed c n last stops few at ends part =
        let all = lines_bytes commits.lines in
        (all ++ part.0, appends_more a b c all part.0 commits.takes part.1, (part.2.0, subst (IsTraceOrStart s) (ap (λ l. all ++ l) (sym part.2.1) ∙ sym (append_assoc all part.0 part.2.0)) (inl (trace n last stops few at ends))))

-- an engine that stood at a run's beginning was run to the moment by which that ends
pub has_run : (old : EngineValue) (end : ℕ) (r : Result Stop EngineFault) (new : EngineValue) (a b : Option (List ℕ)) → old.net.position ≡ 0 → end ≡ old.net.state.end → RunsTo old.net.state r new.net a b
    → IfOk r (IsStop end new.net.state) → IfErr r (λ fault. fault ≡ engine_CountFull → HasTooMany old.net) → new.failed ≡ is_err r → HasRun old.net.state end r new a b
has_run old end r new a b first ends runs stop full failed =
    let at : old.net ≡ at_first old.net.state = ap (λ n. record { state = old.net.state; position = n }) first in
    record { runs = runs; stop = stop; full = subst (λ (net : Reached). IfErr r (λ fault. fault ≡ engine_CountFull → HasTooMany net)) at full; failed = failed; end_is = sym ends }

-- the last line was written, or there was no memory for it, or the writer failed over it
module _ (s : State) (end events : ℕ) (stop : Stop) (engine : EngineValue) (a b c : Option (List ℕ)) (has : HasRun s end (Ok stop) engine a b) (fits : engine.failed ≡ false → IsRun engine.net) (at : events ≡ engine.net.position) where
  stops : IsStop s.end engine.net.state stop
  stops = subst (λ m. IsStop m engine.net.state stop) (sym has.end_is) has.stop

  few : engine.net.position ≤ MOST_EVENTS
  few = (fits has.failed).position_fits

  last_line : (ended : SessionEnded) → EndsRun (Ok stop) events ended b c → Writes (IsRunOutput s ended) a c
  last_line (Ok u) put = all_written s engine.net a b stop has.runs c events put.0 stops few at put.2 put.1
  last_line (Err NoMemory) put =
      let wrote = last_refused s engine.net a b stop has.runs in
      let same : wrote.0 ≡ wrote.0 ++ put.0 = sym (ap (λ l. wrote.0 ++ l) put.2 ∙ append-nil wrote.0) in
      (wrote.0 ++ put.0, appends_more a b c wrote.0 put.0 wrote.1 put.1, subst (IsTraceStart s) same wrote.2)
  last_line (Err WriteFailed) put = last_failed s engine.net a b stop has.runs c events (end_bytes events) stops few at refl put
  last_line _ put = absurd put.2

-- what a run by windows that was ended has written
pub run_ended : (s : State) (end events : ℕ) (r : Result Stop EngineFault) (engine : EngineValue) (ended : SessionEnded) (a b c : Option (List ℕ)) → HasRun s end r engine a b → (engine.failed ≡ false → IsRun engine.net)
    → events ≡ engine.net.position → EndsRun r events ended b c → Writes (IsRunOutput s ended) a c
run_ended s end events (Ok stop) engine ended a b c has fits at put = last_line s end events stop engine a b c has fits at ended put
run_ended s end events (Err fault) engine ended a b c has fits at put =
    let wrote = engine_failed s fault engine.net a b has.runs has.full in
    subst (λ (x : Option (List ℕ)). Writes (IsRunOutput s ended) a x) (sym put.1) (subst (λ (x : SessionEnded). Writes (IsRunOutput s x) a b) (sym put.0) wrote)

-- what failed of the engine is counted of the writer
pub engine_writes : (fault : EngineFault) (reported : SessionFault) (n m : ℕ) → reported ≡ of_engine fault → m ≡ sink_failures {T = Stop} (Err fault) n → m ≡ writes_after {T = Unit {0}} (Err reported) n
engine_writes fault reported n m is counts = counts ∙ go fault ∙ ap (λ (f : SessionFault). writes_after {T = Unit {0}} (Err f) n) (sym is)
  where
    go : (f : EngineFault) → sink_failures {T = Stop} (Err f) n ≡ writes_after {T = Unit {0}} (Err (of_engine f)) n
    go (Sink written) = refl
    go engine_NoMemory = refl
    go engine_CountFull = refl
    go engine_NoWorker = refl
    go Failed = refl
