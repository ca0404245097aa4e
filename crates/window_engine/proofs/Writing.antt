-- What windows that are written leave, one after another.
use Rattle.std.proofs.Common.{◌≡◌, ◌≤◌, ◌<◌, ◌+◌, ◌*◌, ◌^◌, ℕ, List, [], ◌∷◌, ◌++◌, length, take, Option, Some, Ok, Err, refl, sym, ap, subst, ◌∙◌, arith, length-append}
use Rattle.std.specs.Io.KnownBytes.{Appends}
use Rattle.sim_time.specs.declared.limits.TheConstants.{MOST_EVENTS}
use Rattle.node_core.specs.TraceLine.{TraceLine}
use Rattle.table_run.specs.State.{State, run}
use Rattle.table_run.proofs.Runs.{run_add}
use Rattle.net_machine.specs.Run.{Reached}
use Rattle.window_core.specs.Batches.{BatchValue}
use Rattle.window_engine.specs.declared.fault.EngineFault.{EngineFault}
use Rattle.window_engine.specs.declared.fault.EngineFault.TheVariants.{NoMemory, CountFull, NoWorker, Sink, Failed}
use Rattle.window_core.specs.Windows.{AreBelow}
use Rattle.window_engine.specs.Outcomes.{IsOfRun, IsOfWorkers, as_engine_fault}
use Rattle.window_workers.specs.declared.fault.WorkersFault.TheVariants as below
use Rattle.window_text.specs.Puts.{TakesFirst}
use Rattle.window_text.specs.Text.{text_from}
use Rattle.window_engine.specs.Engines.{GoesOn, Commits, SinkTakes, sink_failures}
use Rattle.window_engine.specs.declared.run_state.WriteFault.{WriteFault}
use Rattle.window_engine.specs.declared.run_state.WriteFault.TheVariants.{Workers, Sink as Failing}
use Rattle.window_engine.specs.RunStates.{CanTell, Wrote, WroteFirst, WroteTo, Broke, reported_as, fails_after}
use Rattle.window_text.proofs.Bytes.{appends_nothing, appends_more, take_past}
use Rattle.window_text.proofs.Numbered.{text_both}
use Rattle.window_engine.proofs.Whole.{below_later, below_more, whole_none, whole_more}

-- nothing was written yet
pub wrote_none : (until : ℕ) (net : Reached) (known : Option (List ℕ)) → Wrote until net net 0 known known
wrote_none until net known = record { lines = []; early = tt; is_run = refl; whole = whole_none net.state; position_is = omega arith; takes = appends_nothing known; count_is = refl; short = omega arith }

-- the text of a batch
pub batch_text_is : (old new : Reached) (batch : BatchValue) (text : List ℕ) → GoesOn old batch new → text ≡ text_from batch.first batch.lines → text ≡ text_from (old.position + 1) batch.lines
batch_text_is old new batch text gone is = is ∙ ap (λ n. text_from n batch.lines) gone.first

short_text : (first : ℕ) (lines : List TraceLine) (text : List ℕ) → text ≡ text_from first lines → length text < 2 ^ 71 → length text ≤ length lines * 2 ^ 71
short_text first [] text is small = let e : length text ≡ 0 = ap length is in omega (arith, e)
short_text first (l ∷ lines) text is small = omega (arith, small)

-- a window's text was taken
pub wrote_batch : (until : ℕ) (old new : Reached) (count : ℕ) (batch : BatchValue) (text : List ℕ) (a b : Option (List ℕ)) → AreBelow until batch.lines → GoesOn old batch new → text ≡ text_from batch.first batch.lines → count ≡ length text → count < 2 ^ 71 → Appends a b text
    → Wrote until old new count a b
wrote_batch until old new count batch text a b early gone is many small took =
    let same = batch_text_is old new batch text gone is in
    record {
      lines = batch.lines;
      early = early;
      is_run = gone.is_run;
      whole = gone.whole;
      position_is = gone.position;
      takes = subst (Appends a b) same took;
      count_is = many ∙ ap length same;
      short = (let s = short_text (old.position + 1) batch.lines text same (omega (arith, many, small)) in omega (arith, many, s));
    }

-- the first bytes of a window's text were taken
pub broke_batch : (until : ℕ) (old new : Reached) (position count : ℕ) (batch : BatchValue) (text : List ℕ) (a b : Option (List ℕ)) → AreBelow until batch.lines → GoesOn old batch new → position ≡ new.position → text ≡ text_from batch.first batch.lines
    → TakesFirst count text a b → count < 2 ^ 71 → WroteFirst until old position count a b
broke_batch until old new position count batch text a b early gone at is took few =
    let same = batch_text_is old new batch text gone is in
    record {
      lines = batch.lines;
      early = early;
      state = new.state;
      is_run = gone.is_run;
      whole = gone.whole;
      position_is = at ∙ gone.position;
      takes = subst (λ l. TakesFirst count l a b) same took;
      few = few;
    }

-- lines of the run, and then more
pub run_more : (s t u : State) (xs ys : List TraceLine) → run s (length xs) ≡ Some (xs, t) → run t (length ys) ≡ Some (ys, u) → run s (length (xs ++ ys)) ≡ Some (xs ++ ys, u)
run_more s t u xs ys e f = ap (run s) (length-append xs ys) ∙ run_add s t u (length xs) (length ys) xs ys e f

pub text_more : (from to : Reached) (xs ys : List TraceLine) → to.position ≡ from.position + length xs → text_from (from.position + 1) (xs ++ ys) ≡ text_from (from.position + 1) xs ++ text_from (to.position + 1) ys
text_more from to xs ys e =
    let n : from.position + 1 + length xs ≡ to.position + 1 = omega (arith, e) in
    text_both (from.position + 1) xs ys ∙ ap (λ k. text_from (from.position + 1) xs ++ text_from k ys) n

-- a window more was written
pub wrote_more : (until : ℕ) (from mid to : Reached) (n m : ℕ) (a b c : Option (List ℕ)) → Wrote until from mid n a b → Wrote until mid to m b c → Wrote until from to (n + m) a c
wrote_more until from mid to n m a b c w x =
    let text = text_more from mid w.lines x.lines w.position_is in
    record {
      lines = w.lines ++ x.lines;
      early = below_more until w.lines x.lines w.early x.early;
      is_run = run_more from.state mid.state to.state w.lines x.lines w.is_run x.is_run;
      whole = whole_more mid.state to.state w.lines x.lines x.is_run w.whole x.whole;
      position_is = (let p = w.position_is in let q = x.position_is in omega (arith, p, q, length-append w.lines x.lines));
      takes = subst (Appends a c) (sym text) (appends_more a b c _ _ w.takes x.takes);
      count_is = (let p = w.count_is in let q = x.count_is in omega (arith, p, q, ap length text, length-append (text_from (from.position + 1) w.lines) (text_from (mid.position + 1) x.lines)));
      short = (let p = w.short in let q = x.short in omega (arith, p, q, length-append w.lines x.lines));
    }

-- the windows so far, where the call ends with no fault
pub committed : {T : Type 0} (until : ℕ) (from to new : Reached) (n : ℕ) (a b : Option (List ℕ)) (answer : T) → Wrote until from to n a b → new.position ≡ to.position → new.state ≡ to.state
    → Commits {T = T} until from (Ok answer) new a b
committed until from to new n a b answer w at same = record { lines = w.lines; state = to.state; is_run = w.is_run; whole = w.whole; early = w.early; position_is = at ∙ w.position_is; state_is = same; takes = w.takes }

takes_all : (T : Type 0) (workers : ℕ) (fault : EngineFault) (text : List ℕ) (a b : Option (List ℕ)) → IsOfWorkers workers fault → Appends a b text → SinkTakes {T = T} (Err fault) text a b
takes_all T workers NoMemory text a b is took = took
takes_all T workers CountFull text a b is took = took
takes_all T workers NoWorker text a b is took = absurd is
takes_all T workers Failed text a b is took = took
takes_all T workers (Sink written) text a b is took = absurd is

-- where workers failed after the windows so far, and after those that were written since
pub stopped : {T : Type 0} (workers until : ℕ) (from to : Reached) (n : ℕ) (new : Reached) (a b c : Option (List ℕ)) (fault : EngineFault) → Wrote until from to n a b → WroteTo until to new.position b c → IsOfWorkers workers fault
    → Commits {T = T} until from (Err fault) new a c
stopped {T} workers until from to n new a b c fault w x is =
    let all = wrote_more until from to x.new n x.count a b c w x.wrote in
    record {
      lines = all.lines;
      state = x.new.state;
      is_run = all.is_run;
      whole = all.whole;
      early = all.early;
      position_is = x.position_is ∙ all.position_is;
      state_is = tt;
      takes = takes_all T workers fault _ a c is all.takes;
    }

-- where workers failed, and nothing was written since
pub wrote_no_more : (until : ℕ) (net : Reached) (position : ℕ) (a : Option (List ℕ)) → position ≡ net.position → WroteTo until net position a a
wrote_no_more until net position a at = record { new = net; count = 0; wrote = wrote_none until net a; position_is = at }

-- where the sink failed in the next window's text
pub failed : {T : Type 0} (until : ℕ) (from to : Reached) (n count : ℕ) (new : Reached) (a b c : Option (List ℕ)) → Wrote until from to n a b → WroteFirst until to new.position count b c
    → Commits {T = T} until from (Err (Sink (n + count))) new a c
failed until from to n count new a b c w x =
    let text = text_more from to w.lines x.lines w.position_is in
    let mine = text_from (from.position + 1) w.lines in
    let rest = text_from (to.position + 1) x.lines in
    record {
      lines = w.lines ++ x.lines;
      state = x.state;
      early = below_more until w.lines x.lines w.early x.early;
      is_run = run_more from.state to.state x.state w.lines x.lines w.is_run x.is_run;
      whole = whole_more to.state x.state w.lines x.lines x.is_run w.whole x.whole;
      position_is = (let p = w.position_is in let q = x.position_is in omega (arith, p, q, length-append w.lines x.lines));
      state_is = tt;
      takes = (
        (let p = w.count_is in let q = x.takes.0 in omega (arith, p, q, ap length text, length-append mine rest)),
        subst (Appends a c) (sym (ap (take (n + count)) text ∙ ap (λ k. take (k + count) (mine ++ rest)) w.count_is ∙ take_past count mine rest)) (appends_more a b c mine (take count rest) w.takes x.takes.1),
      );
    }

-- where the next window wasn't written
pub ended : {T : Type 0} (workers until : ℕ) (from to : Reached) (n : ℕ) (new : Reached) (a b c : Option (List ℕ)) (fault : WriteFault) → Wrote until from to n a b → Broke workers until to new.position b c fault
    → Commits {T = T} until from (Err (reported_as n fault)) new a c
ended {T} workers until from to n new a b c (Workers fault) w broke = stopped {T = T} workers until from to n new a b c (as_engine_fault fault) w broke.0 broke.1
ended {T} workers until from to n new a b c (Failing count) w broke = failed {T = T} until from to n count new a b c w broke

-- what was written below a moment is below a later one
pub wrote_later : (a b : ℕ) (old new : Reached) (n : ℕ) (x y : Option (List ℕ)) → a ≤ b → Wrote a old new n x y → Wrote b old new n x y
wrote_later a b old new n x y upto w =
    record { lines = w.lines; early = below_later a b w.lines upto w.early; is_run = w.is_run; whole = w.whole; position_is = w.position_is; takes = w.takes; count_is = w.count_is; short = w.short }

-- a fault of some workers is one of more
pub of_more : (v w : ℕ) (fault : EngineFault) → v ≤ w → IsOfWorkers v fault → IsOfWorkers w fault
of_more v w NoMemory few is = tt
of_more v w CountFull few is = tt
of_more v w NoWorker few is = is
of_more v w Failed few is = omega (arith, few, is)
of_more v w (Sink written) few is = is

-- what a fault leaves below a moment, of some workers, is what it may leave below a later one, of more
pub broke_later : (v w a b : ℕ) (from : Reached) (at : ℕ) (x y : Option (List ℕ)) (fault : WriteFault) → v ≤ w → a ≤ b → Broke v a from at x y fault → Broke w b from at x y fault
broke_later v w a b from at x y (Workers fault) few upto broke =
    let to = broke.0 in
    (record { new = to.new; count = to.count; wrote = wrote_later a b from to.new to.count x y upto to.wrote; position_is = to.position_is }, of_more v w (as_engine_fault fault) few broke.1)
broke_later v w a b from at x y (Failing count) few upto broke =
    record { lines = broke.lines; early = below_later a b broke.lines upto broke.early; state = broke.state; is_run = broke.is_run; whole = broke.whole; position_is = broke.position_is; takes = broke.takes; few = broke.few }

of_run : (workers : ℕ) (fault : EngineFault) → IsOfWorkers workers fault → IsOfRun workers fault
of_run workers NoMemory is = tt
of_run workers CountFull is = tt
of_run workers NoWorker is = is
of_run workers Failed is = is
of_run workers (Sink written) is = tt

-- the fault that is told is of the workers or of the sink
pub reported_of : (workers until n : ℕ) (from : Reached) (at : ℕ) (x y : Option (List ℕ)) (fault : WriteFault) → Broke workers until from at x y fault → IsOfRun workers (reported_as n fault)
reported_of workers until n from at x y (Workers fault) broke = of_run workers (as_engine_fault fault) broke.1
reported_of workers until n from at x y (Failing count) broke = tt

-- a failure is counted once
pub fails_reported : (T U : Type 0) (workers until written n : ℕ) (fault : WriteFault) (old new : Option (List ℕ)) (from : Reached) (at : ℕ) → Broke workers until from at old new fault
    → fails_after {T = U} (Err fault) n ≡ sink_failures {T = T} (Err (reported_as written fault)) n
fails_reported T U workers until written n (Workers below.NoMemory) old new from at broke = refl
fails_reported T U workers until written n (Workers below.CountFull) old new from at broke = refl
fails_reported T U workers until written n (Workers below.Failed) old new from at broke = refl
fails_reported T U workers until written n (Failing count) old new from at broke = refl

can_tell_of : (workers until : ℕ) (from : Reached) (at n : ℕ) (fault : WriteFault) (old new : Option (List ℕ)) → Broke workers until from at old new fault → n < 2 ^ 127 → CanTell n fault
can_tell_of workers until from at n (Workers fault) old new broke small = tt
can_tell_of workers until from at n (Failing count) old new broke small = let few = broke.few in omega (arith, few, small)

-- the bytes so far can be counted
fits : (until : ℕ) (from to : Reached) (n : ℕ) (a b : Option (List ℕ)) → Wrote until from to n a b → to.position ≤ MOST_EVENTS → n < 2 ^ 127
fits until from to n a b w few =
    let p = w.position_is in let q = w.short in
    let lines : length w.lines ≤ MOST_EVENTS = omega (arith, p, few) in
    omega (arith, q, lines)

-- and with them those of a window that was not written whole
pub can_tell : (workers until : ℕ) (from to : Reached) (n at : ℕ) (a b c : Option (List ℕ)) (fault : WriteFault) → Wrote until from to n a b → to.position ≤ MOST_EVENTS → Broke workers until to at b c fault → CanTell n fault
can_tell workers until from to n at a b c fault w few broke = can_tell_of workers until to at n fault b c broke (fits until from to n a b w few)

-- and with them those of a window more
pub still_fits : (until : ℕ) (from to : Reached) (n m : ℕ) (a b c : Option (List ℕ)) (mid : Reached) → Wrote until from mid n a b → mid.position ≤ MOST_EVENTS → Wrote until mid to m b c → to.position ≤ MOST_EVENTS → n + m < 2 ^ 128
still_fits until from to n m a b c mid w few x later = let p = fits until from mid n a b w few in let q = fits until mid to m b c x later in omega (arith, p, q)
