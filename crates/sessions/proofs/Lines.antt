-- The lines that a net has made.
use Rattle.std.proofs.Common.{◌≡◌, ◌≢◌, ℕ, ◌+◌, ◌≤◌, suc, List, [], ◌∷◌, ◌++◌, length, refl, sym, ◌∙◌, ap, subst, append_assoc, arith, length-append, Bool, true, Option, None, Some, inl, inr, Ok, Err, Result, ◌⊎◌}
use Rattle.std.proofs.lemmas.List.{append-nil}
use Rattle.std.proofs.lemmas.Grind.{flat_map-append}
use Rattle.std.specs.List.{flat_map, enumerate_from}
use Rattle.std.specs.Option.{option_map, option_and_then}
use Rattle.std.specs.Io.KnownBytes.{Appends}
use Rattle.sim_time.specs.declared.key.Key.{Key}
use Rattle.sim_time.specs.declared.limits.TheConstants.{MOST_EVENTS}
use Rattle.node_core.specs.declared.event.Event.{Event}
use Rattle.net_machine.specs.declared.net.StepFault.{StepFault}
use Rattle.net_machine.specs.declared.net.StepFault.TheVariants.{NoMemory as step_NoMemory, CountFull as step_CountFull}
use Rattle.table_run.specs.State.{State, due, run, step, step_at, one_step_more}
use Rattle.net_machine.specs.Run.{Reached, Stepped}
use Rattle.net_watch.specs.declared.run_end.RunEnd.{RunEnd}
use Rattle.net_watch.specs.declared.run_end.RunEnd.TheVariants.{Done}
use Rattle.net_watch.specs.Watched.{IsStepFault, IsRunEnd, goes_on}
use Rattle.node_core.specs.TraceLine.{TraceLine}
use Rattle.trace_text.specs.Line.{line_bytes}
use Rattle.trace_text.specs.End.{end_bytes}
use Rattle.window_text.proofs.Bytes.{appends_nothing, appends_more}
use Rattle.sessions.specs.Trace.{lines_bytes, IsTrace, IsTraceStart, IsTooLong, IsTraceOrStart}
use Rattle.sessions.specs.declared.fault.SessionFault.{SessionFault}
use Rattle.sessions.specs.declared.fault.SessionFault.TheVariants.{WriteFailed, NoMemory, CountFull, NoWorker}
use Rattle.sessions.specs.Faults.{of_step}
use Rattle.sessions.specs.Ended.{SessionEnded, IsRunOutput, writes_after}
use Rattle.sessions.specs.Written.{Writes, WritesBefore, IsBeginningOf}
use Rattle.sessions.specs.Traced.{IsAt, Made, HasEnded, IsPut}
use Rattle.command_line.proofs.Options.{some_none}

enumerate_from-append : (k : ℕ) (xs : List TraceLine) (x : TraceLine) → enumerate_from k (xs ++ x ∷ []) ≡ enumerate_from k xs ++ (k + length xs, x) ∷ []
enumerate_from-append k [] x = let e : k ≡ k + 0 = omega arith in ap (λ n. (n, x) ∷ []) e
enumerate_from-append k (y ∷ ys) x =
    let e : k + 1 + length ys ≡ k + suc (length ys) = omega arith in
    ap (λ zs. (k, y) ∷ zs) (enumerate_from-append (k + 1) ys x ∙ ap (λ n. enumerate_from (k + 1) ys ++ (n, x) ∷ []) e)

-- one line more has the next number
pub lines_bytes-more : (xs : List TraceLine) (x : TraceLine) (n : ℕ) → n ≡ length xs + 1 → lines_bytes (xs ++ x ∷ []) ≡ lines_bytes xs ++ line_bytes n x
lines_bytes-more xs x n h =
    let f : ℕ × TraceLine → List ℕ = λ p. line_bytes p.0 p.1 in
    let e : 1 + length xs ≡ n = omega (arith, h) in
    ap (flat_map f) (enumerate_from-append 1 xs x) ∙ flat_map-append f (enumerate_from 1 xs) ((1 + length xs, x) ∷ [])
    ∙ ap (λ k. flat_map f (enumerate_from 1 xs) ++ (line_bytes k x ++ [])) e ∙ ap (λ l. flat_map f (enumerate_from 1 xs) ++ l) (append-nil (line_bytes n x))

-- the run, one event on
run-suc : (s t u : State) (n : ℕ) (lines : List TraceLine) (x : TraceLine) → run s n ≡ Some (lines, t) → step t ≡ Some (x, u) → run s (suc n) ≡ Some (lines ++ x ∷ [], u)
run-suc s t u n lines x h k =
    ap (option_and_then one_step_more) h ∙ ap (option_map (λ (next : TraceLine × State). (lines ++ next.0 ∷ [], next.1))) k

-- the net made a step, and its line was added
pub at_next : (s : State) (old new : Reached) (made : List ℕ) (x : TraceLine) → IsAt s old made → Stepped old (Some x) new → IsAt s new (made ++ line_bytes new.position x)
at_next s old new made x at h =
    let e : new.position ≡ suc old.position = omega (arith, h.1) in
    record {
      lines = at.lines ++ x ∷ [];
      is_run = let P : ℕ → Type 0 = λ n. run s n ≡ Some (at.lines ++ x ∷ [], new.state) in subst P (sym e) (run-suc s old.state new.state old.position at.lines x at.is_run h.0);
      as_many = length-append at.lines (x ∷ []) ∙ omega (arith, at.as_many, h.1);
      made_are = ap (λ l. l ++ line_bytes new.position x) at.made_are ∙ sym (lines_bytes-more at.lines x new.position (omega (arith, at.as_many, h.1)));
    }

pub start_of : (s : State) (net : Reached) (made : List ℕ) → IsAt s net made → IsTraceStart s made
start_of s net made at = record { n = net.position; lines = at.lines; last = net.state; is_run = at.is_run; bytes_are = at.made_are }

pub trace_of : (s : State) (net : Reached) (made : List ℕ) → IsAt s net made → net.position ≤ MOST_EVENTS → step net.state ≡ None → IsTrace s (made ++ end_bytes net.position)
trace_of s net made at few last =
    record { n = net.position; few = few; lines = at.lines; last = net.state; is_run = at.is_run; final = last; bytes_are = ap (λ l. l ++ end_bytes net.position) at.made_are }

-- where an event is due, a step is possible
pub due_steps : (s : State) → due s ≢ None → step s ≢ None
due_steps s more = go (due s) more
  where
    go : (d : Option (Key × Event)) → d ≢ None → option_map (step_at s) d ≢ None
    go None h e = h refl
    go (Some entry) h e = absurd (some_none (step_at s entry) e)

full_of : (s : State) (net : Reached) (made : List ℕ) → IsAt s net made → net.position ≡ MOST_EVENTS → due net.state ≢ None → IsTooLong s
full_of s net made at full more = record { lines = at.lines; last = net.state; is_run = let P : ℕ → Type 0 = λ n. run s n ≡ Some (at.lines, net.state) in subst P full at.is_run; one_due = more }

-- a line more, with its number as the code has it
pub made_line : (s : State) (old new : Reached) (page page' : List ℕ) (x : TraceLine) (n : ℕ) (a b : Option (List ℕ)) → Made s old page a b → Stepped old (Some x) new → n ≡ new.position
    → page' ≡ page ++ line_bytes n x → Made s new page' a b
made_line s old new page page' x n a b made h count e =
    let P : List ℕ → Type 0 = IsAt s new in
    let same : (made.0 ++ page) ++ line_bytes new.position x ≡ made.0 ++ page' = append_assoc made.0 page (line_bytes new.position x) ∙ ap (λ l. made.0 ++ l) (sym (e ∙ ap (λ k. page ++ line_bytes k x) count)) in
    (made.0, made.1, subst P same (at_next s old new (made.0 ++ page) x made.2 h))

-- a part of the page was written
pub made_moved : (s : State) (net : Reached) (page page' : List ℕ) (a b c : Option (List ℕ)) → Made s net page a b → WritesBefore page' (λ all. all ≡ page) b c → Made s net page' a c
made_moved s net page page' a b c made moved =
    let P : List ℕ → Type 0 = IsAt s net in
    let same : made.0 ++ page ≡ (made.0 ++ moved.0) ++ page' = ap (λ l. made.0 ++ l) (sym moved.2) ∙ sym (append_assoc made.0 moved.0 page') in
    (made.0 ++ moved.0, appends_more a b c made.0 moved.0 made.1 moved.1, subst P same made.2)

-- the lines so far are the trace's first ones
pub made_so_far : (s : State) (net : Reached) (page page' : List ℕ) (a b : Option (List ℕ)) → Made s net page a b → page' ≡ page → WritesBefore page' (IsTraceStart s) a b
made_so_far s net page page' a b made e =
    let P : List ℕ → Type 0 = λ l. WritesBefore l (IsTraceStart s) a b in
    subst P (sym e) (made.0, made.1, start_of s net (made.0 ++ page) made.2)

-- no event is due, and the last line was added, with its number as the code has it
pub made_all : (s : State) (net : Reached) (page page' : List ℕ) (n : ℕ) (a b : Option (List ℕ)) → Made s net page a b → net.position ≤ MOST_EVENTS → due net.state ≡ None → n ≡ net.position → page' ≡ page ++ end_bytes n
    → WritesBefore page' (IsTrace s) a b
made_all s net page page' n a b made few none count e =
    let P : List ℕ → Type 0 = IsTrace s in
    let same : (made.0 ++ page) ++ end_bytes net.position ≡ made.0 ++ page' = append_assoc made.0 page (end_bytes net.position) ∙ ap (λ l. made.0 ++ l) (sym (e ∙ ap (λ k. page ++ end_bytes k) count)) in
    (made.0, made.1, subst P same (trace_of s net (made.0 ++ page) made.2 few (ap (option_map (step_at net.state)) none)))

-- no event was run, and the lines so far wait
pub made_refused : (s : State) (net : Reached) (page : List ℕ) (fault : StepFault) (a b : Option (List ℕ)) → Made s net page a b → IsStepFault net fault → WritesBefore page (IsRunOutput s (Err (of_step fault))) a b
made_refused s net page step_NoMemory a b made stops = (made.0, made.1, start_of s net (made.0 ++ page) made.2)
made_refused s net page step_CountFull a b made stops = (made.0, made.1, (full_of s net (made.0 ++ page) made.2 stops.1 stops.0, start_of s net (made.0 ++ page) made.2))

-- bytes of this kind were to be written, and the writer failed
pub begun : (P Q : List ℕ → Type 0) (page : List ℕ) (a b c : Option (List ℕ)) → ((l : List ℕ) → P l → Q l) → WritesBefore page P a b → Writes (IsBeginningOf (λ all. all ≡ page)) b c
    → Writes (IsBeginningOf Q) a c
begun P Q page a b c weaken made part =
    let same : made.0 ++ page ≡ (made.0 ++ part.0) ++ part.2.0 = ap (λ l. made.0 ++ l) (sym part.2.1) ∙ sym (append_assoc made.0 part.0 part.2.0) in
    (made.0 ++ part.0, appends_more a b c made.0 part.0 made.1 part.1, (part.2.0, subst Q same (weaken (made.0 ++ page) made.2)))

-- all was written
pub written : (P : List ℕ → Type 0) (page : List ℕ) (a b c : Option (List ℕ)) → WritesBefore page P a b → Appends b c page → Writes P a c
written P page a b c made h = (made.0 ++ page, appends_more a b c made.0 page made.1 h, made.2)

-- memory was refused before the first event
pub nothing_made : (s : State) (ended : SessionEnded) (known : Option (List ℕ)) → ended ≡ Err NoMemory → Writes (IsRunOutput s ended) known known
nothing_made s ended known is =
    let P : SessionEnded → Type 0 = λ e. Writes (IsRunOutput s e) known known in
    subst P (sym is) ([], appends_nothing known, record { n = 0; lines = []; last = s; is_run = refl; bytes_are = refl })

-- the line could not be added
pub line_written : (s : State) (net : Reached) (page : List ℕ) (a b c : Option (List ℕ)) → Made s net page a b → Writes (IsBeginningOf (λ all. all ≡ page)) b c → Writes (IsBeginningOf (IsTraceOrStart s)) a c
line_written s net page a b c made part = begun (IsAt s net) (IsTraceOrStart s) page a b c (λ l at. inr (start_of s net l at)) made part

-- but for a writer that failed, a run has written a trace or its first lines
trace_or_start : (r : SessionEnded) (s : State) (out : List ℕ) → r ≢ Err WriteFailed → IsRunOutput s r out → IsTraceOrStart s out
trace_or_start (Ok u) s out other made = inl made
trace_or_start (Err NoMemory) s out other made = inr made
trace_or_start (Err NoWorker) s out other made = inr made
trace_or_start (Err CountFull) s out other made = inr made.1
trace_or_start (Err WriteFailed) s out other made = absurd (other refl)
trace_or_start _ s out other made = absurd made

-- the run ended, and the writer failed at the page
pub page_failed : (r : SessionEnded) (s : State) (page : List ℕ) (a b c : Option (List ℕ)) → r ≢ Err WriteFailed → WritesBefore page (IsRunOutput s r) a b → Writes (IsBeginningOf (λ all. all ≡ page)) b c
    → Writes (IsBeginningOf (IsTraceOrStart s)) a c
page_failed r s page a b c other made part = begun (IsRunOutput s r) (IsTraceOrStart s) page a b c (λ l. trace_or_start r s l other) made part

ok_not_failed : ◌≡◌ {A = SessionEnded} (Ok tt) (Err WriteFailed) → ⊥
ok_not_failed e = cc

pub memory_not_failed : ◌≡◌ {A = SessionEnded} (Err NoMemory) (Err WriteFailed) → ⊥
memory_not_failed e = cc

step_not_failed : (fault : StepFault) → ◌≡◌ {A = SessionEnded} (Err (of_step fault)) (Err WriteFailed) → ⊥
step_not_failed step_NoMemory e = cc
step_not_failed step_CountFull e = cc

no_write_failed : (fault : StepFault) (n : ℕ) → writes_after {T = Unit {0}} (Err (of_step fault)) n ≡ n
no_write_failed step_NoMemory n = refl
no_write_failed step_CountFull n = refl

-- by what a run's end says, and what was put by then
module _ (s : State) (from net : Reached) (page : List ℕ) (a b : Option (List ℕ)) (f g : ℕ) (refused : Bool) (end : Result RunEnd StepFault) (stops : IsRunEnd (⊥ ⊎ ⊥) from net end) (put : IsPut s net page a b f g refused (goes_on end)) where
  all_put : goes_on end ≡ true → Made s net page a b × (g ≡ f)
  all_put on = subst (IsPut s net page a b f g refused) on put

  -- the last line was added, with its number as the code has it
  pub done : (page' : List ℕ) (n : ℕ) → end ≡ Ok Done → net.position ≤ MOST_EVENTS → n ≡ net.position → page' ≡ page ++ end_bytes n → HasEnded s page' a b f g (Ok tt)
  done page' n is few count e =
      let so = all_put (ap goes_on is) in
      record {
        made = λ _. made_all s net page page' n a b so.0 few (subst (IsRunEnd (⊥ ⊎ ⊥) from net) is stops) count e;
        failed_then = λ failed. absurd (ok_not_failed failed);
        failures_are = so.1;
      }

  -- or it was not
  pub done_short : (page' : List ℕ) → end ≡ Ok Done → page' ≡ page → HasEnded s page' a b f g (Err NoMemory)
  done_short page' is e =
      let so = all_put (ap goes_on is) in
      record { made = λ _. made_so_far s net page page' a b so.0 e; failed_then = λ failed. absurd (memory_not_failed failed); failures_are = so.1 }

  -- no event was run
  pub no_step : (fault : StepFault) (reported : SessionFault) → end ≡ Err fault → reported ≡ of_step fault → HasEnded s page a b f g (Err reported)
  no_step fault reported is same =
      let so = all_put (ap goes_on is) in
      subst (λ (e : SessionFault). HasEnded s page a b f g (Err e)) (sym same)
      (record {
        made = λ _. made_refused s net page fault a b so.0 (subst (IsRunEnd (⊥ ⊎ ⊥) from net) is stops);
        failed_then = λ failed. absurd (step_not_failed fault failed);
        failures_are = so.1 ∙ sym (no_write_failed fault f);
      })
