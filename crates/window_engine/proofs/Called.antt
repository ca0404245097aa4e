-- A call of windows: what a window more leaves of it, and how it ends.
use Rattle.std.proofs.Common.{◌≡◌, ◌≤◌, ◌<◌, ◌+◌, ◌^◌, ℕ, List, [], length, Option, None, Ok, Err, refl, sym, ap, subst, ◌∙◌, arith}
use Rattle.std.specs.Io.KnownBytes.{Appends}
use Rattle.sim_time.specs.declared.limits.TheConstants.{MOST_EVENTS}
use Rattle.net_machine.specs.Run.{Reached}
use Rattle.window_core.specs.Full.{HasTooMany}
use Rattle.window_core.specs.Partition.{groups_of}
use Rattle.window_core.specs.Sheaves.{SheafValue, merged}
use Rattle.window_core.specs.Window.{WindowValue}
use Rattle.window_core.specs.Windows.{AreBelow}
use Rattle.window_engine.specs.declared.run_state.RunState.{RunState}
use Rattle.window_engine.specs.declared.run_state.WriteFault.{WriteFault}
use Rattle.window_engine.specs.declared.run_state.WriteFault.TheVariants.{Workers, Sink as Failing}
use Rattle.window_engine.specs.declared.fault.EngineFault.TheVariants.{NoMemory, Sink as SinkFailed}
use Rattle.window_workers.specs.declared.fault.WorkersFault.TheVariants as below
use Rattle.window_workers.specs.declared.fault.WorkersFault.{WorkersFault}
use Rattle.window_workers.specs.WindowOutcomes.{IsWorkersFault}
use Rattle.window_engine.specs.declared.fault.Stop.{Stop}
use Rattle.window_text.specs.declared.pending_text.PendingText.{PendingText}
use Rattle.window_engine.specs.RunStates.{AtRest, AwaitsSink, HasGroups, IsBehind, IsOwing, IsWriting, HasEnded, Broke, CanTell, WindowsRest, Wrote, fails_after, reported_as}
use Rattle.window_workers.specs.Edges.{IsAtEdge, edge_of, reached_in}
use Rattle.window_engine.specs.Engines.{IsStop}
use Rattle.window_text.specs.Failures.{counted}
use Rattle.window_engine.specs.Outcomes.{as_engine_fault}
use Rattle.window_text.specs.Parts.{text_of}
use Rattle.window_text.specs.Puts.{TakesFirst}
use Rattle.window_text.specs.Text.{text_from}
use Rattle.window_engine.proofs.Grouped.{groups_kept}
use Rattle.window_engine.proofs.TooMany.{full_of, of_workers, reported_full, workers_full}
use Rattle.window_engine.proofs.Unwritten.{all_committed, behind_by_none, few_before, full_before, wrote_to_edge}
use Rattle.window_workers.proofs.NoLine.{no_line}
use Rattle.window_workers.proofs.Pending.{ready_nothing}
use Rattle.window_engine.proofs.Writing.{broke_batch, can_tell, committed, ended, fails_reported, still_fits, reported_of, wrote_batch, wrote_more, wrote_no_more, wrote_none}

-- before the first window
pub at_first : (until : ℕ) (c : RunState) (known : Option (List ℕ)) → AtRest c → HasGroups c → WindowsRest until c c 0 known known
at_first until c known rest has = record { rest = rest; has = has; wrote = wrote_none until (reached_in c.window) known; groups = refl; ahead = refl }

module _ (until : ℕ) (began c : RunState) (s : SheafValue) (written : ℕ) (known now : Option (List ℕ)) (r : WindowsRest until began c written known now) (none : s ≡ record { first = c.position + 1; lists = [] }) where
  -- windows begin
  pub begun : IsWriting until began (record c { sheaf = s }) written known now
  begun = record {
    net = reached_in c.window;
    behind = behind_by_none c s r.rest none;
    wrote = r.wrote;
    early = subst (AreBelow until) (sym (no_line s (c.position + 1) none)) tt;
    has = groups_kept c s r.has;
    groups = r.groups;
    ahead = r.ahead;
  }

  -- and nothing is owed
  pub begun_owing : IsOwing until began (record c { sheaf = s }) [] 0 written known now
  begun_owing =
      let empty = no_line s (c.position + 1) none in
      record {
        was = record c { sheaf = s };
        writing = begun;
        text_is = ap (text_from s.first) (sym empty);
        lines_are = ap length (sym empty);
        behind = (let at : c.position ≡ c.position + 0 = omega arith in subst (λ (n : ℕ). IsBehind (reached_in c.window) (record c { sheaf = s; position = n })) at (behind_by_none c s r.rest none));
        committed = refl;
        early = begun.early;
        has = begun.has;
        groups = refl;
        ahead = refl;
      }

-- a text of no line is owed
pub awaits_nothing : (until : ℕ) (began c : RunState) (pending_text : PendingText) (written : ℕ) (known now : Option (List ℕ)) (f g : ℕ) → IsOwing until began c [] 0 written known now → pending_text.text.places.items ≡ [] → pending_text.lines ≡ 0 → pending_text.put ≡ None → g ≡ f
    → AwaitsSink until began c pending_text written known now f g
awaits_nothing until began c pending_text written known now f g o empty lines waits same = record {
  owing =
      subst (λ (t : List ℕ). IsOwing until began c t pending_text.lines written known now) (sym (ap (text_of pending_text.text.formatters.items) empty))
      (subst (λ (n : ℕ). IsOwing until began c [] n written known now) (sym lines) o);
  ready = ready_nothing pending_text.text empty;
  waits = waits;
  failures_are = same;
}

-- where there is no memory for a first one
pub not_begun : (workers until : ℕ) (c : RunState) (known : Option (List ℕ)) (failures : ℕ) → AtRest c → HasEnded workers until c c (Err NoMemory) known known failures failures
not_begun workers until c known failures rest =
    let net = reached_in c.window in
    record {
      rest = tt;
      has = tt;
      commits = ended workers until net net 0 (record { state = edge_of c.window; position = c.position }) known known known (Workers below.NoMemory) (wrote_none until net known) (wrote_no_more until net c.position known rest.committed, tt);
      stop = tt;
      fault = (tt, λ is. absurd (cc));
      failures_are = refl;
      groups = refl;
      ahead = refl;
    }

-- a call has written so much, and ends by a fault in what follows
pub broken_at : (workers until : ℕ) (began new : RunState) (net : Reached) (written : ℕ) (known now later : Option (List ℕ)) (fault : WriteFault) (f g h : ℕ) → Wrote until (reached_in began.window) net written known now → net.position ≤ MOST_EVENTS
    → Broke workers until net new.position now later fault → (fault ≡ Workers below.CountFull → HasTooMany net) → g ≡ f → h ≡ fails_after {T = ℕ} (Err fault) g → new.groups ≡ began.groups → new.ahead ≡ began.ahead
    → HasEnded workers until began new (Err (reported_as written fault)) known later f h
broken_at workers until began new net written known now later fault f g h wrote few broke full same fails groups ahead =
    let from = reached_in began.window in
    record {
      rest = tt;
      has = tt;
      commits = ended workers until from net written (record { state = edge_of new.window; position = new.position }) known now later fault wrote broke;
      stop = tt;
      fault = (reported_of workers until written net new.position now later fault broke, reported_full until from net written written known now fault wrote few full);
      failures_are = fails ∙ ap (λ n. fails_after {T = ℕ} (Err fault) n) same ∙ fails_reported Stop ℕ workers until written f fault now later net new.position broke;
      groups = groups;
      ahead = ahead;
    }

-- a call ends where nothing is left to write
pub rested : (workers until : ℕ) (began c : RunState) (written : ℕ) (known now : Option (List ℕ)) (f g : ℕ) (stop : Stop) → WindowsRest until began c written known now → g ≡ f → IsStop until (edge_of c.window) stop → HasEnded workers until began c (Ok stop) known now f g
rested workers until began c written known now f g stop r same stops = record {
  rest = r.rest;
  has = r.has;
  commits = committed until (reached_in began.window) (reached_in c.window) (record { state = edge_of c.window; position = c.position }) written known now stop r.wrote r.rest.committed refl;
  stop = stops;
  fault = tt;
  failures_are = same;
  groups = r.groups;
  ahead = r.ahead;
}

module _ (until : ℕ) (began c : RunState) (written : ℕ) (known now : Option (List ℕ)) (w : IsWriting until began c written known now) where
  abbrev from : Reached
  from = reached_in began.window

  few : w.net.position ≤ MOST_EVENTS
  few = few_before w.net c w.behind

  -- the bytes that went out can be counted
  pub tells : (workers at : ℕ) (later : Option (List ℕ)) (fault : WriteFault) → Broke workers until w.net at now later fault → CanTell written fault
  tells workers at later fault broke = can_tell workers until from w.net written at known now later fault w.wrote few broke

  pub more_fits : (to : Reached) (bytes : ℕ) (later : Option (List ℕ)) → Wrote until w.net to bytes now later → to.position ≤ MOST_EVENTS → written + bytes < 2 ^ 128
  more_fits to bytes later wrote upto = still_fits until from to written bytes known now later w.net w.wrote few wrote upto

  -- the sink took the first bytes of the text of what was there
  broke_all : (workers : ℕ) (text : List ℕ) (lines count at : ℕ) (later : Option (List ℕ)) → text ≡ text_from c.sheaf.first (merged c.sheaf).lines → lines ≡ length (merged c.sheaf).lines → at ≡ c.position + lines → TakesFirst count text now later → count < 2 ^ 71 → Broke workers until w.net at now later (Failing count)
  broke_all workers text lines count at later is many upto takes few =
      let edge = all_committed w.net c w.behind at (omega (arith, upto, many)) in
      broke_batch until w.net (reached_in c.window) at count (merged c.sheaf) text now later w.early w.behind.gone edge is takes few

  -- the call ends by a fault in the next window
  pub broken : (workers : ℕ) (new : RunState) (later : Option (List ℕ)) (fault : WriteFault) (f g h : ℕ) → Broke workers until w.net new.position now later fault → (fault ≡ Workers below.CountFull → HasTooMany w.net) → g ≡ f → h ≡ fails_after {T = ℕ} (Err fault) g
      → new.groups ≡ c.groups → new.ahead ≡ c.ahead → HasEnded workers until began new (Err (reported_as written fault)) known later f h
  broken workers new later fault f g h broke full same fails groups ahead =
      broken_at workers until began new w.net written known now later fault f g h w.wrote few broke full same fails (groups ∙ w.groups) (ahead ∙ w.ahead)

  -- it ends for want of memory before the next window
  pub out_of_memory : (workers f g : ℕ) → g ≡ f → HasEnded workers until began c (Err NoMemory) known now f g
  out_of_memory workers f g same =
      broken workers c now (Workers below.NoMemory) f g g (wrote_no_more until w.net c.position now w.behind.committed, tt) (λ is. absurd (cc)) same refl refl refl

  -- what was left is written
  pub settled : (bytes : ℕ) (new : RunState) (later : Option (List ℕ)) → Wrote until w.net (reached_in c.window) bytes now later → new ≡ record c { position = new.position } → new.position ≡ c.position + length (merged c.sheaf).lines → WindowsRest until began new (written + bytes) known later
  settled bytes new later wrote rest at =
      let window : new.window ≡ c.window = ap (λ (x : RunState). x.window) rest in
      let end : new.end ≡ c.end = ap (λ (x : RunState). x.end) rest in
      let groups : new.groups ≡ c.groups = ap (λ (x : RunState). x.groups) rest in
      let ahead : new.ahead ≡ c.ahead = ap (λ (x : RunState). x.ahead) rest in
      let committed_is : new.position ≡ c.window.position = all_committed w.net c w.behind new.position at in
      let all = wrote_more until from w.net (reached_in c.window) written bytes known now later w.wrote wrote in
      record {
        rest = record {
          edge = subst IsAtEdge (sym window) w.behind.edge;
          committed = committed_is ∙ ap (λ (v : WindowValue). v.position) (sym window);
          few = (let few = w.behind.few in omega (arith, few, committed_is));
          end = end ∙ w.behind.end ∙ ap (λ (v : WindowValue). v.end) (sym window);
          groups = subst (λ (v : WindowValue). groups_of v.entries ≤ 64) (sym window) w.behind.groups;
        };
        has = subst HasGroups (sym rest) (record { run = w.has.run; apart = w.has.apart });
        wrote = subst (λ (v : WindowValue). Wrote until from (reached_in v) (written + bytes) known later) (sym window) all;
        groups = groups ∙ w.groups;
        ahead = ahead ∙ w.ahead;
      }

  -- the call ends by a fault of the workers in the next window, and the text of what was there is written
  pub stopped_after : (workers : ℕ) (text : List ℕ) (lines count : ℕ) (new : RunState) (later : Option (List ℕ)) (fault : WorkersFault) (f g h : ℕ) → text ≡ text_from c.sheaf.first (merged c.sheaf).lines → lines ≡ length (merged c.sheaf).lines → new.position ≡ c.position + lines → Appends now later text
      → count ≡ length text → count < 2 ^ 71 → IsWorkersFault workers (HasTooMany (reached_in c.window)) fault → g ≡ f → h ≡ g → new.groups ≡ c.groups → new.ahead ≡ c.ahead → HasEnded workers until began new (Err (as_engine_fault fault)) known later f h
  stopped_after workers text lines count new later fault f g h is many at takes sized short meant same fails groups ahead =
      let wrote = wrote_batch until w.net (reached_in c.window) count (merged c.sheaf) text now later w.early w.behind.gone is sized short takes in
      broken workers new later (Workers fault) f g h (wrote_to_edge w.net c w.behind until new.position count now later (omega (arith, at, many)) wrote, of_workers workers (HasTooMany (reached_in c.window)) fault meant) (workers_full w.net fault (λ is. full_before w.net c w.behind (full_of workers (HasTooMany (reached_in c.window)) fault meant is))) same fails groups ahead

  -- and the sink failed in that text
  pub failed_after : (workers : ℕ) (text : List ℕ) (lines count : ℕ) (new : RunState) (later : Option (List ℕ)) (f g h : ℕ) → text ≡ text_from c.sheaf.first (merged c.sheaf).lines → lines ≡ length (merged c.sheaf).lines → new.position ≡ c.position + lines → TakesFirst count text now later
      → count < 2 ^ 71 → g ≡ f → h ≡ counted g → new.groups ≡ c.groups → new.ahead ≡ c.ahead → HasEnded workers until began new (Err (SinkFailed (written + count))) known later f h
  failed_after workers text lines count new later f g h is many at takes few same fails groups ahead =
      broken workers new later (Failing count) f g h (broke_all workers text lines count new.position later is many at takes few) (λ is. absurd (cc)) same fails groups ahead

  -- a window more: the text of what was there is owed, and the window was run and turned
  pub gone_on : (text : List ℕ) (lines : ℕ) (d new : RunState) → text ≡ text_from c.sheaf.first (merged c.sheaf).lines → lines ≡ length (merged c.sheaf).lines → d.position ≡ c.position → d.groups ≡ c.groups → d.ahead ≡ c.ahead
      → IsBehind (reached_in c.window) (record d { position = d.position + lines }) → AreBelow until (merged d.sheaf).lines → HasGroups d → new ≡ record d { granularity = new.granularity } → IsOwing until began new text lines written known now
  gone_on text lines d new is many at groups ahead behind early has rest =
      subst (λ (x : RunState). IsOwing until began x text lines written known now) (sym rest)
      (record {
        was = c;
        writing = w;
        text_is = is;
        lines_are = many;
        behind = record { edge = behind.edge; gone = behind.gone; committed = behind.committed; few = behind.few; end = behind.end; groups = behind.groups };
        committed = at;
        early = early;
        has = record { run = has.run; apart = has.apart };
        groups = groups;
        ahead = ahead;
      })

module _ (until : ℕ) (began c : RunState) (text : List ℕ) (lines written : ℕ) (known now : Option (List ℕ)) (o : IsOwing until began c text lines written known now) where
  abbrev w : IsWriting until began o.was written known now
  w = o.writing

  abbrev edge : Reached
  edge = reached_in o.was.window

  wrote_pending : (count : ℕ) (later : Option (List ℕ)) → Appends now later text → count ≡ length text → count < 2 ^ 71 → Wrote until w.net edge count now later
  wrote_pending count later takes many few = wrote_batch until w.net edge count (merged o.was.sheaf) text now later w.early w.behind.gone o.text_is many few takes

  -- the sink took all of it
  pub paid : (count : ℕ) (later : Option (List ℕ)) → Appends now later text → count ≡ length text → count < 2 ^ 71 → IsWriting until began (record c { position = c.position + lines }) (written + count) known later
  paid count later takes many few = record {
    net = edge;
    behind = o.behind;
    wrote = wrote_more until (reached_in began.window) w.net edge written count known now later w.wrote (wrote_pending count later takes many few);
    early = o.early;
    has = record { run = o.has.run; apart = o.has.apart };
    groups = o.groups ∙ w.groups;
    ahead = o.ahead ∙ w.ahead;
  }

  -- the sink failed in it
  pub unpaid : (workers : ℕ) (new : RunState) (count : ℕ) (later : Option (List ℕ)) (f g h : ℕ) → new.position ≡ c.position + lines → TakesFirst count text now later → count < 2 ^ 71 → g ≡ f → h ≡ counted g → new.groups ≡ c.groups → new.ahead ≡ c.ahead
      → HasEnded workers until began new (Err (SinkFailed (written + count))) known later f h
  unpaid workers new count later f g h at takes few same fails groups ahead =
      failed_after until began o.was written known now w workers text lines count new later f g h o.text_is o.lines_are (at ∙ ap (λ n. n + lines) o.committed) takes few same fails (groups ∙ o.groups) (ahead ∙ o.ahead)
