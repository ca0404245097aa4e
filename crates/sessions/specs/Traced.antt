-- What has been written of a run where its net stands.
use Rattle.std.specs.Prelude.{◌≡◌, ◌≢◌, ℕ, Bool, true, false, List, [], length, Option, Some, Err, refl}
use Rattle.std.proofs.Common.{sym, subst}
use Rattle.node_core.specs.TraceLine.{TraceLine}
use Rattle.table_run.specs.State.{State, run}
use Rattle.net_machine.specs.Run.{Reached}
use Rattle.window_text.proofs.Bytes.{appends_nothing}
use Rattle.sessions.specs.declared.fault.SessionFault.{SessionFault}
use Rattle.sessions.specs.declared.fault.SessionFault.TheVariants.{NoMemory, WriteFailed}
use Rattle.sessions.specs.Written.{Writes, WritesBefore, IsBeginningOf}
use Rattle.sessions.specs.Trace.{lines_bytes, IsTraceOrStart}
use Rattle.sessions.specs.Ended.{SessionEnded, IsRunOutput, writes_after}

-- a net that started in this state has made these bytes
pub record IsAt (s : State) (net : Reached) (made : List ℕ) : Type 0 where
  pub lines : List TraceLine
  pub is_run : run s net.position ≡ Some (lines, net.state)
  pub as_many : length lines ≡ net.position
  pub made_are : made ≡ lines_bytes lines

-- what a net has made was written, or waits
abbrev pub Made : State → Reached → List ℕ → Option (List ℕ) → Option (List ℕ) → Type 0
Made s net page old new = WritesBefore page (IsAt s net) old new

-- a run has ended so: but for a writer that failed, what was made was written, or waits
pub record HasEnded (s : State) (page : List ℕ) (old new : Option (List ℕ)) (failed failures : ℕ) (ended : SessionEnded) : Type 0 where
  pub made : ended ≢ Err WriteFailed → WritesBefore page (IsRunOutput s ended) old new
  pub failed_then : ended ≡ Err WriteFailed → Writes (IsBeginningOf (IsTraceOrStart s)) old new
  pub failures_are : failures ≡ writes_after ended failed

-- why a line was not put: memory was refused, or the writer failed
abbrev pub loss_of : Bool → SessionFault
loss_of true = NoMemory
loss_of false = WriteFailed

-- all lines so far were put, or the run ended as the last was not
abbrev pub IsPut : State → Reached → List ℕ → Option (List ℕ) → Option (List ℕ) → ℕ → ℕ → Bool → Bool → Type 0
IsPut s net page old new failed failures refused true = Made s net page old new × (failures ≡ failed)
IsPut s net page old new failed failures refused false = HasEnded s page old new failed failures (Err (loss_of refused))

at_start : (net : Reached) → net.position ≡ 0 → IsAt net.state net []
at_start net h =
    record { lines = []; is_run = let P : ℕ → Type 0 = λ n. run net.state n ≡ Some ([], net.state) in subst P (sym h) refl; as_many = sym h; made_are = refl }

pub none_put : (net : Reached) (page : List ℕ) (known : Option (List ℕ)) (failures : ℕ) (refused : Bool) → net.position ≡ 0 → page ≡ [] → IsPut net.state net page known known failures failures refused true
none_put net page known failures refused h empty =
    let P : List ℕ → Type 0 = λ l. Made net.state net l known known in
    (subst P (sym empty) ([], appends_nothing known, at_start net h), refl)
