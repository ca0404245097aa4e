-- A call of windows on its way: what it wrote, and what is pending.
use Rattle.std.specs.Prelude.{◌≡◌, ℕ, List, Option}
use Rattle.window_text.specs.PendingText.{Owes, text_pending}
use Rattle.window_engine.specs.declared.call.Call.{Call}
use Rattle.window_engine.specs.declared.call.Writing.{Writing}
use Rattle.window_engine.specs.declared.run_state.RunState.{RunState}
use Rattle.window_engine.specs.RunStates.{IsOwing, IsWriting, WindowsRest}

-- all windows so far but the last are written, and the sink has not failed
pub record HasWrittenAll {S : Type 0} (contents : S → Option (List ℕ)) (failures : S → ℕ) (call : Call S) (c : RunState) (written : ℕ) (sink : S) : Type 0 where
  pub writing : IsWriting call.until call.began.value c written (contents call.known.value) (contents sink)
  pub failures_are : failures sink ≡ failures call.known.value

-- nothing is left to write where windows rest, and the sink has not failed
pub record HasRested {S : Type 0} (contents : S → Option (List ℕ)) (failures : S → ℕ) (call : Call S) (c : RunState) (written : ℕ) (sink : S) : Type 0 where
  pub rests : WindowsRest call.until call.began.value c written (contents call.known.value) (contents sink)
  pub failures_are : failures sink ≡ failures call.known.value

-- a text is pending, of which the sink has what went out; it had not failed before
pub record HasPending {S : Type 0} (contents : S → Option (List ℕ)) (failures : S → ℕ) (call : Call S) (c : RunState) (writing : Writing S) (sink : S) : Type 0 where
  pub owing : IsOwing call.until call.began.value c (text_pending writing.texts.pending_text) writing.texts.pending_text.lines writing.written (contents call.known.value) (contents writing.texts.before.value)
  pub owes : Owes writing.texts.pending_text (contents writing.texts.before.value) (contents sink) (failures writing.texts.before.value) (failures sink)
  pub failures_are : failures writing.texts.before.value ≡ failures call.known.value
