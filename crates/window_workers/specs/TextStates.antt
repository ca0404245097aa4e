-- The text of a call's windows, as workers find it and leave it.
use Rattle.std.specs.Prelude.{◌≡◌, ◌+◌, ◌<◌, ◌^◌, ℕ, List, Option, length}
use Rattle.window_core.specs.Sheaves.{SheafValue, merged}
use Rattle.window_text.specs.Parts.{AreRight}
use Rattle.window_text.specs.PendingText.{Owes}
use Rattle.window_workers.specs.declared.text_state.TextState.{TextState}

-- what threads made is text of the sheaf's lines, whose numbers fit, and the sink has what went out of the pending text
pub record CanMakeText {S : Type 0} (contents : S → Option (List ℕ)) (failures : S → ℕ) (sheaf : SheafValue) (texts : TextState S) (sink : S) : Type 0 where
  pub right : AreRight sheaf texts.text.formatters.items
  pub fits : sheaf.first + length (merged sheaf).lines < 2 ^ 63
  pub owes : Owes texts.pending_text (contents texts.before.value) (contents sink) (failures texts.before.value) (failures sink)

-- so it is afterwards, and of the pending text nothing is new but how much of it went out
pub record HasMadeText {S : Type 0} (contents : S → Option (List ℕ)) (failures : S → ℕ) (sheaf : SheafValue) (old new : TextState S) (sink : S) : Type 0 where
  pub right : AreRight sheaf new.text.formatters.items
  pub owes : Owes new.pending_text (contents new.before.value) (contents sink) (failures new.before.value) (failures sink)
  pub pending : new.pending_text ≡ record old.pending_text { put = new.pending_text.put }
  pub before : new.before ≡ old.before
