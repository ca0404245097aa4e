-- A window's text, and what becomes of it.
use Rattle.std.specs.Prelude.{◌≡◌, ◌<◌, ◌^◌, ℕ, List, length, Option, Some, None, Result, Ok, Err}
use Rattle.std.specs.Io.KnownBytes.{Appends}
use Rattle.window_text.specs.declared.pending_text.PendingText.{PendingText}
use Rattle.window_text.specs.Failures.{counted}
use Rattle.window_text.specs.Parts.{IsReady, text_of}
use Rattle.window_text.specs.Puts.{TakesFirst}

-- the text
abbrev pub text_pending : PendingText → List ℕ
text_pending o = text_of o.text.formatters.items o.text.places.items

-- what became of a text, by what the sink held before and holds now, and how often it had failed and has: nothing yet; all of it went out, so many bytes; or the sink failed after so many
abbrev pub Fares : List ℕ → Option (List ℕ) → Option (List ℕ) → ℕ → ℕ → Option (Result ℕ ℕ) → Type 0
Fares text before now failures failed None = (now ≡ before) × (failed ≡ failures)
Fares text before now failures failed (Some (Ok count)) = Appends before now text × (count ≡ length text) × (count < 2 ^ 71) × (failed ≡ failures)
Fares text before now failures failed (Some (Err count)) = TakesFirst count text before now × (count < 2 ^ 71) × (failed ≡ counted failures)

-- so it became of the text that is owed, which can be written
pub record Owes (o : PendingText) (before now : Option (List ℕ)) (failures failed : ℕ) : Type 0 where
  pub ready : IsReady o.text
  pub fares : Fares (text_pending o) before now failures failed o.put
