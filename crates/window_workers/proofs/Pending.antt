-- A pending text of which nothing went out.
use Rattle.std.proofs.Common.{◌≡◌, ℕ, All, List, [], length, Option, None, sym, ap, subst, arith}
use Rattle.std.proofs.lemmas.List.Elements.{All-nil}
use Rattle.window_text.specs.declared.pending_text.PendingText.{PendingText}
use Rattle.window_text.specs.declared.text.Text.{Text}
use Rattle.window_text.specs.Parts.{IsInside, IsReady}
use Rattle.window_text.specs.PendingText.{Fares, Owes, text_pending}

-- a text with no place is ready
pub ready_nothing : (t : Text) → t.places.items ≡ [] → IsReady t
ready_nothing t empty = record { inside = subst (All (IsInside t.formatters.items)) (sym empty) (All-nil (IsInside t.formatters.items)); few = (let e = ap length empty in omega (arith, e)) }

-- of what is owed nothing was written yet
pub unput : (o : PendingText) (before now : Option (List ℕ)) (f g : ℕ) → IsReady o.text → o.put ≡ None → now ≡ before → g ≡ f → Owes o before now f g
unput o before now f g ready waits same fails = record { ready = ready; fares = subst (Fares (text_pending o) before now f g) (sym waits) (same, fails) }
