-- What is answered to a command on displays that sets and takes away none.
use Rattle.std.proofs.Common.{◌≡◌, List, ℕ, refl, sym, subst, Result, Ok, Err, MatchResult}
use Rattle.flow_waits.specs.declared.names.ScenarioNames.{ScenarioNames}
use Rattle.prompt_words.specs.declared.display.DisplayCommand.{DisplayCommand}
use Rattle.prompt_words.specs.declared.display.DisplayItem.{DisplayItem}
use Rattle.prompt_words.specs.declared.refusal.Refusal.{Refusal}
use Rattle.prompt_words.specs.declared.refusal.Refusal.TheVariants.{M}
use Rattle.prompt_words.specs.Refusals.{answer_of}
use Rattle.prompt_words.specs.Displays.{Reads, DisplayIsRefused, DoesDisplay, ObeysDisplays}

pub told : (names : ScenarioNames) (now : Reads) (asked : DisplayCommand) (displays : List DisplayItem) (result : Result (Unit {0}) Refusal) (out : List ℕ) → MatchResult result (λ _. DoesDisplay names now asked displays displays out) (λ why. why ≡ M)
    → ObeysDisplays names now asked displays displays (answer_of result out)
told names now asked displays (Ok done) out does = does
told names now asked displays (Err why) out is = (refl, subst (λ (w : Refusal). DisplayIsRefused w asked displays) (sym is) tt)
