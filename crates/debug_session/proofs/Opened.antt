-- What a session puts out that begins at the initial state of a scenario.
use Rattle.std.proofs.Common.{◌≡◌, ◌∙◌, ℕ, List, ◌++◌, Option, Ok, Err, sym, ap, subst}
use Rattle.scenario_image.specs.declared.parts.ScenarioParts.{ScenarioParts}
use Rattle.table_run.specs.State.{State, initial}
use Rattle.debugger.specs.Debugging.{Debugging, debugging_opened}
use Rattle.prompt_words.specs.declared.command.Limits.{Limits}
use Rattle.debug_session.specs.declared.session.DialogueFault.TheVariants.{OutputFailed}
use Rattle.debug_session.specs.Taking.{Takes, IsBeginningOf}
use Rattle.debug_session.specs.Answers.{session_state}
use Rattle.prompt_words.specs.Namings.{limits_of}
use Rattle.debug_session.specs.Sessions.{Output, OutputStart, IsEnding}

-- so many workers run windows as there are
pub opened_by : (d : Debugging) (s : State) (workers : ℕ) → d ≡ debugging_opened s workers → d ≡ debugging_opened s d.workers
opened_by d s workers is = is ∙ ap (debugging_opened s) (sym (ap (λ (e : Debugging). e.workers) is))

module _ (lines : List (List ℕ)) (p : ScenarioParts) (d : Debugging) (limits : Limits) (before after : Option (List ℕ)) (is : d ≡ debugging_opened (initial p) d.workers) (bounds : limits ≡ limits_of p) where
  pub all_put : Takes (Output limits d.start lines (session_state d)) before after → Takes (IsEnding p lines (Ok tt)) before after
  all_put took =
      let one = subst (λ (l : Limits). Output l d.start lines (session_state d) took.0) bounds took.2 in
      (took.0, took.1, subst (λ (e : Debugging). Output (limits_of p) e.start lines (session_state e) took.0) is one)

  pub first_put : Takes (IsBeginningOf (OutputStart limits d.start lines (session_state d))) before after → Takes (IsEnding p lines (Err OutputFailed)) before after
  first_put took =
      let all = took.0 ++ took.2.0 in
      let one = subst (λ (l : Limits). OutputStart l d.start lines (session_state d) all) bounds took.2.1 in
      (took.0, took.1, (took.2.0, subst (λ (e : Debugging). OutputStart (limits_of p) e.start lines (session_state e) all) is one))
