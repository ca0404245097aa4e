-- A whole session: from its input to its output.
use Rattle.std.specs.Prelude.{◌≡◌, ℕ, List, [], ◌∷◌, ◌++◌, take, Result, Ok, Err}
use Rattle.scenario_image.specs.declared.parts.ScenarioParts.{ScenarioParts}
use Rattle.scenario_asm.specs.declared.fault.Fault.{Fault}
use Rattle.scenario_asm.specs.Lines.{lines_of_text}
use Rattle.scenario_asm.specs.Meaning.{MeansScenario, MeansFault}
use Rattle.table_run.specs.State.{State, initial}
use Rattle.prompt_words.specs.declared.command.Limits.{Limits}
use Rattle.debug_session.specs.declared.session.DialogueFault.{DialogueFault}
use Rattle.debug_session.specs.declared.session.DialogueFault.TheVariants.{NoMemory, OutputFailed}
use Rattle.window_engine.specs.Failures.{counted}
use Rattle.debug_session.specs.Taking.{IsBeginningOf}
use Rattle.prompt_words.specs.Input.{text_lines, command_lines}
use Rattle.prompt_words.specs.Refusals.{Answer, answer_text}
use Rattle.debug_session.specs.Answers.{SessionState, opened_at, Stays, Answers}
use Rattle.prompt_words.specs.Namings.{limits_of}

-- the lines are answered one after another, from where the session stands
abbrev pub Ran : Limits → State → List (List ℕ) → SessionState → SessionState → List ℕ → Type 0
Ran limits start [] old new out = Stays old new out []
Ran limits start (line ∷ lines) old new out =
    (between : SessionState) × (answer : Answer) × (rest : List ℕ) × Answers limits start line old between answer × Ran limits start lines between new rest × (out ≡ answer_text answer ++ rest)

-- these lines give this output, wherever the session stands in the end
abbrev pub Output : Limits → State → List (List ℕ) → SessionState → List ℕ → Type 0
Output limits start lines old out = (new : SessionState) × Ran limits start lines old new out

-- so do the first of them
abbrev pub OutputStart : Limits → State → List (List ℕ) → SessionState → List ℕ → Type 0
OutputStart limits start lines old out = (count : ℕ) × Output limits start (take count lines) old out

-- a text of the input's text lines means this scenario
abbrev pub HasScenario : List ℕ → ScenarioParts → Type 0
HasScenario input p = (text : List ℕ) × (lines_of_text text ≡ text_lines input) × MeansScenario text p

-- or it has this fault
abbrev pub HasFault : List ℕ → ℕ → Fault → Type 0
HasFault input line fault = (text : List ℕ) × (lines_of_text text ≡ text_lines input) × MeansFault text line fault

-- the output of a session: its scenario's run is walked through by the commands
pub record IsOutput (input out : List ℕ) : Type 0 where
  pub scenario : ScenarioParts
  pub meant : HasScenario input scenario
  pub answers : Output (limits_of scenario) (initial scenario) (command_lines input) (opened_at (initial scenario)) out

-- the output of its first commands
pub record IsOutputStart (input out : List ℕ) : Type 0 where
  pub scenario : ScenarioParts
  pub meant : HasScenario input scenario
  pub answers : OutputStart (limits_of scenario) (initial scenario) (command_lines input) (opened_at (initial scenario)) out

abbrev pub Ended : Type 0
Ended = Result (Unit {0}) DialogueFault

-- what a session over a scenario that ended so has put out: the answers to all its lines; nothing, where memory was refused; a beginning of the answers to the first of them, where the output failed
abbrev pub IsEnding : ScenarioParts → List (List ℕ) → Ended → List ℕ → Type 0
IsEnding p lines (Ok done) out = Output (limits_of p) (initial p) lines (opened_at (initial p)) out
IsEnding p lines (Err NoMemory) out = out ≡ []
IsEnding p lines (Err OutputFailed) out = IsBeginningOf (OutputStart (limits_of p) (initial p) lines (opened_at (initial p))) out

-- the output's count of failures after what ended so
abbrev pub failures_of : Ended → ℕ → ℕ
failures_of (Ok done) n = n
failures_of (Err NoMemory) n = n
failures_of (Err OutputFailed) n = counted n
