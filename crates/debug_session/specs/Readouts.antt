-- What displays read, for the contracts of private steps.
use Rattle.std.specs.Prelude.{◌≡◌, ℕ, List, ◌++◌, Option, None, Some}
use Rattle.flow_waits.specs.declared.names.ScenarioNames.{ScenarioNames}
use Rattle.breakpoints.specs.declared.values.Reading.{Reading}
use Rattle.breakpoints.specs.declared.values.ValueOf.{ValueOf}
use Rattle.breakpoints.specs.Seen.{read_in, read_left_in}
use Rattle.debugger.specs.Debugging.{Debugging}
use Rattle.prompt_words.specs.declared.display.DisplayItem.{DisplayItem}
use Rattle.debug_session.specs.declared.readout.Readout.{Readout}
use Rattle.prompt_words.specs.Displays.{displays_from}
use Rattle.debug_session.specs.TypedMoves.{present_time}

-- of the state that is shown
abbrev pub now_of : Readout → ValueOf → Reading
now_of readout what = read_in readout.time what readout.debugger.now.shown.state

-- of the one that the last move left, where that is compared
abbrev pub read_before : Option ℕ → Readout → ValueOf → Reading
read_before None readout what = now_of readout what
read_before (Some time) readout what = read_left_in time what readout.debugger.now.left

abbrev pub was_of : Readout → ValueOf → Reading
was_of readout what = read_before readout.left readout what

-- of the state that a debugger shows, at a moment
abbrev pub present : Debugging → ℕ → ValueOf → Reading
present d time what = read_in time what d.shown.state

-- the lines of displays stand behind an answer: they compare what is shown with what the last move left, which was of a moment
abbrev pub TellsBehind : ScenarioNames → List DisplayItem → ℕ → Debugging → List ℕ → List ℕ → Type 0
TellsBehind names displays before d said out = out ≡ said ++ displays_from names (λ what. read_left_in before what d.left) (present d (present_time d.start d.shown.position)) 1 displays
