-- What is told after a move, for the contracts of private steps: no definition of a session uses it.
use Rattle.std.specs.Prelude.{◌≡◌, ◌-◌, List, [], ℕ, ◌++◌, min, nat_lt, if◌then◌else◌, Option, None, Some}
use Rattle.table_run.specs.State.{State as NetState}
use Rattle.net_machine.specs.Run.{Reached}
use Rattle.breakpoints.specs.declared.breaks.Hit.{Hit}
use Rattle.debugger.specs.declared.passed.LastEvent.{LastEvent}
use Rattle.debugger.specs.declared.passed.LineOrder.TheVariants.{Rising, Falling}
use Rattle.debugger.specs.declared.passed.Stretch.{Stretch}
use Rattle.debugger.specs.Debugging.{Debugging}
use Rattle.prompt_words.specs.declared.naming.Naming.{Naming}
use Rattle.prompt_words.specs.declared.report.Report.{Report}
use Rattle.debug_session.specs.Answers.{SessionState}
use Rattle.debug_session.specs.TypedMoves.{origin_text, where_line, TellsMatch, TellsPast}

-- the state that the last move left is shown again
abbrev pub GoesBack : Debugging → Debugging → Type 0
GoesBack old new = (was : Reached) → old.left ≡ Some was → new ≡ record old { shown = was; left = None }

-- a move that can be undone
abbrev pub CanBeUndone : Debugging → Debugging → Type 0
CanBeUndone old new = new ≡ record old { shown = new.shown; left = Some old.shown }

-- past a bound where the last line comes from, where a session stands after a move, and past that bound which breakpoint stopped it, behind other bytes
abbrev pub AddsPlace : Naming → NetState → ℕ → SessionState → List ℕ → List ℕ → Type 0
AddsPlace naming start bound at old new = (origin matched : List ℕ) × TellsMatch naming start at.breaks bound at.shown.position origin matched × (new ≡ old ++ (origin ++ (where_line start at.shown ++ matched)))

-- a move's answer behind other bytes
abbrev pub AddsMove : Naming → NetState → ℕ → Report → SessionState → List ℕ → List ℕ → Type 0
AddsMove naming start m report at old new = (reported : List ℕ) × TellsPast naming start m report at reported × (new ≡ old ++ reported)

-- the breakpoint that is told at a position, and where its event comes from
abbrev pub reported_hit : ℕ → ℕ → Option Hit → Option Hit
reported_hit bound p hit = if nat_lt bound p then hit else None

abbrev pub reported_origin : Naming → ℕ → ℕ → LastEvent → List ℕ
reported_origin naming bound p event = if nat_lt bound p then origin_text naming event.node event.flow event.link else []

-- how many lines a move has
abbrev pub passed_count : ℕ → ℕ → ℕ → ℕ
passed_count m low p = if nat_lt m p then p - m else m - low

-- the lines that a move shows, where those of one backwards begin behind a lowest position
abbrev pub shown_stretch : ℕ → ℕ → ℕ → Stretch
shown_stretch m low p =
    if nat_lt m p then record { from = p - min (p - m) 10; count = min (p - m) 10; order = Rising } else record { from = low; count = min (m - low) 10; order = Falling }
