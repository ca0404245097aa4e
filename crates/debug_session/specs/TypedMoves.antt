-- What is answered at a prompt to a move, and to `lines`: lines of the trace, and where the session stands.
use Rattle.std.specs.Prelude.{◌≡◌, ◌<◌, ◌≤◌, ◌+◌, ◌-◌, ◌==◌, ℕ, nat_eq, nat_lt, Bool, if◌then◌else◌, List, [], ◌∷◌, ◌++◌, length, drop, reverse, codes, decimal, Option, None, Some, is_none}
use Rattle.std.specs.List.{concat}
use Rattle.node_core.specs.TraceLine.{TraceLine}
use Rattle.table_run.specs.State.{State as NetState, due}
use Rattle.net_machine.specs.Run.{Reached}
use Rattle.flow_waits.specs.declared.names.ScenarioNames.{ScenarioNames}
use Rattle.flow_waits.specs.Names.{named}
use Rattle.breakpoints.specs.declared.breaks.Break.{Break}
use Rattle.breakpoints.specs.declared.breaks.Hit.{Hit}
use Rattle.breakpoints.specs.Breaks.{flow_of, IsFirstHit}
use Rattle.debugger.specs.LastEvents.{freed_link}
use Rattle.debugger.specs.Moves.{Passes, GivesAt}
use Rattle.debugger.specs.Passed.{lines_between, texts_between}
use Rattle.prompt_words.specs.declared.memo.Extent.{Extent}
use Rattle.prompt_words.specs.declared.naming.Naming.{Naming}
use Rattle.prompt_words.specs.declared.report.Report.{Report}
use Rattle.debug_session.specs.Answers.{SessionState}
use Rattle.prompt_words.specs.Numbered.{part_text, stops_line}

-- the position behind which the lines of a move backwards begin: where a breakpoint is told, its line is among them
abbrev pub lowest : ℕ → ℕ → ℕ
lowest bound p = if nat_lt bound p then p - 1 else p

-- the lines of a move from one position to another: forwards as they came, backwards the latest first
abbrev pub passed : NetState → ℕ → ℕ → ℕ → List (List ℕ)
passed start m bound p = if nat_lt m p then texts_between start m p else reverse (texts_between start (lowest bound p) m)

-- how many there are beside ten
abbrev pub more_line : ℕ → List ℕ
more_line count = if nat_lt 10 count then codes ".. " ++ (decimal (count - 10) ++ codes " more\n") else []

-- the last of them, ten at most, and before them how many more there are
abbrev pub last_ten : List (List ℕ) → List ℕ
last_ten texts = more_line (length texts) ++ concat (drop (length texts - 10) texts)

-- `until` a moment that is past does nothing
abbrev pub idle_line : Option ℕ → ℕ → ℕ → List ℕ
idle_line None m p = []
idle_line (Some time) m p = if nat_eq m p then codes "nothing was done: no event before " ++ (decimal time ++ codes " ns is left\n") else []

-- what a move from one position to another passed
abbrev pub passed_lines : NetState → ℕ → Report → ℕ → List ℕ
passed_lines start m report p = idle_line report.until m p ++ last_ten (passed start m report.bound p)

-- the moment of the last line; where there is none, that which is given
abbrev pub last_time : ℕ → List TraceLine → ℕ
last_time time [] = time
last_time time (line ∷ lines) = last_time line.key.time lines

-- that of the event before a position; before the first event the time is 0
abbrev pub present_time : NetState → ℕ → ℕ
present_time start p = last_time 0 (lines_between start 0 p)

-- whether a position is the run's end, or its beginning
abbrev pub end_words : ℕ → Bool → List ℕ
end_words p at_end = if at_end then codes " ns, the end\n" else (if nat_eq p 0 then codes " ns, the beginning\n" else codes " ns\n")

abbrev pub time_words : ℕ → ℕ → Bool → List ℕ
time_words p time at_end = codes " of the run, time " ++ (decimal time ++ end_words p at_end)

-- a position, the moment of the event before it, and whether the run ends or begins there
abbrev pub place_line : ℕ → ℕ → Bool → List ℕ
place_line p time at_end = codes "at " ++ (decimal p ++ time_words p time at_end)

-- where a session stands
abbrev pub where_line : NetState → Reached → List ℕ
where_line start at = place_line at.position (present_time start at.position) (is_none (due at.state))

-- the node of an event, and its flow, or the link that becomes free
abbrev pub named_origin : ScenarioNames → ℕ → Option ℕ → Option ℕ → List ℕ
named_origin names node flow link = named (codes "of node ") names.nodes node ++ (part_text (codes ", flow ") names.flows flow ++ (part_text (codes ", link ") names.links link ++ codes "\n"))

-- nothing of an image, which has no names
abbrev pub origin_text : Naming → ℕ → Option ℕ → Option ℕ → List ℕ
origin_text naming node flow link = if length naming.names.nodes == 0 then [] else named_origin naming.names node flow link

abbrev pub origin_line : Naming → TraceLine → List ℕ
origin_line naming line = origin_text naming line.key.node (flow_of line.event) (freed_link line.event)

-- a breakpoint that stops there, with its number, and what the value was before that it asks to change
abbrev pub hit_line : Naming → Option Hit → List ℕ
hit_line naming None = []
hit_line naming (Some hit) = stops_line naming hit.number hit.breakpoint hit.was

-- where the last line comes from, and the first breakpoint that matches it, with the states before and after it
pub record TellsHit (naming : Naming) (start : NetState) (breaks : List Break) (p : ℕ) (origin matched : List ℕ) : Type 0 where
  pub line : TraceLine
  pub given : GivesAt start line p
  pub hit : Option Hit
  pub first : IsFirstHit breaks given.before.state line given.after hit
  pub origin_is : origin ≡ origin_line naming line
  pub matched_is : matched ≡ hit_line naming hit

-- both are told at a position past a bound, and at no other
pub record TellsMatch (naming : Naming) (start : NetState) (breaks : List Break) (bound p : ℕ) (origin matched : List ℕ) : Type 0 where
  pub past : bound < p → TellsHit naming start breaks p origin matched
  pub before : p ≤ bound → (origin ≡ []) × (matched ≡ [])

-- a move from a position m is told: the lines that it passed, past a bound where the last of them comes from, where it came to, and past that bound which breakpoint matches there
pub record TellsPast (naming : Naming) (start : NetState) (m : ℕ) (report : Report) (at : SessionState) (out : List ℕ) : Type 0 where
  pub origin : List ℕ
  pub matched : List ℕ
  pub matches : TellsMatch naming start at.breaks report.bound at.shown.position origin matched
  pub reported : out ≡ passed_lines start m report at.shown.position ++ (origin ++ (where_line start at.shown ++ matched))

-- the state at a position that the move goes to is shown, and the move is told
pub record MovesPast (naming : Naming) (start : NetState) (report : Report) (goes : ℕ → Type 0) (old new : SessionState) (out : List ℕ) : Type 0 where
  pub at : goes new.shown.position
  pub on_run : Passes start new.shown
  pub breaks : new.breaks ≡ old.breaks
  pub reported : TellsPast naming start old.shown.position report new out

-- the line that the next event gives, where one is due
abbrev pub next_text : NetState → Reached → List ℕ
next_text start at = if is_none (due at.state) then codes "next: none\n" else codes "next: " ++ concat (texts_between start at.position (at.position + 1))

-- how far the run is known to go
abbrev pub known_line : Extent → List ℕ
known_line known = (if known.ends then codes "known to end at " else codes "known to go to ") ++ (decimal known.upto ++ codes "\n")

-- what `where` tells
abbrev pub where_text : NetState → Reached → Extent → List ℕ
where_text start at known = where_line start at ++ (next_text start at ++ known_line known)

-- the last so many lines up to a position
abbrev pub last_lines : NetState → ℕ → ℕ → List ℕ
last_lines start p count = concat (texts_between start (p - count) p)
