-- Breakpoints by their numbers, and how they are told at a prompt.
use Rattle.std.specs.Prelude.{◌≡◌, ◌<◌, ◌≤◌, ◌+◌, ℕ, Bool, if◌then◌else◌, List, [], ◌∷◌, ◌++◌, length, Contains, codes, decimal, Option, None, Some}
use Rattle.flow_waits.specs.Names.{NameList, named}
use Rattle.breakpoints.specs.declared.breaks.EventKind.{EventKind}
use Rattle.breakpoints.specs.declared.breaks.EventKind.TheVariants.{Start, Rto, DelAck, Free, Data, Ack}
use Rattle.breakpoints.specs.declared.breaks.Break.{Break}
use Rattle.breakpoints.specs.declared.breaks.StallOf.{StallOf}
use Rattle.breakpoints.specs.declared.breaks.StallOf.TheVariants.{Any, Flow}
use Rattle.breakpoints.specs.declared.values.Reading.{Reading}
use Rattle.breakpoints.specs.declared.values.Reading.TheVariants.{Nothing}
use Rattle.prompt_words.specs.declared.naming.Naming.{Naming}
use Rattle.prompt_words.specs.ValueTexts.{values_text, was_text}

abbrev pub kind_text : Option EventKind → List ℕ
kind_text None = []
kind_text (Some Start) = codes " kind start"
kind_text (Some Rto) = codes " kind rto"
kind_text (Some DelAck) = codes " kind delack"
kind_text (Some Free) = codes " kind free"
kind_text (Some Data) = codes " kind data"
kind_text (Some Ack) = codes " kind ack"

-- the byte that is asked for
abbrev pub byte_text : Option ℕ → List ℕ
byte_text None = []
byte_text (Some n) = codes " byte " ++ decimal n

-- a part behind its sort, where there is one
abbrev pub part_text : List ℕ → NameList → Option ℕ → List ℕ
part_text sort names None = []
part_text sort names (Some n) = named sort names n

-- whether a packet has to be dropped
abbrev pub drops_text : Bool → List ℕ
drops_text drops = if drops then codes " drop" else []

-- what the event has to be
abbrev pub event_text : Naming → Break → List ℕ
event_text naming b = part_text (codes " node ") naming.names.nodes b.node ++ (part_text (codes " flow ") naming.names.flows b.flow ++ kind_text b.kind)

-- what has to become of packets, and which has to arrive
abbrev pub packet_text : Naming → Break → List ℕ
packet_text naming b = drops_text b.drops ++ (part_text (codes " link ") naming.names.links b.link ++ byte_text b.byte)

-- which flow has to become stalled
abbrev pub stall_text : Naming → Option StallOf → List ℕ
stall_text naming None = []
stall_text naming (Some Any) = codes " stall"
stall_text naming (Some (Flow n)) = named (codes " stall ") naming.names.flows n

-- a breakpoint, as it is typed behind `break`: what it asks for in this order, a space before each
abbrev pub break_text : Naming → Break → List ℕ
break_text naming b = event_text naming b ++ (packet_text naming b ++ (values_text naming b.values ++ stall_text naming b.stall))

-- a word, a breakpoint's number, and the breakpoint, with what the value was before that it asks to change
abbrev pub numbered_line : Naming → List ℕ → ℕ → Break → Reading → List ℕ
numbered_line naming word i b was = word ++ (decimal i ++ (codes ":" ++ (break_text naming b ++ (was_text was b.values.change ++ codes "\n"))))

abbrev pub set_line : Naming → ℕ → Break → List ℕ
set_line naming i b = numbered_line naming (codes "break ") i b Nothing

abbrev pub deleted_line : Naming → ℕ → Break → List ℕ
deleted_line naming i b = numbered_line naming (codes "deleted ") i b Nothing

-- a breakpoint that stops
abbrev pub stops_line : Naming → ℕ → Break → Reading → List ℕ
stops_line naming i b was = numbered_line naming (codes "break ") i b was

-- a line for each, from a number on
abbrev pub lines_from : Naming → ℕ → List Break → List ℕ
lines_from naming i [] = []
lines_from naming i (b ∷ breaks) = set_line naming i b ++ lines_from naming (i + 1) breaks

abbrev pub listing : Naming → List Break → List ℕ
listing naming [] = codes "no breakpoint\n"
listing naming (b ∷ breaks) = lines_from naming 1 (b ∷ breaks)

-- the number of a breakpoint, or of a display: 1 for the first
pub record IsNumber {A : Type 0} (xs : List A) (x : A) (i : ℕ) : Type 0 where
  pub before : List A
  pub after : List A
  pub parted : xs ≡ before ++ x ∷ after
  pub first : ¬ Contains before x
  pub number : i ≡ length before + 1

-- there is one of this number
pub record HasNumber {A : Type 0} (xs : List A) (i : ℕ) : Type 0 where
  pub above : 0 < i
  pub upto : i ≤ length xs
