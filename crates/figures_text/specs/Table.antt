-- The table of a run's figures: what,number,figure,unit,value, and a last column with names where it is wished.
use Rattle.std.specs.Prelude.{ℕ, List, [], ◌∷◌, ◌++◌, codes, decimal, map, slice_index, slice_index_or, Option, None, Some}
use Rattle.std.specs.List.{flat_map, enumerate_from}
use Rattle.aqm.specs.declared.drop_reason.DropReason.{DropReason}
use Rattle.aqm.specs.DropReasons.{all_reasons, reason_index, count_name}
use Rattle.figures_text.specs.declared.figure.Figure.{Figure}
use Rattle.figures_text.specs.declared.figure.Figure.TheVariants.{Start, Delivered, Completed, SentSegments, AgainInRecovery, AgainOtherwise, Timeouts, Cwnd, InFlight, RoundTrips, LeastTrip, MedianTrip, HighTrip, HighestTrip, GreatestTrip, Offered, Dropped, SentPackets, SentBytes, Busy, GreatestQueue, Waited, MedianDelay, HighDelay, HighestDelay, GreatestDelay, Events, End}
use Rattle.figures_text.specs.declared.row.Row.{Row}
use Rattle.figures_text.specs.declared.subject.Subject.{Subject}
use Rattle.figures_text.specs.declared.subject.Subject.TheVariants.{Flow, Link, Run}
use Rattle.figures_text.specs.declared.summary.FlowSummary.{FlowSummary}
use Rattle.figures_text.specs.declared.summary.LinkSummary.{LinkSummary}
use Rattle.figures_text.specs.declared.summary.RunSummary.{RunSummary}

-- the names of flows and of links, each in the order of their numbers
pub record TextNames : Type 0 where
  pub flows : List (List ℕ)
  pub links : List (List ℕ)

-- what the column of names has in the heading; nothing where there is no such column
abbrev pub heading_name : Option TextNames → List ℕ
heading_name None = []
heading_name (Some names) = codes ",name"

-- the name of what a line is about; an empty one of the run, or where there is none
abbrev pub name_of : TextNames → Subject → List ℕ
name_of names (Flow number) = slice_index_or names.flows number []
name_of names (Link number) = slice_index_or names.links number []
name_of names Run = []

-- what the column has in a line
abbrev pub name_text : Option TextNames → Subject → List ℕ
name_text None subject = []
name_text (Some names) subject = codes "," ++ name_of names subject

abbrev pub heading_end : Option TextNames → List ℕ
heading_end column = heading_name column ++ codes "\n"

-- the first line
abbrev pub heading : Option TextNames → List ℕ
heading column = codes "what,number,figure,unit,value" ++ heading_end column

-- what, and its number; the run has none
abbrev pub subject_text : Subject → List ℕ
subject_text (Flow number) = codes "flow," ++ decimal number
subject_text (Link number) = codes "link," ++ decimal number
subject_text Run = codes "run,"

-- the value, a dash where there is none
abbrev pub value_text : Option ℕ → List ℕ
value_text None = codes "-"
value_text (Some n) = decimal n

-- its name
abbrev pub figure_name : Figure → List ℕ
figure_name Start = codes "start"
figure_name Delivered = codes "delivered"
figure_name Completed = codes "completed"
figure_name SentSegments = codes "sent"
figure_name AgainInRecovery = codes "sent again by fast retransmit"
figure_name AgainOtherwise = codes "sent again by timeout"
figure_name Timeouts = codes "timeouts"
figure_name Cwnd = codes "cwnd"
figure_name InFlight = codes "in flight"
figure_name RoundTrips = codes "round trips"
figure_name LeastTrip = codes "least round trip"
figure_name MedianTrip = codes "median round trip"
figure_name HighTrip = codes "95th percentile of round trips"
figure_name HighestTrip = codes "99th percentile of round trips"
figure_name GreatestTrip = codes "greatest round trip"
figure_name Offered = codes "offered"
figure_name (Dropped reason) = count_name reason
figure_name SentPackets = codes "sent packets"
figure_name SentBytes = codes "sent bytes"
figure_name Busy = codes "busy"
figure_name GreatestQueue = codes "greatest queue"
figure_name Waited = codes "waited"
figure_name MedianDelay = codes "median delay in the queue"
figure_name HighDelay = codes "95th percentile of delay in the queue"
figure_name HighestDelay = codes "99th percentile of delay in the queue"
figure_name GreatestDelay = codes "greatest delay in the queue"
figure_name Events = codes "events"
figure_name End = codes "end"

-- its unit
abbrev pub figure_unit : Figure → List ℕ
figure_unit Start = codes "ns"
figure_unit Delivered = codes "bytes"
figure_unit Completed = codes "ns"
figure_unit SentSegments = codes "segments"
figure_unit AgainInRecovery = codes "segments"
figure_unit AgainOtherwise = codes "segments"
figure_unit Timeouts = codes "times"
figure_unit Cwnd = codes "bytes"
figure_unit InFlight = codes "bytes"
figure_unit RoundTrips = codes "times"
figure_unit LeastTrip = codes "ns"
figure_unit MedianTrip = codes "ns"
figure_unit HighTrip = codes "ns"
figure_unit HighestTrip = codes "ns"
figure_unit GreatestTrip = codes "ns"
figure_unit Offered = codes "packets"
figure_unit (Dropped reason) = codes "packets"
figure_unit SentPackets = codes "packets"
figure_unit SentBytes = codes "bytes"
figure_unit Busy = codes "ns"
figure_unit GreatestQueue = codes "packets"
figure_unit Waited = codes "packet-ns"
figure_unit MedianDelay = codes "ns"
figure_unit HighDelay = codes "ns"
figure_unit HighestDelay = codes "ns"
figure_unit GreatestDelay = codes "ns"
figure_unit Events = codes "events"
figure_unit End = codes "ns"

-- both between commas
abbrev pub figure_text : Figure → List ℕ
figure_text figure = codes "," ++ figure_name figure ++ codes "," ++ figure_unit figure ++ codes ","

-- what stands at the end of a line: the value, and the name
abbrev pub last_text : Option TextNames → Subject → Option ℕ → List ℕ
last_text column subject value = value_text value ++ (name_text column subject ++ codes "\n")

-- a line: what and number, figure and unit, value, and the name
abbrev pub row_line : Option TextNames → Subject → Row → List ℕ
row_line column subject row = subject_text subject ++ figure_text row.figure ++ last_text column subject row.value

-- a line for each row
abbrev pub rows_text : Option TextNames → Subject → List Row → List ℕ
rows_text column subject rows = flat_map (λ (row : Row). row_line column subject row) rows

-- a figure that there may not be
abbrev pub or_none : Figure → Option ℕ → Row
or_none figure value = record { figure = figure; value = value }

-- a figure that there always is
abbrev pub always_counted : Figure → ℕ → Row
always_counted figure n = or_none figure (Some n)

-- what is said of a flow
abbrev pub flow_rows : FlowSummary → List Row
flow_rows flow =
    always_counted Start flow.start
    ∷ always_counted Delivered flow.delivered
    ∷ or_none Completed flow.completed
    ∷ always_counted SentSegments flow.sent
    ∷ always_counted AgainInRecovery flow.again_in_recovery
    ∷ always_counted AgainOtherwise flow.again_otherwise
    ∷ always_counted Timeouts flow.timeouts
    ∷ always_counted RoundTrips flow.round_trips
    ∷ or_none LeastTrip flow.least
    ∷ or_none MedianTrip flow.median
    ∷ or_none HighTrip flow.high
    ∷ or_none HighestTrip flow.highest
    ∷ or_none GreatestTrip flow.greatest
    ∷ []

-- how many packets were dropped, for each reason
abbrev pub drop_rows : List ℕ → List Row
drop_rows counts = map (λ (reason : DropReason). always_counted (Dropped reason) (slice_index counts (reason_index reason))) all_reasons

-- what is said of a link behind that
abbrev pub link_rows : LinkSummary → List Row
link_rows link =
    always_counted SentPackets link.sent
    ∷ always_counted SentBytes link.bytes
    ∷ always_counted Busy link.busy
    ∷ always_counted GreatestQueue link.longest
    ∷ always_counted Waited link.waited
    ∷ or_none MedianDelay link.median
    ∷ or_none HighDelay link.high
    ∷ or_none HighestDelay link.highest
    ∷ or_none GreatestDelay link.greatest
    ∷ []

-- what is said of the run as a whole: its events, and when the last of them was
abbrev pub run_rows : RunSummary → List Row
run_rows run = always_counted Events run.events ∷ or_none End run.end ∷ []

-- the lines of a flow, with its number
abbrev pub flow_lines : Option TextNames → ℕ × FlowSummary → List ℕ
flow_lines column numbered = rows_text column (Flow numbered.0) (flow_rows numbered.1)

-- the lines of a link, with its number: what was offered to it, what was dropped of that, and the rest
abbrev pub link_lines : Option TextNames → ℕ × LinkSummary → List ℕ
link_lines column numbered =
    row_line column (Link numbered.0) (always_counted Offered numbered.1.offered)
    ++ (rows_text column (Link numbered.0) (drop_rows numbered.1.dropped) ++ rows_text column (Link numbered.0) (link_rows numbered.1))

-- each link, by number from 0 on, and the run
abbrev pub ending_of : Option TextNames → List LinkSummary → RunSummary → List ℕ
ending_of column links run = flat_map (link_lines column) (enumerate_from 0 links) ++ rows_text column Run (run_rows run)

-- the heading, each flow, by number from 0 on, and what follows
abbrev pub table_of : Option TextNames → List FlowSummary → List LinkSummary → RunSummary → List ℕ
table_of column flows links run = heading column ++ flat_map (flow_lines column) (enumerate_from 0 flows) ++ ending_of column links run
