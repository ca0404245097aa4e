-- The rows of a run by time: time,what,number,figure,unit,value.
use Rattle.std.specs.Prelude.{ℕ, List, [], ◌∷◌, ◌++◌, codes, decimal, Option}
use Rattle.std.specs.List.{flat_map, enumerate_from}
use Rattle.std.specs.Option.{option_map}
use Rattle.figures_text.specs.declared.figure.Figure.TheVariants.{Delivered, SentSegments, AgainInRecovery, AgainOtherwise, Timeouts, Cwnd, InFlight, SentPackets, SentBytes, Busy, GreatestQueue, Waited, MedianDelay}
use Rattle.figures_text.specs.declared.row.Row.{Row}
use Rattle.figures_text.specs.declared.step.FlowStep.{FlowStep}
use Rattle.figures_text.specs.declared.step.SenderWindow.{SenderWindow}
use Rattle.figures_text.specs.declared.subject.Subject.{Subject}
use Rattle.figures_text.specs.declared.subject.Subject.TheVariants.{Flow, Link}
use Rattle.figures_text.specs.declared.summary.LinkSummary.{LinkSummary}
use Rattle.figures_text.specs.Table.{TextNames, heading, always_counted, or_none, drop_rows, row_line}

-- the first line
abbrev pub series_heading : Option TextNames → List ℕ
series_heading column = codes "time," ++ heading column

-- when the step begins, in nanoseconds, and what a line of the table says
abbrev pub timed_line : ℕ → Option TextNames → Subject → Row → List ℕ
timed_line begin column subject row = decimal begin ++ codes "," ++ row_line column subject row

abbrev pub timed_rows : ℕ → Option TextNames → Subject → List Row → List ℕ
timed_rows begin column subject rows = flat_map (λ (row : Row). timed_line begin column subject row) rows

-- what is said of a flow; its window is there once it has started
abbrev pub flow_step_rows : FlowStep → List Row
flow_step_rows step =
    always_counted Delivered step.counts.delivered
    ∷ always_counted SentSegments step.counts.sent
    ∷ always_counted AgainInRecovery step.counts.again_in_recovery
    ∷ always_counted AgainOtherwise step.counts.again_otherwise
    ∷ always_counted Timeouts step.counts.timeouts
    ∷ or_none Cwnd (option_map (λ (window : SenderWindow). window.cwnd) step.window)
    ∷ or_none InFlight (option_map (λ (window : SenderWindow). window.in_flight) step.window)
    ∷ []

-- what is said of a link before the packets that were dropped, and behind them
abbrev pub sent_step_rows : LinkSummary → List Row
sent_step_rows link =
    always_counted Busy link.busy
    ∷ always_counted SentPackets link.sent
    ∷ always_counted SentBytes link.bytes
    ∷ []

abbrev pub queue_step_rows : LinkSummary → List Row
queue_step_rows link =
    always_counted Waited link.waited
    ∷ always_counted GreatestQueue link.longest
    ∷ or_none MedianDelay link.median
    ∷ []

abbrev pub flow_step_lines : ℕ → Option TextNames → ℕ × FlowStep → List ℕ
flow_step_lines begin column numbered = timed_rows begin column (Flow numbered.0) (flow_step_rows numbered.1)

abbrev pub link_step_lines : ℕ → Option TextNames → ℕ × LinkSummary → List ℕ
link_step_lines begin column numbered =
    timed_rows begin column (Link numbered.0) (sent_step_rows numbered.1)
    ++ (timed_rows begin column (Link numbered.0) (drop_rows numbered.1.dropped) ++ timed_rows begin column (Link numbered.0) (queue_step_rows numbered.1))

-- of each flow, and of each link, by number from 0 on
abbrev pub step_rows : ℕ → Option TextNames → List FlowStep → List LinkSummary → List ℕ
step_rows begin column flows links = flat_map (flow_step_lines begin column) (enumerate_from 0 flows) ++ flat_map (link_step_lines begin column) (enumerate_from 0 links)
