-- The statements: what a line says, or its first fault.
use Rattle.std.specs.Prelude.{ℕ, ◌-◌, Bool, false, ◌||◌, ◌==◌, nat_le, List, [], ◌∷◌, ◌++◌, length, codes, Option, Some, None, Result, Ok, Err, if◌then◌else◌, unwrap_or, is_some}
use Rattle.std.specs.List.{slice_get, slice_index_or, list_all}
use Rattle.std.specs.Str.{bytes_eq}
use Rattle.sim_time.specs.declared.variant.Iw.{Iw}
use Rattle.sim_time.specs.declared.variant.Iw.TheVariants.{Iw3, Iw10}
use Rattle.sim_time.specs.declared.variant.Variant.{Variant}
use Rattle.sim_time.specs.declared.variant.TheConstants.{RENO}
use Rattle.scenario_asm.specs.Bounds.{LEAST_RATE, GREATEST_RATE, LATEST_END, LONGEST_DELAY, GREATEST_MSS, MOST_SEGMENTS, GREATEST_RWND, LONGEST_DELACK, MOST_LOSE, MOST_NODES, MOST_LINKS, MOST_FLOWS}
use Rattle.scenario_image.specs.declared.parts.NodeKind.{NodeKind}
use Rattle.scenario_image.specs.declared.parts.NodeKind.TheVariants.{Sender, Receiver, Router}
use Rattle.sim_time.specs.declared.queue_kind.QueueKind.{QueueKind}
use Rattle.sim_time.specs.declared.queue_kind.QueueKind.TheVariants.{DropTail, Codel}
use Rattle.scenario_image.specs.declared.parts.FlowPart.{FlowPart}
use Rattle.scenario_asm.specs.declared.fault.Fault.{Fault}
use Rattle.scenario_asm.specs.declared.fault.Fault.TheVariants.{E1, E2, E4}
use Rattle.scenario_asm.specs.declared.statement.LinkLine.{LinkLine}
use Rattle.scenario_asm.specs.declared.statement.Statement.{Statement}
use Rattle.scenario_asm.specs.declared.statement.Statement.TheVariants.{Sim, Node, Link, Flow, Route, Lose}
use Rattle.scenario_asm.specs.Lines.{Word, words_of, is_printable}
use Rattle.scenario_asm.specs.Numbers.{number, number_verdict}
use Rattle.scenario_asm.specs.TcpWords.{tcp_named}
use Rattle.scenario_asm.specs.Names.{Known, number_of, lost_of, last_of, least_above, is_full_router, new_name_verdict, node_verdict, other_node_verdict, sender_verdict, receiver_verdict, router_verdict, destination_verdict, link_verdict, outgoing_verdict}
use Rattle.scenario_asm.specs.Verdicts.{Verdict, first_fault, faulty_unless, judged_line}

-- a word of a line, counted from 0
abbrev pub nth : List Word → ℕ → Word
nth words place = slice_index_or words place []

-- `sim END`
abbrev pub sim_at : List Word → Result Statement Fault
sim_at words = judged_line (length words == 2) (number_verdict 1 LATEST_END (nth words 1) ∷ []) false (Sim (number (nth words 1)))

-- what a word says that a node does
abbrev pub kind_named : Word → Option NodeKind
kind_named word =
    if bytes_eq word (codes "sender") then Some Sender else (if bytes_eq word (codes "receiver") then Some Receiver else (if bytes_eq word (codes "router") then Some Router else None))

-- the verdicts on the words of `node` after the first
abbrev pub node_verdicts : Known → List Word → List Verdict
node_verdicts known words = new_name_verdict known (nth words 1) ∷ faulty_unless (is_some (kind_named (nth words 2))) E4 ∷ []

-- `node NAME KIND`
abbrev pub node_statement : Known → List Word → Result Statement Fault
node_statement known words =
    judged_line (length words == 3) (node_verdicts known words) (nat_le MOST_NODES (length known.kinds)) (Node (nth words 1) (unwrap_or (kind_named (nth words 2)) Router))

-- the seventh word is `droptail`
abbrev pub is_drop_tail : List Word → Bool
is_drop_tail words = bytes_eq (nth words 6) (codes "droptail")

-- the seventh word is `codel`
abbrev pub is_codel : List Word → Bool
is_codel words = bytes_eq (nth words 6) (codes "codel")

-- `droptail` makes 8 words and `codel` 11; another seventh word has 8 or 11
abbrev pub has_link_length : List Word → Bool
has_link_length words = if is_drop_tail words then length words == 8 else (if is_codel words then length words == 11 else (length words == 8 || length words == 11))

-- the verdicts on the numbers of CoDel
abbrev pub codel_number_verdicts : List Word → List Verdict
codel_number_verdicts words = number_verdict 1 LONGEST_DELAY (nth words 8) ∷ number_verdict 1 LONGEST_DELAY (nth words 9) ∷ number_verdict 1 65535 (nth words 10) ∷ []

-- the verdicts on the words of `link` after the eighth: on the numbers of CoDel, where the seventh word asks for them
abbrev pub codel_verdicts : List Word → List Verdict
codel_verdicts words = if is_codel words then codel_number_verdicts words else []

-- the numbers of CoDel, where the seventh word asks for them
abbrev pub codel_verdict : List Word → Verdict
codel_verdict words = if is_codel words then first_fault (codel_number_verdicts words) else None

-- the verdicts on the words of `link` after the first and up to the eighth
abbrev pub link_first_verdicts : Known → List Word → List Verdict
link_first_verdicts known words =
    new_name_verdict known (nth words 1)
    ∷ node_verdict known (nth words 2)
    ∷ other_node_verdict known (number_of known (nth words 2)) (nth words 3)
    ∷ number_verdict LEAST_RATE GREATEST_RATE (nth words 4)
    ∷ number_verdict 1 LONGEST_DELAY (nth words 5)
    ∷ faulty_unless (is_drop_tail words || is_codel words) E4
    ∷ number_verdict 1 65535 (nth words 7)
    ∷ []

-- the verdicts on the words of `link` after the first
abbrev pub link_verdicts : Known → List Word → List Verdict
link_verdicts known words = link_first_verdicts known words ++ codel_verdict words ∷ []

-- how the queue drops
abbrev pub queue_said : List Word → QueueKind
queue_said words = if is_codel words then Codel (record { target = number (nth words 8); interval = number (nth words 9); maxpacket = number (nth words 10) }) else DropTail

-- the link that the words say
abbrev pub link_said : Known → List Word → LinkLine
link_said known words =
    record { from = number_of known (nth words 2); to = number_of known (nth words 3); rate = number (nth words 4); delay = number (nth words 5); queue = queue_said words; capacity = number (nth words 7) }

-- `link NAME FROM TO RATE DELAY droptail CAP`, `link NAME FROM TO RATE DELAY codel CAP TARGET INTERVAL MAXPACKET`
abbrev pub link_statement : Known → List Word → Result Statement Fault
link_statement known words =
    judged_line (has_link_length words) (link_verdicts known words) (nat_le MOST_LINKS (length known.links) || is_full_router known (number_of known (nth words 2))) (Link (nth words 1) (link_said known words))

-- `flow` has nine words, or two more
abbrev pub has_flow_length : List Word → Bool
has_flow_length words = length words == 9 || length words == 11

-- the initial window that a word names
abbrev pub iw_named : Word → Option Iw
iw_named word = if bytes_eq word (codes "iw3") then Some Iw3 else (if bytes_eq word (codes "iw10") then Some Iw10 else None)

-- what a word names that may be left out, and then stands for a default
abbrev pub named_or : {A : Type 0} → A → (Word → Option A) → Option Word → Option A
named_or default named None = Some default
named_or default named (Some word) = named word

-- what the tenth word names; where it is left out, reno
abbrev pub tcp_at : List Word → Option Variant
tcp_at words = named_or RENO tcp_named (slice_get words 9)

-- what the eleventh word names; where it is left out, the smaller initial window
abbrev pub iw_at : List Word → Option Iw
iw_at words = named_or Iw3 iw_named (slice_get words 10)

abbrev pub tcp_verdict : List Word → Verdict
tcp_verdict words = faulty_unless (is_some (tcp_at words)) E4

abbrev pub iw_verdict : List Word → Verdict
iw_verdict words = faulty_unless (is_some (iw_at words)) E4

abbrev pub tcp_said : List Word → Variant
tcp_said words = unwrap_or (tcp_at words) RENO

abbrev pub iw_said : List Word → Iw
iw_said words = unwrap_or (iw_at words) Iw3

-- the verdicts on the words of `flow` after the first
abbrev pub flow_verdicts : Known → List Word → List Verdict
flow_verdicts known words =
    new_name_verdict known (nth words 1)
    ∷ sender_verdict known (nth words 2)
    ∷ receiver_verdict known (nth words 3)
    ∷ number_verdict 1 GREATEST_MSS (nth words 4)
    ∷ number_verdict 1 MOST_SEGMENTS (nth words 5)
    ∷ number_verdict 0 (LATEST_END - 1) (nth words 6)
    ∷ number_verdict (number (nth words 4)) GREATEST_RWND (nth words 7)
    ∷ number_verdict 0 LONGEST_DELACK (nth words 8)
    ∷ tcp_verdict words
    ∷ iw_verdict words
    ∷ []

-- the flow that the words say
abbrev pub flow_said : Known → List Word → FlowPart
flow_said known words = record {
  sender = number_of known (nth words 2);
  receiver = number_of known (nth words 3);
  mss = number (nth words 4);
  segments = number (nth words 5);
  start = number (nth words 6);
  rwnd = number (nth words 7);
  delack = number (nth words 8);
  variant = record (tcp_said words) { iw = iw_said words };
}

-- `flow NAME SENDER RECEIVER MSS SEGMENTS START RWND DELACK`, and behind these with both or neither of a word of TcpWords, and `iw3` or `iw10`
abbrev pub flow_at : Known → List Word → Result Statement Fault
flow_at known words = judged_line (has_flow_length words) (flow_verdicts known words) (nat_le MOST_FLOWS (length known.flows)) (Flow (nth words 1) (flow_said known words))

-- the verdicts on the words of `route` after the first
abbrev pub route_verdicts : Known → List Word → List Verdict
route_verdicts known words =
    router_verdict known (nth words 1)
    ∷ destination_verdict known (number_of known (nth words 1)) (nth words 2)
    ∷ outgoing_verdict known (number_of known (nth words 1)) (nth words 3)
    ∷ []

-- `route ROUTER DEST LINK`
abbrev pub route_at : Known → List Word → Result Statement Fault
route_at known words =
    judged_line (length words == 4) (route_verdicts known words) false (Route (record { router = number_of known (nth words 1); destination = number_of known (nth words 2); link = number_of known (nth words 3) }))

-- the verdicts on the words of `lose` after the first
abbrev pub lose_verdicts : Known → List Word → List Verdict
lose_verdicts known words = link_verdict known (nth words 1) ∷ number_verdict (least_above (last_of (lost_of known (number_of known (nth words 1))))) MOST_SEGMENTS (nth words 2) ∷ []

-- `lose LINK NUMBER`
abbrev pub lose_at : Known → List Word → Result Statement Fault
lose_at known words =
    judged_line (length words == 3) (lose_verdicts known words) (nat_le MOST_LOSE (length (lost_of known (number_of known (nth words 1))))) (Lose (record { link = number_of known (nth words 1); number = number (nth words 2) }))

-- what a line's words say, which are not none
abbrev pub statement_at : Known → List Word → Result Statement Fault
statement_at known words =
    if bytes_eq (nth words 0) (codes "sim") then sim_at words
    else (if bytes_eq (nth words 0) (codes "node") then node_statement known words
    else (if bytes_eq (nth words 0) (codes "link") then link_statement known words
    else (if bytes_eq (nth words 0) (codes "flow") then flow_at known words
    else (if bytes_eq (nth words 0) (codes "route") then route_at known words
    else (if bytes_eq (nth words 0) (codes "lose") then lose_at known words
    else Err E2)))))

-- what a line with a statement says
abbrev pub as_said : Result Statement Fault → Result (Option Statement) Fault
as_said (Ok statement) = Ok (Some statement)
as_said (Err fault) = Err fault

-- what a line says: nothing, a statement, or its first fault
unfoldable pub line_at : Known → List ℕ → Result (Option Statement) Fault
line_at known line =
    if list_all is_printable line then (if length (words_of line) == 0 then Ok None else as_said (statement_at known (words_of line))) else Err E1
