-- What a flow waits for in a state of a net: how it stands, where its packets are, and its timers.
use Rattle.std.specs.Prelude.{ℕ, ◌==◌, Bool, if◌then◌else◌, List, [], ◌∷◌, ◌++◌, filter, codes, decimal, Option, None, Some}
use Rattle.std.specs.List.{flat_map, enumerate_from}
use Rattle.std.specs.FinMap as map
use Rattle.packet_chain.specs.declared.packet.Packet.{Packet}
use Rattle.packet_chain.specs.Stamped.{Stamped}
use Rattle.sim_time.specs.declared.key.Key.{Key}
use Rattle.reno_sender.specs.declared.fields.SenderFields.{SenderFields}
use Rattle.aqm.specs.Queue.{waiting_in}
use Rattle.node_core.specs.declared.event.Event.{Event}
use Rattle.node_core.specs.declared.event.Event.TheVariants.{Start, Rto, DelAck, Free, Arrive}
use Rattle.node_core.specs.Part.{LinkState, PartState}
use Rattle.table_run.specs.State.{State}
use Rattle.trace_text.specs.Words.{◌+++◌}
use Rattle.trace_text.specs.Line.{kind_name}
use Rattle.trace_text.specs.Dump.{numbers_below}
use Rattle.flow_waits.specs.declared.names.ScenarioNames.{ScenarioNames}
use Rattle.flow_waits.specs.declared.timer.FlowTimer.{FlowTimer}
use Rattle.flow_waits.specs.declared.timer.FlowTimer.TheVariants.{Starts, Retransmission, DelayedAcknowledgement}
use Rattle.flow_waits.specs.Stalled.{sender_of, start_due, has_packets}
use Rattle.flow_waits.specs.Names.{NameList, part_name, named}
use Rattle.flow_waits.specs.FlowStatus.{own_timer, first_timer, flow_status_of, flow_status_text}
use Rattle.flow_waits.specs.declared.awaited.Awaited.{Awaited}
use Rattle.flow_waits.specs.declared.awaited.Awaited.TheVariants.{Waits, Arrives, IsDue}

-- the first line; none where no node sends the flow
abbrev pub sender_line : NameList → ℕ → Option ℕ → Bool → List (Key × Event) → Option SenderFields → List ℕ
sender_line flows flow start packets pending None = []
sender_line flows flow start packets pending (Some f) =
    named (codes "flow ") flows flow ++ flow_status_text f (first_timer flow pending) (flow_status_of start packets f)

abbrev pub flow_status_line : NameList → ℕ → List PartState → List (Key × Event) → List ℕ
flow_status_line flows flow parts pending =
    sender_line flows flow (start_due flow pending) (has_packets flow parts pending) pending (sender_of flow parts)

-- a packet of the flow that waits at a place of a link's queue
abbrev pub waiting_one : ℕ → ℕ → ℕ × Stamped → List Awaited
waiting_one flow link placed = if placed.1.0.flow == flow then Waits placed.1.0 placed.0 link ∷ [] else []

-- those of a link, from the head of its queue on, which is place 1
abbrev pub waiting_at : ℕ → LinkState → List Awaited
waiting_at flow link = flat_map (waiting_one flow link.port.link) (enumerate_from 1 (waiting_in link.port.queue))

-- those of the link of a number, where it is one of these
unfoldable pub waiting_from : ℕ → ℕ → List LinkState → List Awaited
waiting_from flow number links = flat_map (waiting_at flow) (filter (λ (link : LinkState). link.port.link == number) links)

-- at whatever node it is
abbrev pub waiting_numbered : ℕ → List PartState → ℕ → List Awaited
waiting_numbered flow parts number = flat_map (λ (part : PartState). waiting_from flow number part.links) parts

-- a packet of the flow that is under way, with the node and the moment at which it arrives
abbrev pub arriving : ℕ → Key → Event → List Awaited
arriving flow key (Start own) = []
arriving flow key (Rto own) = []
arriving flow key (DelAck own) = []
arriving flow key (Free link) = []
arriving flow key (Arrive packet) = if packet.flow == flow then Arrives packet key.node key.time ∷ [] else []

-- a timer of the flow
abbrev pub due_if : ℕ → Option FlowTimer → List Awaited
due_if time None = []
due_if time (Some timer) = IsDue (record { time = time; timer = timer }) ∷ []

abbrev pub due : ℕ → Key → Event → List Awaited
due flow key event = due_if key.time (own_timer flow event)

-- a packet: what it carries, and its number
abbrev pub packet_text : Packet → List ℕ
packet_text packet = kind_name packet.kind +++ codes " " +++ decimal packet.number

abbrev pub timer_word : FlowTimer → List ℕ
timer_word Starts = codes "start"
timer_word Retransmission = codes "rto"
timer_word DelayedAcknowledgement = codes "delack"

abbrev pub awaited_text : ScenarioNames → Awaited → List ℕ
awaited_text names (Waits packet place link) = packet_text packet +++ codes " at place " +++ decimal place +++ codes " of link " +++ part_name names.links link
awaited_text names (Arrives packet node time) = packet_text packet +++ codes " to node " +++ part_name names.nodes node +++ codes " at " +++ decimal time +++ codes " ns"
awaited_text names (IsDue due) = timer_word due.timer +++ codes " at " +++ decimal due.time +++ codes " ns"

-- a line of them, with commas between them; no line where there are none
abbrev pub further_text : ScenarioNames → List Awaited → List ℕ
further_text names rest = flat_map (λ it. codes ", " ++ awaited_text names it) rest +++ codes "\n"

unfoldable pub list_line : List ℕ → ScenarioNames → List Awaited → List ℕ
list_line heading names [] = []
list_line heading names (it ∷ rest) = heading +++ awaited_text names it +++ further_text names rest

-- of the nodes, and what is pending in the order of keys: the flow's packets that wait, link by link in rising number, those under way in the order of the keys of their arrivals, and its timers in the order of their keys
unfoldable pub lists_text : ScenarioNames → ℕ → List PartState → List (Key × Event) → List ℕ
lists_text names flow parts pending =
    list_line (codes "waits: ") names (flat_map (waiting_numbered flow parts) (numbers_below 1024))
    ++ list_line (codes "under way: ") names (flat_map (λ (entry : Key × Event). arriving flow entry.0 entry.1) pending)
    ++ list_line (codes "alarms: ") names (flat_map (λ (entry : Key × Event). due flow entry.0 entry.1) pending)

abbrev pub waits_in : ScenarioNames → ℕ → List PartState → List (Key × Event) → List ℕ
waits_in names flow parts pending = flow_status_line names.flows flow parts pending ++ lists_text names flow parts pending

abbrev pub waits_bytes : ScenarioNames → ℕ → State → List ℕ
waits_bytes names flow state = waits_in names flow state.parts (map.entries state.pending)
