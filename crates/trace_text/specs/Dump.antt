-- The dump of a net: its position, its nodes, its links and the events that are pending.
use Rattle.std.specs.Prelude.{ℕ, ◌==◌, Bool, if◌then◌else◌, List, [], ◌∷◌, ◌++◌, map as map_list, filter, codes, decimal, Option, None, Some}
use Rattle.std.specs.List.{flat_map, join_by, enumerate_from, range_with_len}
use Rattle.std.specs.FinMap as map
use Rattle.packet_chain.specs.declared.packet.Kind.{Kind}
use Rattle.packet_chain.specs.declared.packet.Kind.TheVariants.{Data, Ack}
use Rattle.packet_chain.specs.Stamped.{Stamped}
use Rattle.reno_sender.specs.declared.fields.SenderFields.{SenderFields}
use Rattle.reno_sender.specs.declared.fields.Timing.{Timing}
use Rattle.reno_receiver.specs.Received.{ReceiverState, next_of, held_of}
use Rattle.sim_time.specs.declared.key.Key.{Key}
use Rattle.aqm.specs.Queue.{waiting_in}
use Rattle.aqm.specs.declared.queue.Queue.{Queue}
use Rattle.aqm.specs.declared.readout.Readout.{Readout}
use Rattle.aqm.specs.Readouts.{readout_word, readouts_of, read_of}
use Rattle.node_core.specs.declared.event.Event.{Event}
use Rattle.node_core.specs.declared.role.Role.{Role}
use Rattle.node_core.specs.declared.role.Role.TheVariants.{Sends, Receives, Routes}
use Rattle.node_core.specs.Part.{LinkState, PartState}
use Rattle.net_machine.specs.Run.{Reached}
use Rattle.trace_text.specs.Words.{line_of_words, spaced_words, ◌+++◌}
use Rattle.trace_text.specs.Line.{key_words, event_words}

-- 1 where it holds, 0 where it does not
abbrev pub flag : Bool → List ℕ
flag b = if b then codes "1" else codes "0"

-- a number, a dash where there is none
abbrev pub or_dash : Option ℕ → List ℕ
or_dash None = codes "-"
or_dash (Some n) = decimal n

-- texts with commas between them, a dash where there are none
abbrev pub in_commas : {X : Type 0} → (X → List ℕ) → List X → List ℕ
in_commas text [] = codes "-"
in_commas text (x ∷ xs) = join_by text (codes ",") (x ∷ xs)

-- the acknowledgement number that ends the timing, and when the timed segment was sent
abbrev pub timing_text : Option Timing → List ℕ
timing_text None = codes "-"
timing_text (Some t) = decimal t.number +++ codes "@" +++ decimal t.sent_at

-- the lines of a sender, of a receiver and of a router, with the number of the node and of the flow that ends there
abbrev pub sender_line : ℕ → ℕ → SenderFields → List ℕ
sender_line node flow s =
    codes "node " +++ decimal node +++ codes " sender " +++ decimal flow
    +++ codes " una=" +++ decimal s.una +++ codes " nxt=" +++ decimal s.nxt +++ codes " high=" +++ decimal s.high
    +++ codes " cwnd=" +++ decimal s.cwnd +++ codes " ssthresh=" +++ decimal s.ssthresh
    +++ codes " dups=" +++ decimal s.dups +++ codes " lt=" +++ decimal s.lt +++ codes " fr=" +++ flag s.recovery
    +++ codes " timing=" +++ timing_text s.timing +++ codes " srtt=" +++ or_dash s.srtt +++ codes " rttvar=" +++ decimal s.rttvar
    +++ codes " rto=" +++ decimal s.rto +++ codes " resent=" +++ flag s.resent +++ codes "\n"

abbrev pub receiver_line : ℕ → ℕ → ReceiverState → List ℕ
receiver_line node flow r =
    codes "node " +++ decimal node +++ codes " receiver " +++ decimal flow +++ codes " next=" +++ decimal (next_of r)
    +++ codes " held=" +++ in_commas decimal (held_of r) +++ codes "\n"

abbrev pub router_line : ℕ → List ℕ
router_line node = codes "node " +++ decimal node +++ codes " router\n"

-- the line of a node of a number, by what it does
abbrev pub role_line : ℕ → Role → List ℕ
role_line node (Sends flow s) = sender_line node flow s
role_line node (Receives flow r) = receiver_line node flow r
role_line node (Routes table) = router_line node

abbrev pub node_line : ℕ × PartState → List ℕ
node_line numbered = role_line numbered.0 numbered.1.role

-- d for data, a for an acknowledgement
abbrev pub kind_letter : Kind → List ℕ
kind_letter Data = codes "d"
kind_letter Ack = codes "a"

-- a packet that waits: its flow, what it carries and its number, and when it entered the queue
abbrev pub waiting_text : Stamped → List ℕ
waiting_text cell =
    decimal cell.0.flow +++ codes ":" +++ kind_letter cell.0.kind +++ codes ":" +++ decimal cell.0.number
    +++ codes "@" +++ decimal cell.1

-- a number that a queue keeps beside the packets, with its name; a dash where there is none
abbrev pub readout_text : Queue → Readout → List ℕ
readout_text q readout = readout_word readout +++ codes "=" +++ or_dash (read_of q readout)

abbrev pub control_words : Queue → List (List ℕ)
control_words q = map_list (readout_text q) (readouts_of q)

-- a link's line: what was offered to it, what it has sent, and its queue from the head
abbrev pub link_line : LinkState → List ℕ
link_line link =
    codes "link " +++ decimal link.port.link +++ codes " offered=" +++ decimal link.port.offered +++ codes " sent=" +++ decimal link.port.sent
    +++ codes " queue=" +++ in_commas waiting_text (waiting_in link.port.queue) +++ spaced_words (control_words link.port.queue) +++ codes "\n"

-- the numbers below this one, rising
unfoldable pub numbers_below : ℕ → List ℕ
numbers_below n = range_with_len 0 n

-- the link of a number
abbrev pub links_numbered : List PartState → ℕ → List LinkState
links_numbered parts number = flat_map (λ (part : PartState). filter (λ (link : LinkState). link.port.link == number) part.links) parts

-- all links in rising number: a net has at most 1,024, with numbers below that
abbrev pub links_in_order : List PartState → List LinkState
links_in_order parts = flat_map (links_numbered parts) (numbers_below 1024)

-- the line of an event that is pending
abbrev pub event_line : Key × Event → List ℕ
event_line entry = line_of_words (codes "event" ∷ key_words entry.0 ++ event_words entry.1)

-- how many events were run; each node; each link; each pending event in the order of keys
abbrev pub dump_bytes : Reached → List ℕ
dump_bytes net =
    codes "at " +++ decimal net.position +++ codes "\n"
    +++ flat_map node_line (enumerate_from 0 net.state.parts)
    +++ flat_map link_line (links_in_order net.state.parts)
    +++ flat_map event_line (map.entries net.state.pending)
