-- A line of the trace.
use Rattle.std.specs.Prelude.{ℕ, List, [], ◌∷◌, ◌++◌, map, codes, decimal, nat_lt, if◌then◌else◌}
use Rattle.packet_chain.specs.declared.packet.Kind.{Kind}
use Rattle.packet_chain.specs.declared.packet.Kind.TheVariants.{Data, Ack}
use Rattle.packet_chain.specs.declared.packet.Packet.{Packet}
use Rattle.reno_sender.specs.declared.fields.SenderFields.{SenderFields}
use Rattle.sim_time.specs.declared.key.Key.{Key}
use Rattle.port.specs.declared.acts.Act.{Act}
use Rattle.port.specs.declared.acts.Act.TheVariants.{Tx, Dropped}
use Rattle.aqm.specs.DropReasons.{reason_word}
use Rattle.node_core.specs.declared.event.Event.{Event}
use Rattle.node_core.specs.declared.event.Event.TheVariants.{Start, Rto, DelAck, Free, Arrive}
use Rattle.node_core.specs.declared.line.After.{After}
use Rattle.node_core.specs.declared.line.After.TheVariants.{AtSender, AtReceiver, AtRouter}
use Rattle.node_core.specs.TraceLine.{TraceLine}
use Rattle.trace_text.specs.Words.{line_of_words, spaced_words}

-- the four numbers that order the event
abbrev pub key_words : Key → List (List ℕ)
key_words k = decimal k.time ∷ decimal k.node ∷ decimal k.source ∷ decimal k.number ∷ []

-- those behind the time, each after a space
abbrev pub place_text : Key → List ℕ
place_text k = spaced_words (decimal k.node ∷ decimal k.source ∷ decimal k.number ∷ [])

-- what a packet carries
abbrev pub kind_name : Kind → List ℕ
kind_name Data = codes "data"
kind_name Ack = codes "ack"

-- what the event was: of a flow, of a link, or a packet's arrival
abbrev pub event_words : Event → List (List ℕ)
event_words (Start flow) = codes "start" ∷ decimal flow ∷ []
event_words (Rto flow) = codes "rto" ∷ decimal flow ∷ []
event_words (DelAck flow) = codes "delack" ∷ decimal flow ∷ []
event_words (Free link) = codes "free" ∷ decimal link ∷ []
event_words (Arrive p) = kind_name p.kind ∷ decimal p.flow ∷ decimal p.number ∷ []

-- fast recovery; else slow start where cwnd is below ssthresh; else congestion avoidance
abbrev pub phase_name : SenderFields → List ℕ
phase_name s =
    if s.recovery then codes "fr" else (if nat_lt s.cwnd s.ssthresh then codes "ss" else codes "ca")

-- the state of the event's node after it
abbrev pub after_words : After → List (List ℕ)
after_words (AtSender s) =
    (codes "una=" ++ decimal s.una) ∷ (codes "nxt=" ++ decimal s.nxt)
    ∷ (codes "cwnd=" ++ decimal s.cwnd) ∷ (codes "ssthresh=" ++ decimal s.ssthresh)
    ∷ (codes "phase=" ++ phase_name s) ∷ []
after_words (AtReceiver next) = (codes "next=" ++ decimal next) ∷ []
after_words AtRouter = []

-- flow and number of a packet, each after a colon
abbrev pub packet_name : Packet → List ℕ
packet_name p = codes ":" ++ decimal p.flow ++ codes ":" ++ decimal p.number

-- the link that began to send a packet, or the reason why one was dropped
abbrev pub act_word : Act → List ℕ
act_word (Tx link p) = codes "tx=" ++ decimal link ++ packet_name p
act_word (Dropped link reason p) = codes "drop=" ++ reason_word reason ++ packet_name p

-- the n-th event's line: n, its key, what it was, the state after it, its acts in order
abbrev pub line_bytes : ℕ → TraceLine → List ℕ
line_bytes n t =
    line_of_words (decimal n ∷ key_words t.key ++ event_words t.event ++ after_words t.after ++ map act_word t.acts)
