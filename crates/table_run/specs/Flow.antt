-- What the two ends of a flow know, and what a packet of the flow may carry.
use Rattle.std.specs.Prelude.{◌≡◌, ℕ, ◌+◌, ◌*◌, ◌%◌, ◌≤◌, ◌⊎◌, Option, None, Some, IfSome}
use Rattle.std.specs.List.{slice_get}
use Rattle.packet_chain.specs.declared.packet.Packet.{Packet}
use Rattle.packet_chain.specs.declared.packet.Kind.{Kind}
use Rattle.packet_chain.specs.declared.packet.Kind.TheVariants.{Data, Ack}
use Rattle.reno_sender.specs.declared.fields.SenderFields.{SenderFields}
use Rattle.reno_sender.specs.Fields.{IsSound}
use Rattle.reno_receiver.specs.Received.{ReceiverState, IsReceived, IsWellFormed, next_of}
use Rattle.scenario_image.specs.declared.parts.FlowPart.{FlowPart}
use Rattle.scenario_image.specs.declared.parts.ScenarioParts.{ScenarioParts}
use Rattle.scenario_image.specs.declared.paths.Path.{Path}
use Rattle.scenario_image.specs.Paths.{data_path, ack_path, IsOnWay}
use Rattle.node_core.specs.declared.role.Role.{Role}
use Rattle.node_core.specs.declared.role.Role.TheVariants.{Sends, Receives, Routes}
use Rattle.table_run.specs.State.{State, part_at}

-- the greatest byte number that a sender has sent; 0 at other nodes
abbrev pub high_of : Role → ℕ
high_of (Sends flow fields) = fields.high
high_of (Receives flow state) = 0
high_of (Routes table) = 0

-- the next byte that a receiver waits for; 0 at other nodes
abbrev pub next_at : Role → ℕ
next_at (Sends flow fields) = 0
next_at (Receives flow state) = next_of state
next_at (Routes table) = 0

-- when a sender's retransmission timer ends, if it is set
abbrev pub deadline_of : Role → Option ℕ
deadline_of (Sends flow fields) = fields.deadline
deadline_of (Receives flow state) = None
deadline_of (Routes table) = None

-- when a receiver's delayed acknowledgement is due, if one waits
abbrev pub timer_of : Role → Option ℕ
timer_of (Sends flow fields) = None
timer_of (Receives flow state) = state.timer
timer_of (Routes table) = None

abbrev pub sent_high : State → FlowPart → ℕ
sent_high s flow = high_of (part_at s flow.sender).role

abbrev pub received_next : State → FlowPart → ℕ
received_next s flow = next_at (part_at s flow.receiver).role

-- a segment that was sent: a whole multiple of mss, below the sender's high
pub record IsSent (flow : FlowPart) (high : ℕ) (x : Packet) : Type 0 where
  pub bytes_are : x.bytes ≡ flow.mss + 40
  pub multiple : x.number % flow.mss ≡ 0
  pub by_high : x.number + flow.mss ≤ high

-- a first segment was received, or a second was sent: without that no acknowledgement is given
abbrev pub IsAnswerable : ℕ → ℕ → ℕ → Type 0
IsAnswerable mss high next = (mss ≤ next) ⊎ (2 * mss ≤ high)

-- an acknowledgement that was given: a whole multiple of mss, at most the receiver's next number; it is for byte 0 only where a second segment was sent
pub record IsGiven (flow : FlowPart) (high next : ℕ) (x : Packet) : Type 0 where
  pub bytes_are : x.bytes ≡ 40
  pub multiple : x.number % flow.mss ≡ 0
  pub by_next : x.number ≤ next
  pub early : IsAnswerable flow.mss high x.number

-- what a packet of a kind carries, where its flow has come so far
abbrev pub Carries : FlowPart → ℕ → ℕ → Kind → Packet → Type 0
Carries flow high next Data x = IsSent flow high x
Carries flow high next Ack x = IsGiven flow high next x

-- the path that a flow's packets of a kind take
abbrev pub path_of : Kind → FlowPart → Path
path_of Data flow = data_path flow
path_of Ack flow = ack_path flow

-- a packet that waits at a link or is under way over it: it is one of its flow's, and the link is on its way
pub record IsUnderWay (p : ScenarioParts) (s : State) (link : ℕ) (x : Packet) : Type 0 where
  pub flow : FlowPart
  pub its_flow : slice_get p.flows x.flow ≡ Some flow
  pub carries : Carries flow (sent_high s flow) (received_next s flow) x.kind x
  pub on_way : IsOnWay p (path_of x.kind flow) link

-- the two ends of the flow of a number, at a moment: what they are, that what the one received the other sent, and that the retransmission timer ends at most 60 seconds later
pub record IsSoundFlow (s : State) (now number : ℕ) (flow : FlowPart) : Type 0 where
  pub fields : SenderFields
  pub received : ReceiverState
  pub sender_role : (part_at s flow.sender).role ≡ Sends number fields
  pub receiver_role : (part_at s flow.receiver).role ≡ Receives number received
  pub sound : IsSound fields
  pub its_mss : fields.mss ≡ flow.mss
  pub its_segments : fields.segments ≡ flow.segments
  pub its_rwnd : fields.rwnd ≡ flow.rwnd
  pub its_variant : fields.variant ≡ flow.variant
  pub timed_before : IfSome fields.timing (λ t. t.sent_at ≤ now)
  pub deadline_soon : IfSome fields.deadline (λ t. t ≤ now + 60000000000)
  pub well_formed : IsWellFormed received
  pub same_mss : received.mss ≡ flow.mss
  pub its_delack : received.delack ≡ flow.delack
  pub received_sent : (seq : ℕ) → IsReceived received seq → seq + flow.mss ≤ fields.high
  pub next_sent : next_of received ≤ fields.high
  pub answer_waits : IfSome received.timer (λ _. IsAnswerable flow.mss fields.high (next_of received))
