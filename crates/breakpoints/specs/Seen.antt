-- What is read of a state, and what a condition on a link, or on a change, says of a line: it compares the state before with that after.
use Rattle.std.specs.Prelude.{◌≡◌, ◌≢◌, ◌⊎◌, ◌==◌, ◌-◌, ℕ, suc, Bool, ◌||◌, if◌then◌else◌, List, [], ◌∷◌, length, map as each, slice_get, Option, None, Some, IfSome, is_some, option_map, option_and_then}
use Rattle.std.specs.Option.{option_or}
use Rattle.packet_chain.specs.Stamped.{Stamped}
use Rattle.aqm.specs.Queue.{waiting_in}
use Rattle.aqm.specs.declared.queue.Queue.{Queue as LinkQueue}
use Rattle.aqm.specs.declared.readout.Readout.TheVariants.{Count as DropCount}
use Rattle.aqm.specs.Readouts.{read_of}
use Rattle.reno_sender.specs.declared.fields.SenderFields.{SenderFields}
use Rattle.reno_receiver.specs.Received.{ReceiverState, next_of}
use Rattle.node_core.specs.declared.event.Event.TheVariants.{Free}
use Rattle.node_core.specs.declared.role.Role.{Role}
use Rattle.node_core.specs.Part.{LinkState, PartState, sender_in, receiver_in}
use Rattle.node_core.specs.TraceLine.{TraceLine}
use Rattle.table_run.specs.State.{State}
use Rattle.net_machine.specs.Run.{Reached}
use Rattle.flow_waits.specs.Stalled.{sender_for, sender_of}
use Rattle.breakpoints.specs.declared.values.Asked.{Asked}
use Rattle.breakpoints.specs.declared.values.Owner.{Owner}
use Rattle.breakpoints.specs.declared.values.Owner.TheVariants as owner
use Rattle.breakpoints.specs.declared.values.Reading.{Reading}
use Rattle.breakpoints.specs.declared.values.Reading.TheVariants.{Number, Nothing}
use Rattle.breakpoints.specs.declared.values.Value.{Value as AnyValue}
use Rattle.breakpoints.specs.declared.values.Value.TheVariants.{Queue, Wait, Count}
use Rattle.breakpoints.specs.declared.values.ValueOf.{ValueOf}
use Rattle.breakpoints.specs.declared.values.Values.{Values}
use Rattle.breakpoints.specs.declared.seen.SeenLink.{SeenLink}
use Rattle.breakpoints.specs.declared.seen.SeenValue.{SeenValue}
use Rattle.breakpoints.specs.declared.seen.Seen.{Seen}
use Rattle.breakpoints.specs.declared.seen.Sought.{Sought}
use Rattle.breakpoints.specs.declared.seen.Sought.TheVariants.{Link, Value}
use Rattle.breakpoints.specs.declared.breaks.Break.{Break}
use Rattle.breakpoints.specs.Values.{HoldsOf, asked_of, is_next, number_or_nothing, owner_of, sender_value}

-- the link of a number, among those that leave a node, and in a net: the first
abbrev pub link_among : ℕ → List LinkState → Option LinkState
link_among number [] = None
link_among number (link ∷ links) = if link.port.link == number then Some link else link_among number links

abbrev pub link_in : ℕ → List PartState → Option LinkState
link_in number [] = None
link_in number (part ∷ parts) = option_or (link_among number part.links) (link_in number parts)

-- how many packets were offered to a link
abbrev pub offered_in : ℕ → State → Option ℕ
offered_in number s = option_map (λ (link : LinkState). link.port.offered) (link_in number s.parts)

-- for how long the first packet has waited at a moment; none where none waits
abbrev pub head_wait : ℕ → LinkState → Option ℕ
head_wait now link = option_map (λ (cell : Stamped). now - cell.1) (slice_get (waiting_in link.port.queue) 0)

-- the count by which a queue drops; drop-tail has none
abbrev pub count_of : LinkQueue → Option ℕ
count_of q = read_of q DropCount

-- a value of a link at a moment, and of that of a number in a state
abbrev pub link_value : AnyValue → ℕ → LinkState → Option ℕ
link_value Queue now link = Some (length (waiting_in link.port.queue))
link_value Wait now link = head_wait now link
link_value Count now link = count_of link.port.queue
link_value value now link = None

abbrev pub link_value_in : AnyValue → ℕ → ℕ → State → Option ℕ
link_value_in value now number s = option_and_then (link_value value now) (link_in number s.parts)

-- a line changes a link: the link becomes free, or packets are offered to it
abbrev pub ChangesLink : ℕ → State → TraceLine → State → Type 0
ChangesLink number before line after = (line.event ≡ Free number) ⊎ (offered_in number before ≢ offered_in number after)

-- a line changes the link that is asked for, and what is asked holds of a value of it afterwards
abbrev pub HoldsOfLink : AnyValue → State → TraceLine → State → Asked → Type 0
HoldsOfLink value before line after asked = ChangesLink asked.of before line after × HoldsOf (number_or_nothing (link_value_in value line.key.time asked.of after)) asked.test

-- the next byte that the receiver of a flow waits for, at the first of the nodes that receives it
abbrev pub next_if : Bool → ReceiverState → Option ℕ
next_if is_own state = if is_own then Some (next_of state) else None

abbrev pub next_for : ℕ → Option (ℕ × ReceiverState) → Option ℕ
next_for flow None = None
next_for flow (Some found) = next_if (found.0 == flow) found.1

abbrev pub next_in : ℕ → List PartState → Option ℕ
next_in flow [] = None
next_in flow (part ∷ parts) = option_or (next_for flow (receiver_in part.role)) (next_in flow parts)

-- a value of a sender, where there is one
abbrev pub read_sender : AnyValue → Option SenderFields → Reading
read_sender value None = Nothing
read_sender value (Some fields) = sender_value value fields

-- a value of a flow that the sender or the receiver of a node keeps, and in a state
abbrev pub value_for : AnyValue → ℕ → PartState → Reading
value_for value flow part = if is_next value then number_or_nothing (next_for flow (receiver_in part.role)) else read_sender value (sender_for flow (sender_in part.role))

abbrev pub value_in : AnyValue → ℕ → State → Reading
value_in value flow s = if is_next value then number_or_nothing (next_in flow s.parts) else read_sender value (sender_of flow s.parts)

-- what is read of a state at a moment
abbrev pub owned : Owner → ℕ → ValueOf → State → Reading
owned owner.Flow now what s = value_in what.value what.of s
owned owner.Link now what s = number_or_nothing (link_value_in what.value now what.of s)
owned owner.Nothing now what s = Number now

abbrev pub read_in : ℕ → ValueOf → State → Reading
read_in now what s = owned (owner_of what.value) now what s

-- and of the state that a move has left, where there is one
abbrev pub read_left_in : ℕ → ValueOf → Option Reached → Reading
read_left_in now what None = Nothing
read_left_in now what (Some was) = read_in now what was.state

-- a value is another after a line than before it
abbrev pub Becomes : State → State → ValueOf → Type 0
Becomes before after asked = value_in asked.value asked.of before ≢ value_in asked.value asked.of after

-- each condition on a link holds
pub record MeetsLinks (v : Values) (before : State) (line : TraceLine) (after : State) : Type 0 where
  pub queue : IfSome (asked_of v Queue) (HoldsOfLink Queue before line after)
  pub wait : IfSome (asked_of v Wait) (HoldsOfLink Wait before line after)
  pub count : IfSome (asked_of v Count) (HoldsOfLink Count before line after)

-- each condition that compares the state after a line with that before it
pub record MeetsStates (v : Values) (before : State) (line : TraceLine) (after : State) : Type 0 where
  pub links : MeetsLinks v before line after
  pub change : IfSome v.change (Becomes before after)

-- something of that is asked for
abbrev pub asks_states : Values → Bool
asks_states v = (is_some (asked_of v Queue) || is_some (asked_of v Wait)) || (is_some (asked_of v Count) || is_some v.change)

-- a link of a number leaves a node
abbrev pub has_link : ℕ → PartState → Bool
has_link number part = is_some (link_among number part.links)

-- a value of a flow is one that the sender or the receiver of a node keeps
abbrev pub keeps_value : AnyValue → ℕ → Role → Bool
keeps_value value flow role = if is_next value then is_some (next_for flow (receiver_in role)) else is_some (sender_for flow (sender_in role))

-- a node has what is looked for
abbrev pub has_asked : Sought → PartState → Bool
has_asked (Link number) part = has_link number part
has_asked (Value asked) part = keeps_value asked.value asked.of part.role

-- the first of the nodes of which something holds, by its number; as many as there are nodes where there is none
abbrev pub first_with : (PartState → Bool) → List PartState → ℕ
first_with holds [] = 0
first_with holds (part ∷ parts) = if holds part then 0 else suc (first_with holds parts)

abbrev pub node_of : Sought → State → ℕ
node_of what s = first_with (has_asked what) s.parts

-- what is seen of a state: of a link and of a value that are asked for the first node that has it, and it
abbrev pub seen_of_link : ℕ → State → SeenLink
seen_of_link number s = record { node = node_of (Link number) s; offered = offered_in number s }

abbrev pub seen_link : State → Option Asked → SeenLink
seen_link s None = record { node = length s.parts; offered = None }
seen_link s (Some asked) = seen_of_link asked.of s

abbrev pub seen_of_value : ValueOf → State → SeenValue
seen_of_value asked s = record { node = node_of (Value asked) s; value = value_in asked.value asked.of s }

abbrev pub seen_value : State → Option ValueOf → SeenValue
seen_value s None = record { node = length s.parts; value = Nothing }
seen_value s (Some asked) = seen_of_value asked s

abbrev pub seen_in : State → Values → Seen
seen_in s v = record { queue = seen_link s (asked_of v Queue); wait = seen_link s (asked_of v Wait); count = seen_link s (asked_of v Count); change = seen_value s v.change }

-- something of what is seen is at the node of a number
abbrev pub sees_at : Seen → ℕ → Bool
sees_at seen node = (seen.queue.node == node || seen.wait.node == node) || (seen.count.node == node || seen.change.node == node)

-- all of it is at the same nodes
pub record HasSameNodes (a b : Seen) : Type 0 where
  pub queue : a.queue.node ≡ b.queue.node
  pub wait : a.wait.node ≡ b.wait.node
  pub count : a.count.node ≡ b.count.node
  pub change : a.change.node ≡ b.change.node

-- what each breakpoint sees of a state
abbrev pub AreSeen : List Break → State → List Seen → Type 0
AreSeen breaks s seen = seen ≡ each (λ (b : Break). seen_in s b.values) breaks
