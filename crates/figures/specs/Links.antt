-- What is counted of a link, over the events of a run.
use Rattle.std.specs.Prelude.{◌≡◌, ◌≢◌, ◌+◌, ◌-◌, ◌*◌, ◌^◌, ◌==◌, ◌||◌, ◌≤◌, ◌<◌, ℕ, Bool, true, false, not, max, nat_lt, if◌then◌else◌, List, [], ◌∷◌, ◌++◌, length, map, count_by, is_some, slice_index, slice_index_or, slice_set, Option, Some, None, IfSome, option_to_list}
use Rattle.std.specs.List.{fold, sum_by, filter_map}
use Rattle.std.specs.Option.{option_map}
use Rattle.sim_time.specs.Moment.{IsMoment}
use Rattle.packet_chain.specs.Stamped.{Stamped}
use Rattle.aqm.specs.Queue.{waiting_in, taken_from}
use Rattle.port.specs.declared.acts.Act.{Act}
use Rattle.port.specs.declared.acts.Act.TheVariants.{Tx, Dropped}
use Rattle.aqm.specs.declared.drop_reason.DropReason.{DropReason}
use Rattle.aqm.specs.DropReasons.{all_reasons, reason_index, is_reason}
use Rattle.port.specs.Port.{PortState}
use Rattle.node_core.specs.declared.event.Event.{Event}
use Rattle.node_core.specs.declared.event.Event.TheVariants.{Start, Rto, DelAck, Free, Arrive}
use Rattle.node_core.specs.Part.{LinkState, link_at}
use Rattle.node_core.specs.TraceLine.{TraceLine}
use Rattle.table_run.specs.State.{State, part_at}
use Rattle.figures.specs.Classes.{greatest}
use Rattle.figures.specs.Moments.{Moment, Base}
use Rattle.figures.specs.Tallied.{IsTallyOf}
use Rattle.figures.specs.declared.link.LinkFigures.{LinkFigures}

-- the sending side of a link: the node that it leaves, and which of that node's outgoing links it is
abbrev pub port_at : State → ℕ → ℕ → PortState
port_at s node index = (link_at (part_at s node).links index).port

-- how many packets wait at it, and one while it is busy
abbrev pub waiting_at : PortState → ℕ
waiting_at port = length (waiting_in port.queue)

abbrev pub busy_at : PortState → ℕ
busy_at port = if is_some port.next_free then 1 else 0

-- the event is that the link of this number has sent a packet whole
abbrev pub frees : ℕ → Event → Bool
frees link (Start flow) = false
frees link (Rto flow) = false
frees link (DelAck flow) = false
frees link (Free number) = number == link
frees link (Arrive packet) = false

-- an event's acts, where it offers packets to the link or frees it: they are then all at that link
abbrev pub acts_between : ℕ → PortState → TraceLine → List Act
acts_between offered after line = if frees after.link line.event || not (after.offered == offered) then line.acts else []

abbrev pub acts_at : ℕ → ℕ → Moment → List Act
acts_at node index m = if m.line.key.node == node then acts_between (port_at m.before node index).offered (port_at m.after node index) m.line else []

-- a packet is dropped for this reason; of one that a queue drops the queue says why
abbrev pub is_for : DropReason → Act → Bool
is_for reason (Tx link packet) = false
is_for reason (Dropped link why packet) = is_reason why reason

abbrev pub is_tx : Act → Bool
is_tx (Tx link packet) = true
is_tx (Dropped link reason packet) = false

-- the packets that are dropped for a reason, those that begin to be sent, and the bytes of these
abbrev pub dropped_in : DropReason → List Act → ℕ
dropped_in reason acts = count_by (is_for reason) acts

abbrev pub tx_in : List Act → ℕ
tx_in acts = count_by is_tx acts

abbrev pub bytes_by : Act → ℕ
bytes_by (Tx link packet) = packet.bytes
bytes_by (Dropped link reason packet) = 0

abbrev pub bytes_in : List Act → ℕ
bytes_in acts = sum_by bytes_by acts

-- counts by reason, with one more for each packet that is dropped
abbrev pub count_drop : List ℕ → Act → List ℕ
count_drop counts (Tx link packet) = counts
count_drop counts (Dropped link reason packet) = slice_set counts (reason_index reason) (slice_index counts (reason_index reason) + 1)

abbrev pub with_drops : List ℕ → List Act → List ℕ
with_drops counts acts = fold count_drop counts acts

-- the only act is that a packet of so many bytes begins to be sent
pub record IsSentAlone (acts : List Act) (bytes : ℕ) : Type 0 where
  pub dropped : (counts : List ℕ) → with_drops counts acts ≡ counts
  pub sent : tx_in acts ≡ 1
  pub bytes_are : bytes_in acts ≡ bytes
  pub most : bytes ≤ 9040

abbrev pub dropped_of : DropReason → ℕ → ℕ → List Moment → ℕ
dropped_of reason node index ms = sum_by (λ m. dropped_in reason (acts_at node index m)) ms

-- for each reason, in the order of tables; and for all of them
abbrev pub drops_of : ℕ → ℕ → List Moment → List ℕ
drops_of node index ms = map (λ reason. dropped_of reason node index ms) all_reasons

abbrev pub all_dropped_of : ℕ → ℕ → List Moment → ℕ
all_dropped_of node index ms = sum_by (λ reason. dropped_of reason node index ms) all_reasons

abbrev pub tx_of : ℕ → ℕ → List Moment → ℕ
tx_of node index ms = sum_by (λ m. tx_in (acts_at node index m)) ms

abbrev pub bytes_of_moments : ℕ → ℕ → List Moment → ℕ
bytes_of_moments node index ms = sum_by (λ m. bytes_in (acts_at node index m)) ms

-- for how long the packet has waited that is given where a link takes from its queue at a moment, if one is: since it was offered
abbrev pub wait_of_given : ℕ → PortState → Option ℕ
wait_of_given now port = option_map (λ (cell : Stamped). now - cell.1) (taken_from port.queue now).given

-- this is when the packet entered the queue that a busy link is given once it is free, at a moment of a simulation, if it is given one and the queue stays as it is
abbrev pub IsNextEntry : PortState → ℕ → Type 0
IsNextEntry port entered = (now : ℕ) → IsMoment now → port.next_free ≡ Some now → IfSome (taken_from port.queue now).given (λ (cell : Stamped). now - entered ≡ now - cell.1)

-- for how long the packet has waited that an event begins to send, if it does so: where the link is freed, so long as that which it is given; in any other event the packet is sent as it is offered
abbrev pub wait_in : ℕ → PortState → TraceLine → Option ℕ → Option ℕ
wait_in offered after line given = if frees after.link line.event then given else (if nat_lt 0 (tx_in (acts_between offered after line)) then Some 0 else None)

-- the same by the packets that the event sends, and by when the first of them entered the queue, where the link is freed
abbrev pub wait_by : ℕ → PortState → TraceLine → ℕ → Option ℕ
wait_by offered after line entered = if nat_lt 0 (tx_in (acts_between offered after line)) then Some (if frees after.link line.event then line.key.time - entered else 0) else None

abbrev pub wait_at : ℕ → ℕ → Moment → Option ℕ
wait_at node index m =
    if m.line.key.node == node then wait_in (port_at m.before node index).offered (port_at m.after node index) m.line (wait_of_given m.line.key.time (port_at m.before node index)) else None

-- for how long each packet waited that began to be sent
abbrev pub waits_of : ℕ → ℕ → List Moment → List ℕ
waits_of node index ms = filter_map (wait_at node index) ms

-- where an event frees a link of its node, the wait is known by when the packet entered the queue
abbrev pub TellsWait : State → TraceLine → State → Type 0
TellsWait before line after =
    (i entered : ℕ) → i < length (part_at before line.key.node).links → IsNextEntry (port_at before line.key.node i) entered → frees (port_at after line.key.node i).link line.event ≡ true →
    wait_by (port_at before line.key.node i).offered (port_at after line.key.node i) line entered ≡ wait_of_given line.key.time (port_at before line.key.node i)

-- the event is that some link has sent a packet whole
abbrev pub is_free : Event → Bool
is_free (Start flow) = false
is_free (Rto flow) = false
is_free (DelAck flow) = false
is_free (Free number) = true
is_free (Arrive packet) = false

-- an event is counted of the link of its node that it frees, or to which it offers packets
abbrev pub counts_link : ℕ → ℕ → PortState → TraceLine → Bool
counts_link index offered after line = if is_free line.event then index == line.key.number - 3 else not (after.offered == offered)

-- a link of the event's node of which the event is not counted is as it was, and is not freed
abbrev pub KeepsLinks : State → TraceLine → State → Type 0
KeepsLinks before line after =
    (i : ℕ) → i < length (part_at before line.key.node).links → counts_link i (port_at before line.key.node i).offered (port_at after line.key.node i) line ≡ false →
    (port_at after line.key.node i ≡ port_at before line.key.node i) × (frees (port_at after line.key.node i).link line.event ≡ false)

-- at most one packet begins to be sent at a link of an event's node, and where the event frees one none is offered to any
pub record FreesOrOffers (offered : ℕ) (after : PortState) (line : TraceLine) : Type 0 where
  pub sends : tx_in (acts_between offered after line) ≤ 1
  pub offers : is_free line.event ≡ true → after.offered ≡ offered

abbrev pub EachFreedOrOffered : State → TraceLine → State → Type 0
EachFreedOrOffered before line after =
    (i : ℕ) → i < length (part_at before line.key.node).links → FreesOrOffers (port_at before line.key.node i).offered (port_at after line.key.node i) line

-- when the last event was run; an earlier moment before the first
abbrev pub last_from : ℕ → List Moment → ℕ
last_from since [] = since
last_from since (m ∷ ms) = last_from m.line.key.time ms

-- a number of each state, times the time to the next event, summed up to the last event
abbrev pub summed_over : (State → ℕ) → ℕ → List Moment → ℕ
summed_over value since [] = 0
summed_over value since (m ∷ ms) = value m.before * (m.line.key.time - since) + summed_over value m.line.key.time ms

-- how many packets waited, times how long, from a moment on up to the last event; and how long the link was busy
abbrev pub waited_of : ℕ → ℕ → ℕ → List Moment → ℕ
waited_of node index since ms = summed_over (λ s. waiting_at (port_at s node index)) since ms

abbrev pub busy_of : ℕ → ℕ → ℕ → List Moment → ℕ
busy_of node index since ms = summed_over (λ s. busy_at (port_at s node index)) since ms

-- the longest queue of any state up to the last, which is s
abbrev pub longest_of : ℕ → ℕ → List Moment → State → ℕ
longest_of node index ms s = max (greatest (map (λ m. waiting_at (port_at m.before node index)) ms)) (waiting_at (port_at s node index))

-- what so many events count of a link at most
pub record IsFew (n : ℕ) (f : LinkFigures) : Type 0 where
  pub dropped : (i : ℕ) → slice_index f.dropped i ≤ n * 2 ^ 64
  pub bytes : f.bytes ≤ n * 9040
  pub waits : f.waits.count ≤ n

-- how many packets waited, times how long, by both parts of that count
abbrev pub waited_so_far : LinkFigures → ℕ
waited_so_far f = f.waited_before + f.waited

-- nothing is counted yet of a link, from a moment on
pub record IsLinkBegun (from : ℕ) (port : PortState) (f : LinkFigures) : Type 0 where
  pub first : f.first ≡ port.offered
  pub offered : f.offered ≡ port.offered
  pub waiting : f.waiting ≡ waiting_at port
  pub busy : f.busy ≡ is_some port.next_free
  pub since : f.since ≡ from
  pub dropped : f.dropped ≡ map (λ reason. 0) all_reasons
  pub bytes : f.bytes ≡ 0
  pub waited : waited_so_far f ≡ 0
  pub busy_for : f.busy_for ≡ 0
  pub longest : f.longest ≡ waiting_at port
  pub next_entry_is : IsNextEntry port f.next_entry
  pub waits : IsTallyOf [] f.waits

-- the figures are those of a link after these events from a base on, the last state being s; what has passed since they were read last is added to the two that count time
pub record AreOfLink (b : Base) (ms : List Moment) (s : State) (node index : ℕ) (f : LinkFigures) : Type 0 where
  pub first : f.first ≡ (port_at b.state node index).offered
  pub offered : f.offered ≡ (port_at s node index).offered
  pub waiting : f.waiting ≡ waiting_at (port_at s node index)
  pub busy : f.busy ≡ is_some (port_at s node index).next_free
  pub since : f.since ≤ last_from b.since ms
  pub dropped : f.dropped ≡ drops_of node index ms
  pub sent : f.waits.count ≡ tx_of node index ms
  pub bytes : f.bytes ≡ bytes_of_moments node index ms
  pub waited : waited_so_far f + f.waiting * (last_from b.since ms - f.since) ≡ waited_of node index b.since ms
  pub busy_for : f.busy_for + (if f.busy then last_from b.since ms - f.since else 0) ≡ busy_of node index b.since ms
  pub longest : f.longest ≡ longest_of node index ms s
  pub next_entry_is : IsNextEntry (port_at s node index) f.next_entry
  pub waits : IsTallyOf (waits_of node index ms) f.waits
  pub few : IsFew (length ms) f

-- a moment has come, and the link is now as it is
pub record IsPassed (f : LinkFigures) (port : PortState) (now : ℕ) (g : LinkFigures) : Type 0 where
  pub first : g.first ≡ f.first
  pub offered : g.offered ≡ port.offered
  pub waiting : g.waiting ≡ waiting_at port
  pub busy : g.busy ≡ is_some port.next_free
  pub since : g.since ≡ now
  pub waited : waited_so_far g ≡ waited_so_far f + f.waiting * (now - f.since)
  pub busy_for : g.busy_for ≡ f.busy_for + (if f.busy then now - f.since else 0)
  pub longest : g.longest ≡ max f.longest (waiting_at port)
  pub next_entry_is : IsNextEntry port g.next_entry
  pub dropped : g.dropped ≡ f.dropped
  pub bytes : g.bytes ≡ f.bytes
  pub waits : g.waits ≡ f.waits

-- an event at its node with these acts at the link is counted, and no time
pub record IsCountedOf (f : LinkFigures) (acts : List Act) (g : LinkFigures) : Type 0 where
  pub first : g.first ≡ f.first
  pub dropped : g.dropped ≡ with_drops f.dropped acts
  pub bytes : g.bytes ≡ f.bytes + bytes_in acts
  pub few : (n : ℕ) → IsFew n f → IsFew (n + 1) g
  pub offered : g.offered ≡ f.offered
  pub waiting : g.waiting ≡ f.waiting
  pub busy : g.busy ≡ f.busy
  pub since : g.since ≡ f.since
  pub waited : waited_so_far g ≡ waited_so_far f
  pub busy_for : g.busy_for ≡ f.busy_for
  pub longest : g.longest ≡ f.longest
  pub next_entry_is : g.next_entry ≡ f.next_entry
  pub waits : g.waits ≡ f.waits

-- an event at its node is counted at a moment: it did this at the link, where a packet that began to be sent has waited so long, and the link is now as it is
pub record IsLinkCounted (f : LinkFigures) (port : PortState) (now : ℕ) (acts : List Act) (wait : Option ℕ) (g : LinkFigures) : Type 0 where
  pub first : g.first ≡ f.first
  pub offered : g.offered ≡ port.offered
  pub waiting : g.waiting ≡ waiting_at port
  pub busy : g.busy ≡ is_some port.next_free
  pub since : g.since ≡ now
  pub dropped : g.dropped ≡ with_drops f.dropped acts
  pub sent : g.waits.count ≡ f.waits.count + tx_in acts
  pub bytes : g.bytes ≡ f.bytes + bytes_in acts
  pub waited : waited_so_far g ≡ waited_so_far f + f.waiting * (now - f.since)
  pub busy_for : g.busy_for ≡ f.busy_for + (if f.busy then now - f.since else 0)
  pub longest : g.longest ≡ max f.longest (waiting_at port)
  pub next_entry_is : IsNextEntry port g.next_entry
  pub waits : (xs : List ℕ) → IsTallyOf xs f.waits → IsTallyOf (xs ++ option_to_list wait) g.waits
  pub few : (n : ℕ) → IsFew n f → IsFew (n + 1) g

-- what a link's figures are after an event at its node
abbrev pub IsLinkAfter : LinkFigures → PortState → TraceLine → LinkFigures → Type 0
IsLinkAfter f port line g = IsLinkCounted f port line.key.time (acts_between f.offered port line) (wait_by f.offered port line f.next_entry) g

-- the same where the event is counted of the link; where it is not, the figures are as they were
pub record IsLinkAfterIf (counts : Bool) (f : LinkFigures) (port : PortState) (line : TraceLine) (g : LinkFigures) : Type 0 where
  pub counted : counts ≡ true → IsLinkAfter f port line g
  pub kept : counts ≡ false → g ≡ f

-- the links of a node, of each of which nothing is counted yet, from a moment on
pub record AreLinksBegun (from : ℕ) (links : List LinkState) (fs : List LinkFigures) : Type 0 where
  pub size : length fs ≡ length links
  pub each : (i : ℕ) (other : LinkFigures) → i < length links → IsLinkBegun from (link_at links i).port (slice_index_or fs i other)

-- the links of a node, each after an event at it
abbrev pub AreLinksAfter : List LinkFigures → List LinkState → TraceLine → List LinkFigures → Type 0
AreLinksAfter old links line new =
    (i : ℕ) (other : LinkFigures) → i < length old → IsLinkAfterIf (counts_link i (slice_index_or old i other).offered (link_at links i).port line) (slice_index_or old i other) (link_at links i).port line (slice_index_or new i other)

-- packets were offered to one link of a node, of whose links this was counted before, or to none
abbrev pub OffersToOne : List LinkFigures → List LinkState → Type 0
OffersToOne figures links =
    (i j : ℕ) (f g : LinkFigures) → i < length figures → j < length figures → (link_at links i).port.offered ≢ (slice_index_or figures i f).offered → (link_at links j).port.offered ≢ (slice_index_or figures j g).offered → i ≡ j

-- the links of a node, each after an event at it that frees none of them
abbrev pub AreOffersCounted : List LinkFigures → List LinkState → TraceLine → List LinkFigures → Type 0
AreOffersCounted old links line new =
    (i : ℕ) (other : LinkFigures) → i < length old → IsLinkAfterIf (not ((link_at links i).port.offered == (slice_index_or old i other).offered)) (slice_index_or old i other) (link_at links i).port line (slice_index_or new i other)

-- the same by what was counted of the links before
abbrev pub AllFreedOrOffered : List LinkFigures → List LinkState → TraceLine → Type 0
AllFreedOrOffered figures links line = (i : ℕ) (other : LinkFigures) → i < length figures → FreesOrOffers (slice_index_or figures i other).offered (link_at links i).port line

-- to the link of a node of this index as many packets were offered as was counted before, or others
abbrev pub IsUnoffered : List LinkFigures → List LinkState → ℕ → Type 0
IsUnoffered figures links i = (other : LinkFigures) → (link_at links i).port.offered ≡ (slice_index_or figures i other).offered

abbrev pub IsOffered : List LinkFigures → List LinkState → ℕ → Type 0
IsOffered figures links i = (other : LinkFigures) → (link_at links i).port.offered ≢ (slice_index_or figures i other).offered

-- the index of a link of a node to which packets were offered, or one past all of them where there is none
pub record IsFound (figures : List LinkFigures) (links : List LinkState) (at : ℕ) : Type 0 where
  pub some : at < length figures → IsOffered figures links at
  pub none : length figures ≤ at → (i : ℕ) → i < length figures → IsUnoffered figures links i

-- the figures of all links of a node after these events from a base on
pub record AreOfNode (b : Base) (ms : List Moment) (s : State) (node : ℕ) (fs : List LinkFigures) : Type 0 where
  pub size : length fs ≡ length (part_at s node).links
  pub each : (i : ℕ) (other : LinkFigures) → i < length fs → AreOfLink b ms s node i (slice_index_or fs i other)
