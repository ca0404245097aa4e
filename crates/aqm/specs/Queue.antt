-- A queue of either kind.
use Rattle.std.specs.Prelude.{ℕ, Bool, true, false, ◌==◌, if◌then◌else◌, List, [], length, slice_get, Option}
use Rattle.sim_time.specs.declared.queue_kind.QueueKind.{QueueKind}
use Rattle.sim_time.specs.declared.queue_kind.QueueKind.TheVariants.{DropTail as DropTailKind, Codel as CodelKind}
use Rattle.packet_chain.specs.Stamped.{Stamped}
use Rattle.aqm.specs.declared.drop_reason.OfferDrop.{OfferDrop}
use Rattle.aqm.specs.declared.drop_reason.OfferDrop.TheVariants.{Full}
use Rattle.aqm.specs.declared.drop_reason.TakeDrop.{TakeDrop}
use Rattle.aqm.specs.declared.drop_reason.TakeDrop.TheVariants.{Codel as ByCodel}
use Rattle.aqm.specs.declared.queue.Queue.{Queue}
use Rattle.aqm.specs.declared.queue.Queue.TheVariants.{DropTail, Codel}
use Rattle.aqm.specs.declared.offered.Offered.{Offered}
use Rattle.aqm.specs.declared.offered.Offered.TheVariants.{Entered, Dropped}
use Rattle.aqm.specs.DropTail.{DropTailState, empty_fifo, is_full, after_offer, without_first}
use Rattle.aqm.specs.Codel.{initial_codel}
use Rattle.aqm.specs.Taken.{codel_taken}

-- the packets and the capacity
abbrev pub fifo_of : Queue → DropTailState
fifo_of (DropTail s) = s
fifo_of (Codel s) = s.fifo

-- the packets that wait, from the head, each with the moment at which it entered
abbrev pub waiting_in : Queue → List Stamped
waiting_in q = (fifo_of q).waiting

-- a queue of a kind and a capacity, before anything was offered to it
abbrev pub initial_queue : QueueKind → ℕ → Queue
initial_queue DropTailKind capacity = DropTail (empty_fifo capacity)
initial_queue (CodelKind codel) capacity = Codel (initial_codel (empty_fifo capacity) codel.target codel.interval codel.maxpacket)

-- a queue as it was before anything was offered to it
abbrev pub emptied : Queue → Queue
emptied (DropTail s) = DropTail (empty_fifo s.capacity)
emptied (Codel s) = Codel (initial_codel (empty_fifo s.fifo.capacity) s.target s.interval s.maxpacket)

-- whether the next packet that is offered is dropped as it comes
abbrev pub refuses : Queue → Bool
refuses (DropTail s) = is_full s
refuses (Codel s) = is_full s.fifo

-- why it is; where it enters, what stands for it here is told of no packet
abbrev pub offer_reason : Queue → OfferDrop
offer_reason (DropTail s) = Full
offer_reason (Codel s) = Full

-- what an offer is answered with
abbrev pub answer_of : Queue → Stamped → Offered
answer_of q cell = if refuses q then Dropped cell (offer_reason q) else Entered

-- the queue after a packet was offered at a moment
abbrev pub offered_to : Queue → Stamped → ℕ → Queue
offered_to (DropTail s) cell now = DropTail (after_offer s cell now)
offered_to (Codel s) cell now = Codel (record s { fifo = after_offer s.fifo cell now })

-- a packet that is offered and taken at once passes the queue and leaves it as it is: nothing waits, and takes drop nothing
abbrev pub lets_pass : Queue → Bool
lets_pass (DropTail s) = length s.waiting == 0
lets_pass (Codel s) = false

-- whether a take may drop packets
abbrev pub may_drop : Queue → Bool
may_drop (DropTail s) = false
may_drop (Codel s) = true

-- why a take drops packets; a take from drop-tail drops none, so that what stands for it here is told of no packet
abbrev pub take_reason : Queue → TakeDrop
take_reason (DropTail s) = ByCodel
take_reason (Codel s) = ByCodel

-- the packets that are dropped, in order; the packet that is given, if there is one; the queue afterwards
pub record Taken : Type 0 where
  pub dropped : List Stamped
  pub given : Option Stamped
  pub queue : Queue

-- a take at a moment: drop-tail gives the head and drops nothing
abbrev pub taken_from : Queue → ℕ → Taken
taken_from (DropTail s) now = record { dropped = []; given = slice_get s.waiting 0; queue = DropTail (without_first 1 s) }
taken_from (Codel s) now = let t = codel_taken s now in record { dropped = t.dropped; given = t.given; queue = Codel t.queue }
