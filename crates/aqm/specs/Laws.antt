-- What every take keeps to, whatever waits and whenever it comes.
use Rattle.std.specs.Prelude.{◌≡◌, if◌then◌else◌, ◌↔◌, ◌+◌, ◌-◌, ◌<◌, ◌≤◌, ◌++◌, ℕ, true, false, List, [], ◌∷◌, length, drop, slice_get, Option, Some, None, IfSome, IsSomeAnd}
use Rattle.sim_time.specs.declared.queue_kind.QueueKind.{QueueKind}
use Rattle.packet_chain.specs.Stamped.{Stamped, bytes_of}
use Rattle.aqm.specs.DropTail.{DropTailState, is_full}
use Rattle.aqm.specs.Codel.{CodelState, IsCodel}
use Rattle.aqm.specs.Drops.{stops, drop_due, drops}
use Rattle.aqm.specs.Taken.{codel_taken}
use Rattle.aqm.specs.Queue.{fifo_of, waiting_in, initial_queue, emptied, refuses, offered_to, taken_from}
use Rattle.aqm.specs.declared.queue.Queue.{Queue}
use Rattle.aqm.specs.declared.queue.Queue.TheVariants.{DropTail, Codel}

-- the packet that was given, if there was one
abbrev pub listed : Option Stamped → List Stamped
listed None = []
listed (Some packet) = packet ∷ []

-- what is dropped is the front of the queue, in order; what is given is next, and the rest stays
abbrev pub TakesTheFront : Type 0
TakesTheFront = (q : Queue) (now : ℕ) → let t = taken_from q now in t.dropped ++ listed t.given ++ waiting_in t.queue ≡ waiting_in q

-- nothing is given exactly where nothing waits
abbrev pub GivesWhatWaits : Type 0
GivesWhatWaits = (q : Queue) (now : ℕ) → ((taken_from q now).given ≡ None) ↔ (waiting_in q ≡ [])

-- a queue stays the one it is, with its capacity, whatever is taken from it or offered to it; a packet that enters is the last that waits, and one that is dropped as it comes changes nothing that waits
pub record StaysTheSame (q : Queue) (now : ℕ) : Type 0 where
  pub taken : emptied (taken_from q now).queue ≡ emptied q
  pub offered : (cell : Stamped) → emptied (offered_to q cell now) ≡ emptied q
  pub waits : (cell : Stamped) → waiting_in (offered_to q cell now) ≡ (if refuses q then waiting_in q else waiting_in q ++ (cell.0, now) ∷ [])
  pub capacity : (fifo_of (emptied q)).capacity ≡ (fifo_of q).capacity

abbrev pub QueuesStay : Type 0
QueuesStay = (q : Queue) (now : ℕ) → StaysTheSame q now

-- a queue of a kind is empty at first, and as it was before anything was offered to it
pub record OpensEmpty (kind : QueueKind) (capacity : ℕ) : Type 0 where
  pub empty : waiting_in (initial_queue kind capacity) ≡ []
  pub afresh : emptied (initial_queue kind capacity) ≡ initial_queue kind capacity

abbrev pub QueuesOpenEmpty : Type 0
QueuesOpenEmpty = (kind : QueueKind) (capacity : ℕ) → OpensEmpty kind capacity

-- where a queue refuses none, a packet that is offered is the last that waits, with the moment at which it entered
abbrev pub EntersLast : Type 0
EntersLast = (q : Queue) (cell : Stamped) (now : ℕ) → refuses q ≡ false → waiting_in (offered_to q cell now) ≡ waiting_in q ++ (cell.0, now) ∷ []

-- a full queue takes no packet in
abbrev pub FullRefuses : Type 0
FullRefuses = (q : Queue) → is_full (fifo_of q) ≡ true → refuses q ≡ true

-- no more is dropped than waits
abbrev pub DropsAtMostWhatWaits : Type 0
DropsAtMostWhatWaits = (q : Queue) (now : ℕ) → length (taken_from q now).dropped ≤ length (waiting_in q)

abbrev pub DropTailKeepsWhatEntered : Type 0
DropTailKeepsWhatEntered = (s : DropTailState) (now : ℕ) → (taken_from (DropTail s) now).dropped ≡ []

-- a packet is dropped for cause: it has waited for the target at least, packets have been above target for an interval, and over maxpacket bytes are left behind it
pub record IsForCause (s : CodelState) (now left : ℕ) (packet : Stamped) : Type 0 where
  pub waited : s.target ≤ now - packet.1
  pub above : IsSomeAnd s.first_above (λ t. t ≤ now)
  pub behind : s.maxpacket < left

-- each packet that a CoDel queue drops is dropped for cause, with the bytes of those that wait behind it
abbrev pub EveryDropHasACause : Type 0
EveryDropHasACause = (s : CodelState) (now i : ℕ) → IfSome (slice_get (taken_from (Codel s) now).dropped i) (IsForCause s now (bytes_of (drop (i + 1) s.fifo.waiting)))

-- after so many drops there is no further one, and after fewer there is
pub record IsLeastStop (s : CodelState) (now k : ℕ) : Type 0 where
  pub stops_here : stops s now k ≡ true
  pub goes_on_before : (j : ℕ) → j < k → stops s now j ≡ false

abbrev pub DropsStopAtTheFirstStop : Type 0
DropsStopAtTheFirstStop = (s : CodelState) (now : ℕ) → IsLeastStop s now (drops s now)

-- in one drop state the wait from a drop to the next is no longer than the one before
abbrev pub DropsComeCloser : Type 0
DropsComeCloser = (s : CodelState) (j : ℕ) → drop_due s (j + 2) - drop_due s (j + 1) ≤ drop_due s (j + 1) - drop_due s j

-- the wait after the first drop of a drop state is no shorter than the next
abbrev pub FirstWaitIsLongest : Type 0
FirstWaitIsLongest =
    (s : CodelState) (now : ℕ) → IsCodel s → s.dropping ≡ false → (codel_taken s now).queue.dropping ≡ true →
    let q = (codel_taken s now).queue in drop_due q 1 - drop_due q 0 ≤ drop_due q 0 - now

-- while drop state lasts, what is due after a take is what was due before, but for the drops made
abbrev pub ScheduleStays : Type 0
ScheduleStays =
    (s : CodelState) (now j : ℕ) → s.dropping ≡ true → (codel_taken s now).queue.dropping ≡ true → drop_due (codel_taken s now).queue j ≡ drop_due s (drops s now + j)
