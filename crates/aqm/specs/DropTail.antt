-- A queue of limited length, first in, first out, that drops only what comes when it is full.
use Rattle.std.specs.Prelude.{◌≤◌, ◌==◌, ℕ, Bool, if◌then◌else◌, List, [], ◌∷◌, ◌++◌, length, drop}
use Rattle.packet_chain.specs.Stamped.{Stamped}
use Rattle.aqm.specs.declared.offered.Offered.{Offered}
use Rattle.aqm.specs.declared.offered.Offered.TheVariants.{Entered, Dropped}
use Rattle.aqm.specs.declared.drop_reason.OfferDrop.TheVariants.{Full}

-- the packets that wait, from the head, each with the moment at which it entered, in nanoseconds; how many may wait
pub record DropTailState : Type 0 where
  pub waiting : List Stamped
  pub capacity : ℕ

-- nothing waits, and so many packets may
abbrev pub empty_fifo : ℕ → DropTailState
empty_fifo capacity = record { waiting = []; capacity = capacity }

-- what every queue keeps
pub record IsDropTail (s : DropTailState) : Type 0 where
  pub least : 1 ≤ s.capacity
  pub most : s.capacity ≤ 65535
  pub room : length s.waiting ≤ s.capacity

abbrev pub is_full : DropTailState → Bool
is_full s = length s.waiting == s.capacity

-- the queue after a packet was offered at a moment: the packet is last, stamped with the moment; a full queue stays as it was
abbrev pub after_offer : DropTailState → Stamped → ℕ → DropTailState
after_offer s cell now = if is_full s then s else record s { waiting = s.waiting ++ (cell.0, now) ∷ [] }

-- what the offer is answered with: where the queue is full, the packet as it came
abbrev pub answer_to : DropTailState → Stamped → Offered
answer_to s cell = if is_full s then Dropped cell Full else Entered

-- the queue without its first packets
abbrev pub without_first : ℕ → DropTailState → DropTailState
without_first n s = record s { waiting = drop n s.waiting }
