-- What a take from a CoDel queue does, in one step over all that waits (RFC 8289 section 5.5).
use Rattle.std.specs.Prelude.{◌+◌, ◌-◌, ◌*◌, ℕ, true, ◌&&◌, nat_lt, if◌then◌else◌, List, take, slice_get, Option}
use Rattle.packet_chain.specs.Stamped.{Stamped}
use Rattle.sim_time.specs.ControlLaw.{gap_of}
use Rattle.aqm.specs.DropTail.{without_first}
use Rattle.aqm.specs.Codel.{CodelState}
use Rattle.aqm.specs.Judgement.{judgement}
use Rattle.aqm.specs.Drops.{drops, after_drops}

-- the packets that are dropped, in order; the packet that is given, if there is one; the queue afterwards
pub record CodelTaken : Type 0 where
  pub dropped : List Stamped
  pub given : Option Stamped
  pub queue : CodelState

-- the first k packets are dropped, and the one behind them is given
abbrev pub handed_out : CodelState → ℕ → CodelState → CodelTaken
handed_out s k after = record { dropped = take k s.fifo.waiting; given = slice_get s.fifo.waiting k; queue = after }

-- the packet may not be dropped
abbrev pub after_one : CodelState → ℕ → CodelState
after_one s now = record s { fifo = without_first 1 s.fifo; first_above = (judgement s now 0).first_above }

-- the new count, with which drop state begins: how many packets the last one dropped after its first (count - lastcount), if that is more than one and the moment is less than 16 intervals after drop_next; else 1
abbrev pub first_count : CodelState → ℕ → ℕ
first_count s now = if nat_lt 1 (s.count - s.lastcount) && nat_lt (now - s.drop_next) (16 * s.interval) then s.count - s.lastcount else 1

-- drop state begins: the next drop is a gap from now
abbrev pub drop_state_begun : CodelState → ℕ → CodelState
drop_state_begun s now =
    let count = first_count s now in
    record s { drop_next = now + gap_of s.interval count; count = count; lastcount = count; dropping = true }

-- the first packet was dropped, and the one behind it judged
abbrev pub after_first_drop : CodelState → ℕ → CodelState
after_first_drop s now = drop_state_begun (record s { fifo = without_first 2 s.fifo; first_above = (judgement s now 1).first_above }) now

-- a take: in drop state, outside of it with a packet that may be dropped, and with one that may not
abbrev pub codel_taken : CodelState → ℕ → CodelTaken
codel_taken s now =
    if s.dropping then handed_out s (drops s now) (after_drops s now (drops s now))
    else (if (judgement s now 0).ok then handed_out s 1 (after_first_drop s now)
    else handed_out s 0 (after_one s now))
