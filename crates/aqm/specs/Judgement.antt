-- When a packet has waited too long (RFC 8289 section 5.6, `dodequeue`).
use Rattle.std.specs.Prelude.{◌+◌, ◌-◌, ℕ, zero, suc, Bool, false, ◌||◌, nat_lt, nat_le, if◌then◌else◌, drop, slice_get, Option, Some, None}
use Rattle.packet_chain.specs.Stamped.{Stamped, bytes_of}
use Rattle.aqm.specs.Codel.{CodelState}

-- what judging a packet leaves: from when on a packet above target may be dropped, if this one is above; and whether this one may be dropped
pub record Judgement : Type 0 where
  pub first_above : Option ℕ
  pub ok : Bool

abbrev pub cleared : Judgement
cleared = record { first_above = None; ok = false }

-- a packet above target: the first in a row sets the moment an interval ahead, and from that moment on packets may be dropped
abbrev pub above_target : ℕ → ℕ → Option ℕ → Judgement
above_target interval now None = record { first_above = Some (now + interval); ok = false }
above_target interval now (Some t) = record { first_above = Some t; ok = nat_le t now }

-- the judgement at a moment of the packet at the head, if there is one, with so many bytes left behind it, after what the judgement before it left. A packet that entered later than now has waited for 0
abbrev pub judged : CodelState → ℕ → Option Stamped → ℕ → Option ℕ → Judgement
judged s now None left first_above = cleared
judged s now (Some (packet, entered)) left first_above =
    if nat_lt (now - entered) s.target || nat_le left s.maxpacket then cleared else above_target s.interval now first_above

-- the judgements of all packets in turn, each with the bytes of those behind it; past the last it is cleared
abbrev pub judgement : CodelState → ℕ → ℕ → Judgement
judgement s now zero = judged s now (slice_get s.fifo.waiting 0) (bytes_of (drop 1 s.fifo.waiting)) s.first_above
judgement s now (suc j) = judged s now (slice_get s.fifo.waiting (suc j)) (bytes_of (drop (suc j + 1) s.fifo.waiting)) (judgement s now j).first_above
