-- What a CoDel queue keeps (RFC 8289 sections 5.2 and 5.3).
use Rattle.std.specs.Prelude.{◌≤◌, ℕ, Bool, false, Option, None}
use Rattle.aqm.specs.DropTail.{DropTailState, IsDropTail}

-- the packets that wait, and how many may; target and interval in nanoseconds, maxpacket in bytes; from when on a packet above target may be dropped, if the last one was above target; when the next packet is due to be dropped in drop state; how many were dropped in this drop state or the last, and with how many it began; whether it is in drop state
pub record CodelState : Type 0 where
  pub fifo : DropTailState
  pub target : ℕ
  pub interval : ℕ
  pub maxpacket : ℕ
  pub first_above : Option ℕ
  pub drop_next : ℕ
  pub count : ℕ
  pub lastcount : ℕ
  pub dropping : Bool

-- what every CoDel queue keeps
pub record IsCodel (s : CodelState) : Type 0 where
  pub fifo : IsDropTail s.fifo
  pub target_least : 1 ≤ s.target
  pub target_most : s.target ≤ 10000000000
  pub interval_least : 1 ≤ s.interval
  pub interval_most : s.interval ≤ 10000000000
  pub maxpacket_least : 1 ≤ s.maxpacket
  pub maxpacket_most : s.maxpacket ≤ 65535
  pub drop_next_most : s.drop_next ≤ 1000010000000000
  pub count_most : s.count ≤ 4294967295

-- at first: nothing is above target, and nothing was dropped
abbrev pub initial_codel : DropTailState → ℕ → ℕ → ℕ → CodelState
initial_codel fifo target interval maxpacket = record {
  fifo = fifo;
  target = target;
  interval = interval;
  maxpacket = maxpacket;
  first_above = None;
  drop_next = 0;
  count = 0;
  lastcount = 0;
  dropping = false;
}
