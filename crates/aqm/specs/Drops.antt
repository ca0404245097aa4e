-- How many packets a take in drop state drops (RFC 8289 sections 5.5 and 5.6).
use Rattle.std.specs.Prelude.{◌+◌, ◌-◌, ℕ, zero, suc, Bool, ◌||◌, not, min, nat_lt, if◌then◌else◌, length}
use Rattle.std.specs.List.{position_or_len, range_with_len}
use Rattle.sim_time.specs.ControlLaw.{gap_of}
use Rattle.aqm.specs.DropTail.{without_first}
use Rattle.aqm.specs.Codel.{CodelState}
use Rattle.aqm.specs.Judgement.{judgement}

-- the count of drops after so many more: it stops at 4,294,967,295
abbrev pub count_after_drops : ℕ → ℕ → ℕ
count_after_drops count more = min (count + more) 4294967295

-- when drops are due: the first at drop_next, each later one a gap after the one before it
abbrev pub drop_due : CodelState → ℕ → ℕ
drop_due s zero = s.drop_next
drop_due s (suc j) = drop_due s j + gap_of s.interval (count_after_drops s.count (suc j))

-- after j drops there is no further one: the packet at the head may not be dropped, or its drop isn't due yet
abbrev pub stops : CodelState → ℕ → ℕ → Bool
stops s now j = not (judgement s now j).ok || nat_lt now (drop_due s j)

-- the least number of drops after which there is no further one; past the last packet there is none
abbrev pub drops : CodelState → ℕ → ℕ
drops s now = position_or_len (stops s now) (range_with_len 0 (length s.fifo.waiting))

-- the queue after k drops and the packet behind them: where that packet may be dropped, drop state lasts, and the drop after those k is next; else it ends, and drop_next stays where the last of them was due
abbrev pub after_drops : CodelState → ℕ → ℕ → CodelState
after_drops s now k =
    let j = judgement s now k in
    record s {
      fifo = without_first (k + 1) s.fifo;
      first_above = j.first_above;
      drop_next = drop_due s (if j.ok then k else k - 1);
      count = count_after_drops s.count k;
      dropping = j.ok;
    }
