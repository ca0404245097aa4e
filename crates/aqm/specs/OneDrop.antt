-- What the code does drop by drop, for the contracts of its private steps: no definition of a take uses it.
use Rattle.std.specs.Prelude.{◌+◌, ℕ, if◌then◌else◌}
use Rattle.sim_time.specs.ControlLaw.{gap_of}
use Rattle.aqm.specs.DropTail.{without_first}
use Rattle.aqm.specs.Codel.{CodelState}
use Rattle.aqm.specs.Judgement.{judgement}
use Rattle.aqm.specs.Drops.{count_after_drops}

-- one drop more, and the packet behind it judged: where it may be dropped too, its drop is due a gap after the last
abbrev pub after_drop : CodelState → ℕ → CodelState
after_drop s now =
    let j = judgement s now 0 in
    record s {
      fifo = without_first 1 s.fifo;
      first_above = j.first_above;
      drop_next = if j.ok then s.drop_next + gap_of s.interval (count_after_drops s.count 1) else s.drop_next;
      count = count_after_drops s.count 1;
    }
