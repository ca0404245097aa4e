-- What is the same in every row that sends: which segments fill the window, and what sending does to the timing, `high` and the deadline.
use Rattle.std.specs.Prelude.{◌+◌, ◌-◌, ◌*◌, ◌/◌, ℕ, zero, suc, min, max, nat_lt, nat_le, if◌then◌else◌, List, [], ◌∷◌, Option, Some, None, option_map, find}
use Rattle.std.specs.Option.{option_or}
use Rattle.std.specs.List.{list_any}
use Rattle.reno_sender.specs.declared.fields.SenderFields.{SenderFields}
use Rattle.reno_sender.specs.declared.fields.Timing.{Timing}
use Rattle.reno_sender.specs.Fields.{total}

-- the new fields, and the byte numbers that are sent, in order
pub record Planned : Type 0 where
  pub fields : SenderFields
  pub sent : List ℕ

-- first, first + step, .. : so many numbers
abbrev pub spaced : ℕ → ℕ → ℕ → List ℕ
spaced first step zero = []
spaced first step (suc n) = first ∷ spaced (first + step) step n

-- where new data has to end: at the flow's end, and at una + min (cwnd, rwnd) (RFC 5681 section 3.1)
abbrev pub allowed_end : SenderFields → ℕ
allowed_end f = min (total f) (f.una + min f.cwnd f.rwnd)

-- how many whole segments from nxt on end there or before
abbrev pub fill_count : SenderFields → ℕ
fill_count f = (allowed_end f - f.nxt) / f.mss

abbrev pub timing_of : ℕ → ℕ → Timing
timing_of number now = record { number = number; sent_at = now }

-- a number below high is a resending and ends the timing (RFC 6298 section 3, Karn's algorithm); then, where nothing is timed, the first new segment is
abbrev pub timing_after : SenderFields → List ℕ → ℕ → Option Timing
timing_after f sent now =
    option_or (if list_any (λ x. nat_lt x f.high) sent then None else f.timing)
    (option_map (λ x. timing_of (x + f.mss) now) (find (λ x. nat_le f.high x) sent))

-- where the timer is off, sending starts it (RFC 6298 section 5.1)
abbrev pub deadline_after : SenderFields → List ℕ → ℕ → Option ℕ
deadline_after f [] now = f.deadline
deadline_after f (_ ∷ _) now = option_or f.deadline (Some (now + f.rto))

-- the list is sent, and nxt is then as given
abbrev pub sending : SenderFields → List ℕ → ℕ → ℕ → Planned
sending f sent nxt now = record {
  fields = record f { nxt = nxt; high = max f.high nxt; timing = timing_after f sent now; deadline = deadline_after f sent now };
  sent = sent;
}

-- all that the windows and the flow allow is sent
abbrev pub filling : SenderFields → ℕ → Planned
filling f now = sending f (spaced f.nxt f.mss (fill_count f)) (f.nxt + fill_count f * f.mss) now
