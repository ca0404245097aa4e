-- The initial window (RFC 5681 section 3.1, RFC 6928 section 2).
use Rattle.std.specs.Prelude.{ℕ, ◌*◌, min, max, nat_lt, if◌then◌else◌}
use Rattle.sim_time.specs.declared.variant.Iw.{Iw}
use Rattle.sim_time.specs.declared.variant.Iw.TheVariants.{Iw3, Iw10}

-- four segments, three where a segment has over 1,095 bytes, two where it has over 2,190; or ten, but of more than 14,600 bytes only two
abbrev pub initial_window_of : ℕ → Iw → ℕ
initial_window_of mss Iw3 = if nat_lt 2190 mss then 2 * mss else (if nat_lt 1095 mss then 3 * mss else 4 * mss)
initial_window_of mss Iw10 = min (10 * mss) (max (2 * mss) 14600)
