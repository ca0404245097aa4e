-- How long a packet takes to be put on a wire.
use Rattle.std.specs.Prelude.{◌≤◌, ℕ, ◌*◌}
use Rattle.std.specs.Int.{div_ceil}

-- a link's rates, in bits a second
abbrev pub IsRate : ℕ → Type 0
IsRate rate = (1000 ≤ rate) × (rate ≤ 1000000000000)

-- the bits of so many bytes, times the nanoseconds of a second, by the rate, rounded up
abbrev pub serial : ℕ → ℕ → ℕ
serial bytes rate = div_ceil (bytes * 8000000000) rate

-- in s nanoseconds, and in no fewer, a link of the rate sends all the bytes
pub record IsLeastSerial (bytes rate s : ℕ) : Type 0 where
  pub enough : bytes * 8000000000 ≤ s * rate
  pub least : (t : ℕ) → bytes * 8000000000 ≤ t * rate → s ≤ t
