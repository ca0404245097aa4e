-- How short and how long a packet can take.
use Rattle.std.proofs.Common.{ℕ, ◌+◌, ◌*◌, ◌<◌, ◌≤◌, zero, suc, subst, arith}
use Rattle.std.proofs.lemmas.Grind.{div_ceil_times}
use Rattle.std.proofs.Math.Nat.{mul-le-mul_left, suc-mul}
use Rattle.sim_time.specs.Serial.{serial, IsRate}

pub record IsPacketTime (s : ℕ) : Type 0 where
  pub positive : 1 ≤ s
  pub most : s ≤ 72320000000

positive_one : (s bytes rate : ℕ) → 1 ≤ bytes → bytes * 8000000000 ≤ s * rate → 1 ≤ s
positive_one s bytes rate least enough = grind arith

below_most : (s bytes rate : ℕ) → bytes ≤ 9040 → 1000 ≤ rate → s * rate < bytes * 8000000000 + rate → s ≤ 72320000000
below_most zero bytes rate most least bound = omega arith
below_most (suc t) bytes rate most least bound =
    let thousand : t * 1000 ≤ t * rate = mul-le-mul_left t least in
    let below : t * rate + rate < bytes * 8000000000 + rate = subst (λ x. x < bytes * 8000000000 + rate) (suc-mul t rate) bound in
    omega (arith, thousand, below)

-- at least a nanosecond, and for 9,040 bytes at 1,000 bits a second 72.32 seconds
pub serial_fits : (bytes rate : ℕ) → 1 ≤ bytes → bytes ≤ 9040 → IsRate rate → IsPacketTime (serial bytes rate)
serial_fits bytes rate least most range =
    let positive_rate : 0 < rate = omega (arith, range.0) in
    let bounds = div_ceil_times (bytes * 8000000000) rate positive_rate in
    record { positive = positive_one (serial bytes rate) bytes rate least bounds.0; most = below_most (serial bytes rate) bytes rate most range.0 bounds.1 }
