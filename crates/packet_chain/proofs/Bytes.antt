-- The bytes of a chain's packets fit a number of 64 bits, and are counted as packets come and go.
use Rattle.std.proofs.Common.{◌≡◌, ℕ, ◌+◌, ◌-◌, ◌*◌, ◌≤◌, suc, List, [], ◌∷◌, length, arith}
use Rattle.std.proofs.lemmas.List.Sums.{sum_by-cons}
use Rattle.std.specs.Prelude.{All}
use Rattle.packet_chain.specs.Counted.{IsCounted}
use Rattle.packet_chain.specs.Stamped.{Stamped, bytes_of}
use Rattle.packet_chain.specs.PacketBytes.{IsPacketBytes}

AreSized : List Stamped → Type 0
AreSized stamped = All (λ h. IsPacketBytes h.0.bytes) stamped

one_more : (h : Stamped) (stamped : List Stamped) → bytes_of (h ∷ stamped) ≡ h.0.bytes + bytes_of stamped
one_more h stamped = sum_by-cons (λ k. k.0.bytes) h stamped

-- each packet has at most 9,040
pub bytes_of-limit : (stamped : List Stamped) → All (λ h. IsPacketBytes h.0.bytes) stamped → bytes_of stamped ≤ 9040 * length stamped
bytes_of-limit [] a = omega arith
bytes_of-limit (h ∷ stamped) a =
    let first = a 0 h (omega arith) in
    let rest = bytes_of-limit stamped (λ k d p. a (suc k) d (omega arith)) in
    let sum = one_more h stamped in
    omega (arith, first, rest, sum)

-- without the first
pub IsCounted-rest : (len bytes : ℕ) (h : Stamped) (stamped : List Stamped) → IsCounted len bytes (h ∷ stamped) → IsCounted (len - 1) (bytes - h.0.bytes) stamped
IsCounted-rest len bytes h stamped c =
    let count = c.count in let limit = c.limit in let total = c.total in let sum = one_more h stamped in
    record { count = omega arith; limit = omega arith; total = omega (arith, total, sum); sizes = λ k d p. c.sizes (suc k) d (omega arith) }
