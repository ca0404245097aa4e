-- What a chain keeps beside its nodes.
use Rattle.std.specs.Prelude.{◌≡◌, ◌≤◌, ◌^◌, ℕ, List, All, length}
use Rattle.packet_chain.specs.Stamped.{Stamped, bytes_of}
use Rattle.packet_chain.specs.PacketBytes.{IsPacketBytes}

-- the length and the sum of the bytes, small enough to be counted
pub record IsCounted (len bytes : ℕ) (stamped : List Stamped) : Type 0 where
  pub count : len ≡ length stamped
  pub limit : len ≤ 2 ^ 50
  pub total : bytes ≡ bytes_of stamped
  pub sizes : All (λ h. IsPacketBytes h.0.bytes) stamped
