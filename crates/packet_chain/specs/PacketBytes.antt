-- The size of a packet.
use Rattle.std.specs.Prelude.{◌≤◌, ℕ}

-- in bytes
abbrev pub IsPacketBytes : ℕ → Type 0
IsPacketBytes bytes = (1 ≤ bytes) × (bytes ≤ 9040)
