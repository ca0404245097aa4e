-- What clauses see of cells and chains.
use Rattle.std.specs.Prelude.{ℕ, List, sum_by}
use Rattle.packet_chain.specs.declared.packet.Packet.{Packet}

-- a packet with its stamp
abbrev pub Stamped : Type 0
Stamped = Packet × ℕ

-- how many bytes the packets have together
abbrev pub bytes_of : List Stamped → ℕ
bytes_of = sum_by (λ h. h.0.bytes)
