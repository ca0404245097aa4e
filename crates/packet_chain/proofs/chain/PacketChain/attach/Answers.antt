use Rattle.std.proofs.Common.{length, ap, arith}
use Rattle.packet_chain.proofs.Bytes.{bytes_of-limit}
use Rattle.packet_chain.proofs.chain.PacketChain.attach.Goals as goal
use Rattle.packet_chain.proofs.chain.PacketChain.attach.Goals.{then-empty, else-empty}

pub overflow_add-self-2 : goal.overflow_add-self-2
overflow_add-self-2 c =
    let mine = bytes_of-limit _ c.self.invariant.sizes in
    let more = bytes_of-limit _ c.requires.counted.sizes in
    let count = c.self.invariant.count in
    let total = c.self.invariant.total in
    let added = c.requires.counted.total in
    let counted = c.requires.counted.count in
    let room = c.requires.room in
    let seen = ap length c.self.view_is in
    elim c.if-empty.branch [
      | then-empty w ↦ let same = ap (λ s. s.bytes) w.self-inside-is in record { fits = omega arith }
      | else-empty w ↦ let same = ap (λ s. s.bytes) w.self-inside-is in record { fits = omega arith }
    ]
