use Rattle.std.proofs.Common.{◌≡◌, ◌-◌, ◌∷◌, sym, ap, ◌∙◌, subst}
use Rattle.packet_chain.specs.Counted.{IsCounted}
use Rattle.packet_chain.specs.Links.{stamped_of}
use Rattle.packet_chain.proofs.Bytes.{IsCounted-rest}
use Rattle.packet_chain.proofs.chain.PacketChain.pop_front.Goals as goal

pub invariant_of-self : goal.invariant_of-self
invariant_of-self c =
    let was = c.self.inside in
    let cell = c.pop-cell.result.0 in
    let behind = stamped_of c.pop-cell.result.1.links in
    let stamped : stamped_of was.nodes.links ≡ cell ∷ behind = ap (λ n. stamped_of n.links) (sym c.replace-nodes.ensures.value) ∙ c.pop-cell.ensures in
    let size : c.bytes_in.result ≡ cell.0.bytes = c.bytes_in.ensures.value ∙ ap (λ p. p.bytes) c.packet.ensures in
    subst (λ b. IsCounted (was.len - 1) (was.bytes - b) behind) (sym size) (IsCounted-rest was.len was.bytes cell behind (subst (IsCounted was.len was.bytes) stamped c.self.invariant))
