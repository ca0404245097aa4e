use Rattle.std.proofs.Common.{length}
use Rattle.packet_chain.proofs.chain.PacketChain.clear.Given as goal

abbrev pub decreases-loop-cell : goal.decreases-loop-cell
decreases-loop-cell l = length l.self
