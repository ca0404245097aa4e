use Rattle.std.proofs.Common.{length, ap}
use Rattle.std.proofs.iter.runs.Sources.{from_front, as_is}
use Rattle.std.specs.Iterator.{YieldsFirst}
use Rattle.packet_chain.specs.Stamped.{Stamped}
use Rattle.packet_chain.proofs.chain.PacketChain.iter.Goals as goal

pub returns-clause-runs : goal.returns-clause-runs
returns-clause-runs c p s =
    as_is p p.from (from_front (YieldsFirst {A = Stamped} (λ rest. rest)) (λ x. x) (λ rest. rest) (λ s t h. ap length h.0) (λ s x t h. h) p s)
