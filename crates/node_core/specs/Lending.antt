-- A chain of an outbox, lent.
use Rattle.std.specs.Prelude.{ℕ, List, slice_set}
use Rattle.std.specs.Borrow.{Lends, MutBor, Fml}
use Rattle.packet_chain.specs.Stamped.{Stamped}
use Rattle.packet_chain.specs.contracts.chain.PacketChain as chain
use Rattle.node_core.specs.contracts.outbox.Outbox as outbox

-- the outbox ends with what is left in that chain
abbrev pub LendsChain : MutBor (List (List Stamped)) → ℕ → MutBor (List Stamped) → Fml
LendsChain s i r = Lends outbox.the_row chain.the_row s r (slice_set s.now i)
