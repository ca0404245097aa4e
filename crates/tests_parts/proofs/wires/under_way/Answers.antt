use Rattle.std.proofs.Common.{◌<◌, slice_index_or, ap}
use Rattle.node_core.specs.WireState.{WireState, stamps_of}
use Rattle.node_core.proofs.Wires.{nothing_on}
use Rattle.tests_parts.proofs.wires.under_way.Goals as goal

pub append-requires-clause-later : goal.append-requires-clause-later
append-requires-clause-later g c = λ k d under. nothing_on (λ key. key.time < slice_index_or (stamps_of c.push_back-3.new.self) k d) c.new-wire.result (ap (λ (w : WireState). w.under_way) c.new-wire.ensures)
