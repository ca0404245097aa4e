-- How a node's state is stored.
use Rattle.std.specs.Prelude.{ℕ, List, refl}
use Rattle.std.specs.Coded.{Coded, code_by, coded×, coded_ℕ, coded_list}
use Rattle.node_core.specs.contracts.role.Role as role
use Rattle.node_core.specs.contracts.link.Link as link
use Rattle.node_core.specs.declared.role.Role.{Role}
use Rattle.node_core.specs.Part.{LinkState, PartState}
use Rattle.node_core.specs.EventQueueState.{Incoming}
use Rattle.node_core.specs.Pending.{Events}
use Rattle.node_core.specs.Codes.{incoming_code, events_code}
use Rattle.node_core.specs.Node.{NodeState}

abbrev pub part_code : Coded PartState
part_code = code_by (Role × List LinkState) (coded× role.the_row.coded (coded_list link.the_row.coded)) (λ p. (p.role, p.links)) (λ t. record { role = t.0; links = t.1 }) (λ _. refl)

abbrev pub node_code : Coded NodeState
node_code =
    code_by (ℕ × (PartState × (List Incoming × Events))) (coded× coded_ℕ (coded× part_code (coded× (coded_list incoming_code) events_code))) (λ n. (n.number, (n.part, (n.incoming, n.pending))))
    (λ t. record { number = t.0; part = t.1.0; incoming = t.1.1.0; pending = t.1.1.1 }) (λ _. refl)
