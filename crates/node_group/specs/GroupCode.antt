-- How a group's value is stored.
use Rattle.std.specs.Prelude.{ℕ, List, refl}
use Rattle.std.specs.Coded.{Coded, code_by, coded×, coded_ℕ, coded_list}
use Rattle.packet_chain.specs.Stamped.{Stamped}
use Rattle.packet_chain.specs.contracts.packet.Packet as packet
use Rattle.node_core.specs.TraceLine.{TraceLine}
use Rattle.node_core.specs.WireState.{WireState}
use Rattle.net_machine.specs.declared.places.LinkEnds.{LinkEnds}
use Rattle.net_machine.specs.contracts.places.LinkEnds as link_ends
use Rattle.window_law.specs.LineCode.{line_code}
use Rattle.node_group.specs.Seats.{Seats, seats_code}
use Rattle.node_group.specs.Group.{GroupValue}

abbrev pub wire_code : Coded WireState
wire_code =
    code_by (ℕ × (ℕ × (ℕ × List Stamped))) (coded× coded_ℕ (coded× coded_ℕ (coded× coded_ℕ (coded_list (coded× packet.the_row.coded coded_ℕ))))) (λ w. (w.node, (w.link, (w.taken, w.under_way))))
    (λ t. record { node = t.0; link = t.1.0; taken = t.1.1.0; under_way = t.1.1.1 }) (λ _. refl)

abbrev pub group_code : Coded GroupValue
group_code =
    code_by (ℕ × (List ℕ × (List LinkEnds × (Seats × (List WireState × (List TraceLine × (ℕ × ℕ)))))))
    (coded× coded_ℕ (coded× (coded_list coded_ℕ) (coded× (coded_list link_ends.the_row.coded) (coded× seats_code (coded× (coded_list wire_code) (coded× (coded_list line_code) (coded× coded_ℕ coded_ℕ)))))))
    (λ g. (g.number, (g.entries, (g.links, (g.seats, (g.held, (g.lines, (g.until, g.position))))))))
    (λ t. record { number = t.0; entries = t.1.0; links = t.1.1.0; seats = t.1.1.1.0; held = t.1.1.1.1.0; lines = t.1.1.1.1.1.0; until = t.1.1.1.1.1.1.0; position = t.1.1.1.1.1.1.1 }) (λ _. refl)
