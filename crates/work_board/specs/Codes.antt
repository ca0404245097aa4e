-- How the values of pieces, boards and seats are stored.
use Rattle.std.specs.Prelude.{ℕ, Option, refl}
use Rattle.std.specs.Coded.{Coded, code_by, coded×, coded_ℕ, coded_option}
use Rattle.node_group.specs.declared.group.GroupFault.{GroupFault}
use Rattle.node_group.specs.contracts.group.GroupFault as fault
use Rattle.window_core.specs.Group.{GroupValue}
use Rattle.node_group.specs.GroupCode.{group_code}
use Rattle.work_board.specs.Pieces.{PieceState}

abbrev pub piece_code : Coded PieceState
piece_code =
    code_by (ℕ × (GroupValue × (GroupValue × Option GroupFault))) (coded× coded_ℕ (coded× group_code (coded× group_code (coded_option fault.the_row.coded)))) (λ p. (p.end, (p.began, (p.group, p.fault))))
    (λ t. record { end = t.0; began = t.1.0; group = t.1.1.0; fault = t.1.1.1 }) (λ _. refl)
