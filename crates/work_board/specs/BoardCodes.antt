-- How the values of boards and seats are stored.
use Rattle.std.specs.Prelude.{ℕ, List, refl}
use Rattle.std.specs.Coded.{Coded, code_by, coded×, coded_ℕ, coded_list}
use Rattle.atomic_table.specs.Seated.{TableId, table_id_coded}
use Rattle.work_board.specs.Pieces.{PieceState}
use Rattle.work_board.specs.Codes.{piece_code}
use Rattle.work_board.specs.declared.view.View.{View}
use Rattle.work_board.specs.contracts.view.View as view
use Rattle.work_board.specs.Boards.{BoardState, SeatState}

abbrev pub board_code : Coded BoardState
board_code = code_by (TableId × List PieceState) (coded× table_id_coded (coded_list piece_code)) (λ b. (b.table, b.pieces)) (λ t. record { table = t.0; pieces = t.1 }) (λ _. refl)

abbrev pub seat_code : Coded SeatState
seat_code =
    code_by (TableId × (View × List (ℕ × PieceState))) (coded× table_id_coded (coded× view.the_row.coded (coded_list (coded× coded_ℕ piece_code)))) (λ s. (s.table, (s.view, s.hands)))
    (λ t. record { table = t.0; view = t.1.0; hands = t.1.1 }) (λ _. refl)
