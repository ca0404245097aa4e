-- What the clauses of the board say of seats.
use Rattle.std.specs.Prelude.{◌≡◌, ℕ, List, [], ◌∷◌, slice_get, Some}
use Rattle.work_board.specs.Pieces.{PieceState, BeganAs, IsSettled}
use Rattle.work_board.specs.Marks.{Has}
use Rattle.work_board.specs.declared.view.View.{View}
use Rattle.work_board.specs.Boards.{BoardState, SeatState}
use Rattle.work_board.specs.declared.slot.Slot.{Slot}
use Rattle.work_board.specs.declared.slot.Slot.TheVariants.{Finished, Waiting, Out}

-- the seat is of this board, and knows the pieces as laid
pub record IsOf (b : BoardState) (s : SeatState) : Type 0 where
  pub table : s.table ≡ b.table
  pub laid : s.view.laid ≡ b.pieces

-- no piece is in its hands, and its view says so
abbrev pub HoldsNothing : SeatState → Type 0
HoldsNothing s = (s.view.holds ≡ []) × (s.hands ≡ [])

-- the seat holds the piece i, of which P is so
abbrev pub HoldsSo : SeatState → ℕ → (PieceState → Type 0) → Type 0
HoldsSo s i P = (s.view.holds ≡ i ∷ []) × ((q : PieceState) × (s.hands ≡ (i, q) ∷ []) × P q)

-- the piece began as the i-th piece laid
abbrev pub Began : List PieceState → ℕ → PieceState → Type 0
Began laid i q = (p : PieceState) × (slice_get laid i ≡ Some p) × BeganAs p q

-- its view says so, and the piece in its hands began as the i-th piece laid
abbrev pub Holds : SeatState → ℕ → Type 0
Holds s i = HoldsSo s i (Began s.view.laid i)

-- its view says so, and the piece in its hands is the i-th piece laid
abbrev pub HoldsAsLaid : SeatState → ℕ → Type 0
HoldsAsLaid s i = HoldsSo s i (λ q. slice_get s.view.laid i ≡ Some q)

-- its view says so, and the piece in its hands is settled and began as the i-th piece laid
abbrev pub HoldsSettled : SeatState → ℕ → Type 0
HoldsSettled s i = HoldsSo s i (λ q. Began s.view.laid i q × IsSettled q)

-- the seat with the piece w in its hands in place of the piece i
abbrev pub holding_now : SeatState → ℕ → PieceState → SeatState
holding_now s i w = record { table = s.table; view = s.view; hands = (i, w) ∷ [] }

-- what is left of a piece, as clauses see it
abbrev pub SlotState : Type 0
SlotState = Slot

-- what a slot says of the piece i, to a seat with this view
abbrev pub Tells : View → ℕ → Slot → Type 0
Tells v i (Finished q) = Began v.laid i q × IsSettled q
Tells v i (Waiting q) = (slice_get v.laid i ≡ Some q) × ¬ Has v.claimed i × ¬ Has v.finished i
Tells v i Out = ¬ Has v.finished i
