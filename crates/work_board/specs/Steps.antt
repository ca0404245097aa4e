-- What each step tells: of the step, the seat before, the number found and the seat after.
use Rattle.std.specs.Prelude.{◌≡◌, ◌≢◌, ℕ, ◌∷◌, slice_get, Some}
use Rattle.atomic_table.specs.Table.{Me, Step, rest}
use Rattle.work_board.specs.Pieces.{PieceState}
use Rattle.work_board.specs.Marks.{holding, seeing, finishing}
use Rattle.work_board.specs.declared.view.View.{View}

-- a seat, as its steps see it: its view and the pieces in its hands
abbrev pub Sat : Type 0
Sat = Me PieceState View

-- where the word was 0, the seat holds the piece as it was laid; else it has seen that it was claimed
abbrev pub claimed : Step PieceState → Sat → ℕ → Sat → Type 0
claimed st m found n =
    (found ≡ 0 → (p : PieceState) × (slice_get m.0.laid st.word ≡ Some p) × (n ≡ (holding m.0 st.word, (st.word, p) ∷ m.1)))
    × (found ≢ 0 → n ≡ (seeing m.0 st.word, m.1))

-- the seat gives the piece in its hands back
abbrev pub finished : Step PieceState → Sat → ℕ → Sat → Type 0
finished st m found n = n ≡ (finishing m.0 st.word, rest m.1)
