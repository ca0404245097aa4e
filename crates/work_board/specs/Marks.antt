-- What a seat knows: the pieces as laid, and three marks for each piece, as the lists of the pieces that have them.
use Rattle.std.specs.Prelude.{◌≡◌, ℕ, List, [], ◌∷◌, ◌⊎◌}
use Rattle.work_board.specs.Pieces.{PieceState}
use Rattle.work_board.specs.declared.view.View.{View}

-- the piece i has the mark
abbrev pub Has : List ℕ → ℕ → Type 0
Has [] i = ⊥
Has (x ∷ xs) i = (x ≡ i) ⊎ Has xs i

abbrev pub view : List PieceState → List ℕ → List ℕ → List ℕ → View
view laid holds claimed finished = record { laid = laid; holds = holds; claimed = claimed; finished = finished }

-- it knows the pieces as laid, and no more
abbrev pub fresh : List PieceState → View
fresh laid = view laid [] [] []

-- it gains "holds i"
abbrev pub holding : View → ℕ → View
holding v i = view v.laid (i ∷ []) v.claimed v.finished

-- it gains "saw i claimed"
abbrev pub seeing : View → ℕ → View
seeing v i = view v.laid v.holds (i ∷ v.claimed) v.finished

-- "holds i" turns to "finished i"
abbrev pub finishing : View → ℕ → View
finishing v i = view v.laid [] v.claimed (i ∷ v.finished)

-- what it saw claimed and what it finished stay so
pub record StaysIn (old new : View) : Type 0 where
  pub laid : new.laid ≡ old.laid
  pub claimed : (i : ℕ) → Has old.claimed i → Has new.claimed i
  pub finished : (i : ℕ) → Has old.finished i → Has new.finished i
