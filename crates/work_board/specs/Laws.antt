-- What no board allows.
use Rattle.std.specs.Prelude.{ℕ, [], ◌∷◌}
use mathlib.Core.Option as opt
use Rattle.atomic_table.specs.Table.{Allows, step}
use Rattle.work_board.specs.Pieces.{PieceState, IsDone}
use Rattle.work_board.specs.Marks.{fresh}
use Rattle.work_board.specs.Rule.{IsBoard}
use Rattle.work_board.specs.Steps.{claimed}

-- a store of 1 is no claim, even of a piece that is done as it lies: another seat may have finished it before
abbrev pub StoreIsNoClaim : Type 0
StoreIsNoClaim = (p : PieceState) (kind : ℕ) → IsDone p → ¬ Allows (IsBoard (p ∷ [])) 1 0 (fresh (p ∷ []), []) 0 (λ _. 1) (claimed (step 1 0 kind 0 opt.none) (fresh (p ∷ []), []))
