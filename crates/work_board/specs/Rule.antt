-- The rule of the board. A word for each piece: 0 waiting, 1 claimed, 3 finished.
use Rattle.std.specs.Prelude.{◌≡◌, ℕ, ◌<◌, List, length, slice_index, slice_get, Option, Some, ◌⊎◌}
use mathlib.Core.Option as opt
use lib.ListN.{get_elem?}
use Rattle.atomic_table.specs.Table.{State}
use Rattle.work_board.specs.Pieces.{PieceState, BeganAs, IsSettled}
use Rattle.work_board.specs.Marks.{Has}
use Rattle.work_board.specs.declared.view.View.{View}

-- what lies at the place of a piece, by its word
pub data Place (laid : Option PieceState) (home : opt.Option (opt.Option PieceState)) (word : ℕ) : Type 0 where
  waiting : word ≡ 0 → (p : PieceState) → laid ≡ Some p → home ≡ opt.some (opt.some p) → Place laid home word
  out : word ≡ 1 → home ≡ opt.some opt.none → Place laid home word
  finished : word ≡ 3 → (p q : PieceState) → laid ≡ Some p → home ≡ opt.some (opt.some q) → IsSettled q → BeganAs p q → Place laid home word

-- what a view says of the words
pub record Fits (laid : List PieceState) (words : List ℕ) (v : View) : Type 0 where
  pub reported : v.laid ≡ laid
  pub held : (i : ℕ) → Has v.holds i → slice_index words i ≡ 1
  pub seen : (i : ℕ) → Has v.claimed i → (slice_index words i ≡ 1) ⊎ (slice_index words i ≡ 3)
  pub done : (i : ℕ) → Has v.finished i → slice_index words i ≡ 3

-- between any two steps: the words, what lies at their places and the views of all seats agree
pub record IsBoard (laid : List PieceState) (s : State PieceState View) : Type 0 where
  pub words : length s.words ≡ length laid
  pub homes : length s.homes ≡ length laid
  pub fits : (j : ℕ) (v : View) → get_elem? s.views j ≡ opt.some v → Fits laid s.words v
  -- a piece is held in at most one view
  pub once : (i j k : ℕ) (v w : View) → get_elem? s.views j ≡ opt.some v → get_elem? s.views k ≡ opt.some w → Has v.holds i → Has w.holds i → j ≡ k
  pub places : (i : ℕ) → i < length laid → Place (slice_get laid i) (get_elem? s.homes i) (slice_index s.words i)
