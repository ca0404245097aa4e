-- The lines of a window, group by group, and where a merge of them stands.
use Rattle.std.specs.Prelude.{◌≡◌, ◌<◌, ◌≤◌, ◌+◌, ℕ, T, List, map as each, length, drop, slice_index_or, Option}
use Rattle.std.specs.FinMap as map
use Rattle.sim_time.specs.declared.key.Key.{Key}
use Rattle.sim_time.specs.Keys.{key_cmp}
use Rattle.node_core.specs.TraceLine.{TraceLine}
use Rattle.line_merge.specs.Batches.{BatchValue}
use Rattle.line_merge.specs.Ahead.{IsAhead}
use Rattle.line_merge.specs.Merged.{all_of, line_in, lines_of, rests}
use Rattle.window_law.specs.Windows.{in_order, keyed}

-- the lines of each group, and the number of the first of all in the run, or of the next to come where there is none
pub record SheafValue : Type 0 where
  pub first : ℕ
  pub lists : List (List TraceLine)

-- its lines in the order of their keys
abbrev pub merged : SheafValue → BatchValue
merged s = record { first = s.first; lines = in_order (all_of s.lists) }

-- how many lines are gone; of each group, how many are; and the moments of the next, or their keys
pub record CursorValue : Type 0 where
  pub at : ℕ
  pub nexts : List ℕ
  pub moments : List ℕ
  pub ranks : List (Option Key)

-- what a merge has left is, in order, what is behind the lines that are gone
pub record StandsIn (s : SheafValue) (c : CursorValue) : Type 0 where
  pub next : IsAhead s.lists c.nexts c.moments c.ranks
  pub count : c.at + length (all_of (rests s.lists c.nexts)) ≡ length (merged s).lines
  pub left : in_order (all_of (rests s.lists c.nexts)) ≡ drop c.at (merged s).lines

-- the lines before an index are those before a moment
pub record IsCut (moment at : ℕ) (lines : List TraceLine) : Type 0 where
  pub before : (i : ℕ) → i < at → (line_in lines i).key.time < moment
  pub behind : (i : ℕ) → at ≤ i → i < length lines → moment ≤ (line_in lines i).key.time

-- a line is left, and the next one is before a moment
abbrev pub HasBefore : SheafValue → CursorValue → ℕ → Type 0
HasBefore s c moment = (c.at < length (merged s).lines) × ((line_in (merged s).lines c.at).key.time < moment)

-- the keys of the lines rise
abbrev pub IsRising : List TraceLine → Type 0
IsRising lines = T (map.is_sorted key_cmp (each keyed lines))

-- of each list so many lines are before a moment
pub record AreCuts (moment : ℕ) (lists : List (List TraceLine)) (nexts : List ℕ) : Type 0 where
  pub size : length nexts ≡ length lists
  pub each_list : (i : ℕ) → i < length lists → IsCut moment (slice_index_or nexts i 0) (lines_of lists i)
