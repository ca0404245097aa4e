-- The tree of a timetable: a word tells a time and a place, and each node has the lesser of the two below it.
use Rattle.std.specs.Prelude.{◌≡◌, ◌<◌, ◌≤◌, ◌+◌, ◌*◌, ◌/◌, ◌^◌, min, ℕ, nat_lt, if◌then◌else◌, List, map, length, Option, None, Some, slice_index}
use Rattle.std.specs.List.{range_with_len}
use Rattle.tournament.specs.Replayed.{IsOnPathUp}

-- what a word tells in the place of a time where there is none: 2^52 - 1, since its lower 12 bits tell the place
abbrev pub no_time : ℕ
no_time = 4503599627370495

-- and in the place of this time and of each later one, which stand apart: 2^52 - 2
abbrev pub late_time : ℕ
late_time = 4503599627370494

abbrev pub word_of : ℕ → ℕ → ℕ
word_of reported place = reported * 4096 + place

-- the time of a place, by what its word tells and by the time that stands apart
abbrev pub time_by : ℕ → ℕ → Option ℕ
time_by reported apart = if nat_lt reported late_time then Some reported else if nat_lt late_time reported then None else Some apart

-- what the word of a node tells
abbrev pub reported_at : List ℕ → ℕ → ℕ
reported_at tree node = slice_index tree node / 4096

-- the time of a place, whose word the last nodes have
abbrev pub time_reported : List ℕ → List ℕ → ℕ → Option ℕ
time_reported late tree place = time_by (reported_at tree (length late + place)) (slice_index late place)

abbrev pub times_reported : List ℕ → List ℕ → List (Option ℕ)
times_reported late tree = map (time_reported late tree) (range_with_len 0 (length late))

-- a place's word tells the place, and a late time that stands apart is late
pub record IsWordAt (late tree : List ℕ) (place : ℕ) : Type 0 where
  pub numbered : slice_index tree (length late + place) ≡ word_of (reported_at tree (length late + place)) place
  pub is_late : reported_at tree (length late + place) ≡ late_time → late_time ≤ slice_index late place

abbrev pub AreWords : List ℕ → List ℕ → Type 0
AreWords late tree = (p : ℕ) → p < length late → IsWordAt late tree p

-- of so many places none has a time
abbrev pub AreVacant : ℕ → List ℕ → Type 0
AreVacant places tree = (p : ℕ) → p < places → slice_index tree (places + p) ≡ word_of no_time p

-- a node has the lesser of the words of the two below it
abbrev pub IsLesser : List ℕ → ℕ → Type 0
IsLesser tree j = slice_index tree j ≡ min (slice_index tree (2 * j)) (slice_index tree (2 * j + 1))

-- each node with two below it does
abbrev pub AllLesser : List ℕ → Type 0
AllLesser tree = (j : ℕ) → 0 < j → 2 * j < length tree → IsLesser tree j

-- each but this one and those above it
abbrev pub LesserBut : List ℕ → ℕ → Type 0
LesserBut tree at = (j : ℕ) → 0 < j → 2 * j < length tree → (IsOnPathUp at j → ⊥) → IsLesser tree j

-- each node but the first has one beside it
abbrev pub IsPaired : List ℕ → Type 0
IsPaired tree = length tree ≡ 2 * (length tree / 2)

-- two trees of one size, whose leaves have the same words
pub record AreSameLeaves (before after : List ℕ) : Type 0 where
  pub size : length after ≡ length before
  pub each : (p : ℕ) → length before ≤ 2 * p → slice_index after p ≡ slice_index before p

-- the nodes below a node are played, and those above it are not; it has this word
pub record IsClimbing (tree : List ℕ) (at word : ℕ) : Type 0 where
  pub paired : IsPaired tree
  pub some : 0 < at
  pub inside : at < length tree
  pub here : slice_index tree at ≡ word
  pub lesser : LesserBut tree (at / 2)

-- there is a root even where there is no place
pub record IsTimetable (late tree : List ℕ) : Type 0 where
  pub rooted : 1 < length tree
  pub size : 0 < length late → length tree ≡ 2 * length late
  pub none : length late ≡ 0 → reported_at tree 1 ≡ no_time
  pub few : length late ≤ 2 ^ 12
  pub words : AreWords late tree
  pub lesser : AllLesser tree
