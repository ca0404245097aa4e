-- Lines in several lists, and the spots at which they stand.
use Rattle.std.specs.Prelude.{◌≡◌, ◌≢◌, ◌<◌, ℕ, T, List, [], ◌∷◌, map as each, length, drop, slice_index_or, Option, None}
use Rattle.std.specs.List.{flat_map, slice_get}
use Rattle.std.specs.Option.{option_map}
use Rattle.std.specs.FinMap as map
use Rattle.sim_time.specs.declared.key.Key.{Key}
use Rattle.sim_time.specs.Keys.{key_cmp}
use Rattle.node_core.specs.TraceLine.{TraceLine, blank}
use Rattle.line_merge.specs.declared.merge.spot.Spot.{Spot}
use Rattle.window_law.specs.Windows.{keyed}

abbrev pub line_in : List TraceLine → ℕ → TraceLine
line_in lines index = slice_index_or lines index blank

-- the lines of a list; past the last list there are none
abbrev pub lines_of : List (List TraceLine) → ℕ → List TraceLine
lines_of lists number = slice_index_or lists number []

-- the line at a spot
abbrev pub line_at : List (List TraceLine) → Spot → TraceLine
line_at lists spot = line_in (lines_of lists spot.list) spot.index

abbrev pub lines_at_spots : List (List TraceLine) → List Spot → List TraceLine
lines_at_spots lists spots = each (line_at lists) spots

-- the spot is one of a line
abbrev pub IsSpot : List (List TraceLine) → Spot → Type 0
IsSpot lists spot = (spot.list < length lists) × (spot.index < length (lines_of lists spot.list))

-- the key of the first line
abbrev pub first_key : List TraceLine → Option Key
first_key lines = option_map (λ (line : TraceLine). line.key) (slice_get lines 0)

-- the lines of all lists, those of the first list first
abbrev pub all_of : List (List TraceLine) → List TraceLine
all_of lists = flat_map (λ (lines : List TraceLine). lines) lists

-- some line has the key
abbrev pub HasKey : List TraceLine → Key → Type 0
HasKey lines key = map.find key_cmp key (each keyed lines) ≢ None

-- in each list the keys rise, and no two lists share a key
pub record AreApart (lists : List (List TraceLine)) : Type 0 where
  pub rising : (i : ℕ) → T (map.is_sorted key_cmp (each keyed (lines_of lists i)))
  pub apart : (i j : ℕ) (key : Key) → HasKey (lines_of lists i) key → HasKey (lines_of lists j) key → i ≡ j

-- what is left when so many lines of each list are gone
abbrev pub rests : List (List TraceLine) → List ℕ → List (List TraceLine)
rests [] nexts = []
rests (lines ∷ lists) [] = lines ∷ rests lists []
rests (lines ∷ lists) (next ∷ nexts) = drop next lines ∷ rests lists nexts

-- the first keys of what is left are those that are ranked
pub record AreNext (lists : List (List TraceLine)) (nexts : List ℕ) (ranks : List (Option Key)) : Type 0 where
  pub size : length nexts ≡ length lists
  pub ranked : ranks ≡ each first_key (rests lists nexts)
