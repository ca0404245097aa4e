-- Maps at numbers, each with the keys that are at home there, gathered into one.
use Rattle.std.specs.Prelude.{◌≡◌, ℕ, List, [], ◌∷◌, ◌++◌, slice_index_or}
use Rattle.std.specs.FinMap as map
use Rattle.sim_time.specs.declared.key.Key.{Key}
use Rattle.tournament.specs.Keyed.{Keyed, nothing_due, map_of_keys, EachKey}

-- all entries, those of the first map first
abbrev pub all_entries : {E : Type 0} → List (Keyed E) → List (Key × E)
all_entries [] = []
all_entries (m ∷ ms) = map.entries m ++ all_entries ms

-- one map of them all
unfoldable pub gathered : {E : Type 0} → List (Keyed E) → Keyed E
gathered ms = map_of_keys (all_entries ms)

-- the map at a number; past the last there is nothing
abbrev pub map_at : {E : Type 0} → List (Keyed E) → ℕ → Keyed E
map_at {E} ms i = slice_index_or ms i (nothing_due E)

-- each key is at home in its map: so no two maps share a key
abbrev pub AtHome : {E : Type 0} → (Key → ℕ) → List (Keyed E) → Type 0
AtHome home ms = (i : ℕ) → EachKey (λ k. home k ≡ i) (map_at ms i)
