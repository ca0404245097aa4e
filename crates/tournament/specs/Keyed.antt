-- What is due under keys: one finite map of it, and the changes that are made to it. What is due, E, may be anything.
use Rattle.std.specs.Prelude.{◌≡◌, T, List, [], ◌∷◌, Option, None, Some, map as list_map}
use Rattle.std.specs.List.{slice_get}
use Rattle.std.specs.Option.{option_map}
use Rattle.std.specs.FinMap as map
use Rattle.std.specs.FinMap.{FinMap}
use Rattle.sim_time.specs.declared.key.Key.{Key}
use Rattle.sim_time.specs.Keys.{key_cmp}

-- what is due under its key
abbrev pub Keyed : Type 0 → Type 0
Keyed E = FinMap key_cmp E

-- nothing is due
abbrev pub nothing_due : (E : Type 0) → Keyed E
nothing_due E = map.empty

-- the entry of the least key
abbrev pub least : {E : Type 0} → Keyed E → Option (Key × E)
least m = slice_get (map.entries m) 0

abbrev pub next_key : {E : Type 0} → Keyed E → Option Key
next_key {E} m = option_map (λ (entry : Key × E). entry.0) (least m)

-- under this key that is due from now on, or nothing is
abbrev pub KeyChange : Type 0 → Type 0
KeyChange E = Key × Option E

abbrev pub changed : {E : Type 0} → Keyed E → Key → Option E → Keyed E
changed m key None = map.remove m key
changed m key (Some event) = map.insert m key event

-- the changes in their order
abbrev pub apply : {E : Type 0} → List (KeyChange E) → Keyed E → Keyed E
apply [] m = m
apply (change ∷ changes) m = apply changes (changed m change.0 change.1)

-- each entry is due from now on
abbrev pub entering : {E : Type 0} → List (Key × E) → List (KeyChange E)
entering {E} entries = list_map (λ (entry : Key × E). (entry.0, Some entry.1)) entries

-- the keys strictly rise
abbrev pub IsInOrder : {E : Type 0} → List (Key × E) → Type 0
IsInOrder entries = T (map.is_sorted key_cmp entries)

-- the map of these entries
abbrev pub map_of_keys : {E : Type 0} → List (Key × E) → Keyed E
map_of_keys entries = map.from_entries entries

-- what holds of each key under which something is due
abbrev pub EachKey : {E : Type 0} → (Key → Type 0) → Keyed E → Type 0
EachKey {E} P m = (k : Key) (v : E) → map.get m k ≡ Some v → P k
