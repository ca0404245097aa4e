-- The least of times at places.
use Rattle.std.specs.Prelude.{◌≡◌, ◌≢◌, ◌<◌, ◌≤◌, ℕ, List, length, map, Option, None, Some, slice_index_or}
use Rattle.std.specs.Option.{option_map}
use Rattle.std.specs.declared.cmp.Ordering.TheVariants.{Greater}
use Rattle.sim_time.specs.declared.key.Key.{Key}
use Rattle.sim_time.specs.Keys.{key_cmp}
use Rattle.tournament.specs.Leading.{rank_at}

-- the time at a place; past the last there is none
abbrev pub time_at : List (Option ℕ) → ℕ → Option ℕ
time_at times place = slice_index_or times place None

-- the place has this time, no place has a lesser one, and no lower place has it too
pub record IsSoonest (times : List (Option ℕ)) (place time : ℕ) : Type 0 where
  pub held : time_at times place ≡ Some time
  pub none_sooner : (other t : ℕ) → time_at times other ≡ Some t → time ≤ t
  pub none_lower : (other : ℕ) → other < place → time_at times other ≢ Some time

-- the place is the soonest, or past the last, and then no place has a time
pub record IsSoonestOrPast (times : List (Option ℕ)) (place time : ℕ) : Type 0 where
  pub most : place ≤ length times
  pub soonest : place < length times → IsSoonest times place time
  pub none : place ≡ length times → (other : ℕ) → time_at times other ≡ None

abbrev pub time_of : Option Key → Option ℕ
time_of key = option_map (λ (k : Key). k.time) key

-- the times of keys
abbrev pub times_of : List (Option Key) → List (Option ℕ)
times_of ranks = map time_of ranks

-- of two keys of one time the one at the lower place is not the greater
abbrev pub AreInPlace : List (Option Key) → Type 0
AreInPlace ranks = (i j : ℕ) (a b : Key) → i < j → rank_at ranks i ≡ Some a → rank_at ranks j ≡ Some b → a.time ≡ b.time → key_cmp a b ≢ Greater
