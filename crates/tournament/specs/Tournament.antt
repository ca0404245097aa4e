-- The tree of winners.
use Rattle.std.specs.Prelude.{◌≡◌, ◌<◌, ◌≤◌, ◌+◌, ◌*◌, ◌^◌, min, ℕ, Bool, false, List, map, length, Option, None, Some, slice_index, slice_index_or, if◌then◌else◌}
use Rattle.std.specs.declared.cmp.Ordering.{Ordering}
use Rattle.std.specs.Ordering.{nat_cmp, ordering_then, is_lt}
use Rattle.sim_time.specs.Keys.{key_cmp}
use Rattle.sim_time.specs.declared.key.Key.{Key}
use Rattle.tournament.specs.declared.entry.Entry.{Entry}

-- what stands in the place of a key where there is none: its time is the last below 2^64
abbrev pub vacant_key : Key
vacant_key = record { time = 18446744073709551615; node = 0; source = 0; number = 0 }

abbrev pub key_of : Entry → Key
key_of s = if s.held then s.key else vacant_key

-- a key before none, the lesser key, the lower place
abbrev pub entry_cmp : Entry → Entry → Ordering
entry_cmp a b = ordering_then (nat_cmp (if a.held then 0 else 1) (if b.held then 0 else 1)) (ordering_then (key_cmp (key_of a) (key_of b)) (nat_cmp a.place b.place))

-- the key's time and its node, at most 4095, as one word, and 2^63 for each time from 2^51 on; where there is no key, later than that, and later at a higher place
abbrev pub moment_of : ℕ → ℕ → ℕ → Bool → ℕ
moment_of time node place held = if held then min (min time 2251799813685248 * 4096 + min node 4095) 9223372036854775808 else 9223372036854775809 + place

abbrev pub no_entry : Entry
no_entry = record { key = record { time = 0; node = 0; source = 0; number = 0 }; place = 0; held = false }

abbrev pub entry_of_place : List Entry → ℕ → Entry
entry_of_place leaves place = slice_index_or leaves place no_entry

-- the moment of a place
abbrev pub moment_at : List Entry → ℕ → ℕ
moment_at leaves place = moment_of (entry_of_place leaves place).key.time (entry_of_place leaves place).key.node (entry_of_place leaves place).place (entry_of_place leaves place).held

-- each place has its moment
pub record AreDated (leaves : List Entry) (moments : List ℕ) : Type 0 where
  pub size : length moments ≡ length leaves
  pub each : (p : ℕ) → p < length leaves → slice_index moments p ≡ moment_at leaves p

-- which of two places comes first
abbrev pub first_place : List Entry → ℕ → ℕ → ℕ
first_place leaves a b = if is_lt (entry_cmp (entry_of_place leaves b) (entry_of_place leaves a)) then b else a

-- the place that comes first below a node
abbrev pub won_below : List Entry → List ℕ → ℕ → ℕ
won_below leaves winners j = first_place leaves (slice_index winners (2 * j)) (slice_index winners (2 * j + 1))

-- a node has the place that comes first below it
abbrev pub IsWon : List Entry → List ℕ → ℕ → Type 0
IsWon leaves winners j = slice_index winners j ≡ won_below leaves winners j

-- each node with two below it has the first of them
abbrev pub AllWon : List Entry → List ℕ → Type 0
AllWon leaves winners = (j : ℕ) → 0 < j → 2 * j < length winners → IsWon leaves winners j

-- the last nodes have the places themselves
abbrev pub AreOwn : ℕ → List ℕ → Type 0
AreOwn places winners = (p : ℕ) → p < places → slice_index winners (places + p) ≡ p

-- each node has a place
abbrev pub AreWithin : ℕ → List ℕ → Type 0
AreWithin places winners = (j : ℕ) → j < length winners → slice_index winners j < places

-- the key of a place
abbrev pub rank_of : Entry → Option Key
rank_of s = if s.held then Some s.key else None

abbrev pub ranks_of : List Entry → List (Option Key)
ranks_of leaves = map rank_of leaves

-- a place that has no key
pub record IsVacantAt (leaves : List Entry) (p : ℕ) : Type 0 where
  pub numbered : (entry_of_place leaves p).place ≡ p
  pub held : (entry_of_place leaves p).held ≡ false

pub record IsTournament (leaves : List Entry) (moments winners : List ℕ) : Type 0 where
  pub size : length winners ≡ 2 * length leaves
  pub few : length leaves ≤ 2 ^ 31
  pub numbered : (p : ℕ) → p < length leaves → (entry_of_place leaves p).place ≡ p
  pub dated : AreDated leaves moments
  pub own : AreOwn (length leaves) winners
  pub within : AreWithin (length leaves) winners
  pub won : AllWon leaves winners
