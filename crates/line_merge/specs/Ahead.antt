-- What is known of the next lines of lists, by which the least is found.
use Rattle.std.specs.Prelude.{◌≡◌, ◌<◌, ◌≤◌, ℕ, true, false, List, map as each, length, slice_index, Option, None, Some}
use Rattle.sim_time.specs.declared.key.Key.{Key}
use Rattle.tournament.specs.Leading.{rank_at, Leads}
use Rattle.tournament.specs.Tournament.{moment_of}
use Rattle.node_core.specs.TraceLine.{TraceLine}
use Rattle.line_merge.specs.Merged.{first_key, rests}

-- the moment of the next line of a list, where it has one, or a later one that no other list has
abbrev pub next_moment_in : ℕ → Option Key → ℕ
next_moment_in list None = moment_of 0 0 list false
next_moment_in list (Some key) = moment_of key.time key.node list true

-- the list has the line of the least key, and it comes first there
abbrev pub HasNext : List (List TraceLine) → ℕ → Type 0
HasNext lists list = (key : Key) × Leads (each first_key lists) list key

-- where lists are at most eight, the moments of their next lines are known, else the ranks of these lines' keys
pub record IsAhead (lists : List (List TraceLine)) (nexts moments : List ℕ) (ranks : List (Option Key)) : Type 0 where
  pub size : length nexts ≡ length lists
  pub dates : length moments ≡ length lists
  pub places : length ranks ≡ length lists
  pub few : length lists ≤ 8 → (i : ℕ) → i < length lists → slice_index moments i ≡ next_moment_in i (rank_at (each first_key (rests lists nexts)) i)
  pub many : 8 < length lists → ranks ≡ each first_key (rests lists nexts)
