-- The groups of a window, and what is kept of all of them.
use Rattle.std.specs.Prelude.{ℕ, min, Bool, List, [], ◌∷◌, map as each, unwrap_or}
use Rattle.node_group.specs.Group.{GroupValue}
use Rattle.window_law.specs.Groups.{GroupState}
use Rattle.window_law.specs.Windows.{first_time}

-- the groups, by number, and whether they are out: then they are as they went
pub record GroupTableValue : Type 0 where
  pub groups : List GroupValue
  pub out : Bool

-- when a group's least event is; the last moment that there is where it has none
abbrev pub next_of_group : GroupState → ℕ
next_of_group g = unwrap_or (first_time g) 18446744073709551615

abbrev pub nexts_of : List GroupState → List ℕ
nexts_of groups = each next_of_group groups

-- the least of moments; the last that there is where there is none
abbrev pub least_moment : List ℕ → ℕ
least_moment [] = 18446744073709551615
least_moment (next ∷ nexts) = min next (least_moment nexts)
