-- Which group each node of a net is in: the k-th entry is the group of node k.
use Rattle.std.specs.Prelude.{ℕ, zero, suc, ◌+◌, ◌%◌, max, Bool, ◌&&◌, nat_lt, nat_le, List, [], ◌∷◌, ◌++◌, length, slice_index_or}
use Rattle.std.specs.List.{list_all}

-- from 2 to 256 nodes, each in a group of 0 to 63
abbrev pub is_partition : List ℕ → Bool
is_partition entries = nat_le 2 (length entries) && (nat_le (length entries) 256 && list_all (λ group. nat_lt group 64) entries)

-- the group of a node; 0 past the last
abbrev pub group_in : List ℕ → ℕ → ℕ
group_in entries node = slice_index_or entries node 0

abbrev pub greatest_number : List ℕ → ℕ
greatest_number [] = 0
greatest_number (entry ∷ entries) = max entry (greatest_number entries)

-- groups are those from 0 to the greatest entry
abbrev pub groups_of : List ℕ → ℕ
groups_of entries = greatest_number entries + 1

-- each of so many nodes in a group of its own, as far as groups go: node k in group k mod 64
abbrev pub alone : ℕ → List ℕ
alone zero = []
alone (suc count) = alone count ++ count % 64 ∷ []
