-- Which group each node is in, as the command line says it.
use Rattle.std.specs.Prelude.{◌≡◌, ◌⊎◌, ℕ, true, nat_lt, List, map, length, replicate, codes, decimal}
use Rattle.std.specs.List.{list_all, join_with_byte}
use Rattle.window_core.specs.Partition.{is_partition, alone}

-- the numbers of the groups, with a comma between two of them
abbrev pub groups_text : List ℕ → List ℕ
groups_text entries = join_with_byte 44 (map decimal entries)

-- a text lists the groups of so many nodes, one after another
pub record Lists (text : List ℕ) (nodes : ℕ) (entries : List ℕ) : Type 0 where
  pub spelt : text ≡ groups_text entries
  pub one_each : length entries ≡ nodes
  pub groups : is_partition entries ≡ true

-- a text says that all nodes are in one group, or that node k is in group k mod 64, or lists the groups
abbrev pub MeansGroups : List ℕ → ℕ → List ℕ → Type 0
MeansGroups text nodes entries =
    ((text ≡ codes "one") × (entries ≡ replicate nodes 0))
    ⊎ ((text ≡ codes "each") × (entries ≡ alone nodes))
    ⊎ Lists text nodes entries

-- these words are numbers of groups
pub record Names (words : List (List ℕ)) (entries : List ℕ) : Type 0 where
  pub spelt : words ≡ map decimal entries
  pub below : list_all (λ group. nat_lt group 64) entries ≡ true
