-- How the nodes, links and flows of a scenario are called.
use Rattle.std.specs.Prelude.{ℕ, ◌==◌, if◌then◌else◌, List, [], ◌++◌, length, decimal, slice_index_or}

-- the names of the parts of a sort, in the order of their numbers
abbrev pub NameList : Type 0
NameList = List (List ℕ)

-- a name, or a number in decimal where the name has no byte
abbrev pub name_or : ℕ → List ℕ → List ℕ
name_or number name = if length name == 0 then decimal number else name

-- how the part of a number is called, by the names of its sort: by the number where it has none
abbrev pub part_name : NameList → ℕ → List ℕ
part_name names number = name_or number (slice_index_or names number [])

-- the same behind a text
abbrev pub named : List ℕ → NameList → ℕ → List ℕ
named before names number = before ++ part_name names number
