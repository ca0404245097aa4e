-- What a sink has taken.
use Rattle.std.specs.Prelude.{ℕ, List, ◌++◌, Option}
use Rattle.std.specs.Io.KnownBytes.{Appends}

-- it took bytes of this kind, and nothing else
abbrev pub Takes : (List ℕ → Type 0) → Option (List ℕ) → Option (List ℕ) → Type 0
Takes P old new = (bytes : List ℕ) × Appends old new bytes × P bytes

-- something of this kind begins with these bytes
abbrev pub IsBeginningOf : (List ℕ → Type 0) → List ℕ → Type 0
IsBeginningOf P bytes = (rest : List ℕ) × P (bytes ++ rest)
