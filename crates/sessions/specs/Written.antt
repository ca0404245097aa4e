-- What reached a writer whose bytes are known.
use Rattle.std.specs.Prelude.{List, ℕ, ◌++◌, Option}
use Rattle.std.specs.Io.KnownBytes.{Appends}

-- the writer took bytes of this kind, and nothing else
abbrev pub Writes : (List ℕ → Type 0) → Option (List ℕ) → Option (List ℕ) → Type 0
Writes P old new = (bytes : List ℕ) × Appends old new bytes × P bytes

-- the writer took some bytes, and these with those that wait are of this kind
abbrev pub WritesBefore : List ℕ → (List ℕ → Type 0) → Option (List ℕ) → Option (List ℕ) → Type 0
WritesBefore waiting P old new = Writes (λ bytes. P (bytes ++ waiting)) old new

-- something of this kind begins with these bytes
abbrev pub IsBeginningOf : (List ℕ → Type 0) → List ℕ → Type 0
IsBeginningOf P bytes = (rest : List ℕ) × P (bytes ++ rest)
