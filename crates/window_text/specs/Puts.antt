-- What reached a sink whose bytes are known.
use Rattle.std.specs.Prelude.{◌≤◌, ℕ, List, length, take, Option}
use Rattle.std.specs.Io.KnownBytes.{Appends}

-- it took just the first bytes of these, so many
abbrev pub TakesFirst : ℕ → List ℕ → Option (List ℕ) → Option (List ℕ) → Type 0
TakesFirst count bytes old new = (count ≤ length bytes) × Appends old new (take count bytes)
