-- What is wished beside the output, as the flags of the words say.
use Rattle.std.specs.Prelude.{Bool, false, ℕ, List, codes, bytes_eq, Option, None, Some}
use Rattle.clap.specs.Walk.{Row, first_of}
use Rattle.command_line.specs.declared.subcommand.Wishes.{Wishes}

-- a flag's value is `true`
abbrev pub is_true : Option (List ℕ) → Bool
is_true None = false
is_true (Some value) = bytes_eq value (codes "true")

-- the wishes that a flag's value tells, by its name
abbrev pub wishes_by : (List ℕ → Option (List ℕ)) → Wishes
wishes_by value_of = record { progress = is_true (value_of (codes "progress")); explain = is_true (value_of (codes "explain")) }

-- the wishes among the options that a parse has found
abbrev pub wishes_in : List Row → Wishes
wishes_in rows = wishes_by (λ flag. first_of flag rows)
