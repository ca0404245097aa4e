-- The last line of a trace.
use Rattle.std.specs.Prelude.{ℕ, List, [], ◌∷◌, codes, decimal}
use Rattle.trace_text.specs.Words.{line_of_words}

-- so many events are done, and none is left
abbrev pub end_bytes : ℕ → List ℕ
end_bytes n = line_of_words (codes "end" ∷ decimal n ∷ [])
