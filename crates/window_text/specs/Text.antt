-- The trace of several events, as bytes.
use Rattle.std.specs.Prelude.{ℕ, List}
use Rattle.std.specs.List.{flat_map, enumerate_from}
use Rattle.node_core.specs.TraceLine.{TraceLine}
use Rattle.trace_text.specs.Line.{line_bytes}

-- the texts of lines, the first of which has this number
abbrev pub text_from : ℕ → List TraceLine → List ℕ
text_from first lines = flat_map (λ (x : ℕ × TraceLine). line_bytes x.0 x.1) (enumerate_from first lines)
