-- Lines of the trace between two positions of a run, as texts.
use Rattle.std.specs.Prelude.{◌≡◌, ℕ, ◌+◌, List, [], ◌∷◌, ◌++◌, drop, reverse, Option, None, Some}
use Rattle.std.specs.List.{concat}
use Rattle.node_core.specs.TraceLine.{TraceLine}
use Rattle.table_run.specs.State.{State, run}
use Rattle.trace_text.specs.Line.{line_bytes}
use Rattle.debugger.specs.declared.passed.LineOrder.{LineOrder}
use Rattle.debugger.specs.declared.passed.LineOrder.TheVariants.{Rising, Falling}
use Rattle.debugger.specs.declared.passed.Stretch.{Stretch}

-- the lines of so many steps, where there are so many
abbrev pub lines_of_steps : Option (List TraceLine × State) → List TraceLine
lines_of_steps None = []
lines_of_steps (Some ran) = ran.0

-- the lines of the steps from one position of the run to another
abbrev pub lines_between : State → ℕ → ℕ → List TraceLine
lines_between start m p = drop m (lines_of_steps (run start p))

-- the texts of lines that follow each other, from the number of the first on
abbrev pub texts_from : ℕ → List TraceLine → List (List ℕ)
texts_from n [] = []
texts_from n (line ∷ lines) = line_bytes n line ∷ texts_from (n + 1) lines

-- the texts of the lines between two positions: that of the step to position n has the number n
abbrev pub texts_between : State → ℕ → ℕ → List (List ℕ)
texts_between start m p = texts_from (m + 1) (lines_between start m p)

abbrev pub ordered_texts : LineOrder → List (List ℕ) → List (List ℕ)
ordered_texts Rising texts = texts
ordered_texts Falling texts = reverse texts

-- what is told of a stretch of the run
abbrev pub stretch_texts : State → Stretch → List (List ℕ)
stretch_texts start s = ordered_texts s.order (texts_between start s.from (s.from + s.count))

-- a text behind what was told so far, or before it
abbrev pub beside : LineOrder → List ℕ → List ℕ → List ℕ
beside Rising so_far text = so_far ++ text
beside Falling so_far text = text ++ so_far

-- what was told so far of the lines from a position on
abbrev pub AreReportedFrom : State → LineOrder → ℕ → ℕ → List ℕ → List ℕ → Type 0
AreReportedFrom start order m p before out = out ≡ before ++ concat (ordered_texts order (texts_between start m p))
