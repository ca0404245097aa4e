-- Verdicts: what is wrong with one thing, if anything, and what is wrong first with several.
use Rattle.std.specs.Prelude.{◌≡◌, Bool, List, [], ◌∷◌, ◌++◌, Option, Some, None, Result, Ok, Err, if◌then◌else◌}
use Rattle.std.specs.Option.{option_or}
use Rattle.scenario_asm.specs.declared.fault.Fault.{Fault}
use Rattle.scenario_asm.specs.declared.fault.Fault.TheVariants.{E3, E9}

-- a fault, or none
abbrev pub Verdict : Type 0
Verdict = Option Fault

-- a fault where this holds
abbrev pub faulty_if : Bool → Fault → Verdict
faulty_if test fault = if test then Some fault else None

-- a fault unless this holds
abbrev pub faulty_unless : Bool → Fault → Verdict
faulty_unless test fault = if test then None else Some fault

-- the first verdict that is a fault
abbrev pub first_fault : List Verdict → Verdict
first_fault [] = None
first_fault (verdict ∷ verdicts) = option_or verdict (first_fault verdicts)

-- a value, unless there is a fault
abbrev pub unless : {A : Type 0} → Verdict → A → Result A Fault
unless None value = Ok value
unless (Some fault) value = Err fault

-- what a line says by its number of words, the verdicts on its words from left to right, and whether there are already as many as may be
abbrev pub judged_line : {A : Type 0} → Bool → List Verdict → Bool → A → Result A Fault
judged_line counted verdicts full value = if counted then unless (first_fault (verdicts ++ faulty_if full E9 ∷ [])) value else Err E3

-- a reading gives its value where the verdict is none, and else the verdict's fault
abbrev pub Judges : {A : Type 0} → Verdict → A → Result A Fault → Type 0
Judges verdict value (Ok read) = (verdict ≡ None) × (read ≡ value)
Judges verdict value (Err fault) = verdict ≡ Some fault
