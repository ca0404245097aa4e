-- How a move is told.
use Rattle.std.specs.Prelude.{ℕ, None, Some}
use Rattle.prompt_words.specs.declared.command.Move.{Move}
use Rattle.prompt_words.specs.declared.command.Move.TheVariants.{Step, Back, Run, Reverse, Until, Goto, Moment}
use Rattle.prompt_words.specs.declared.report.Report.{Report}

-- a breakpoint is told after a move forwards, and after no other
abbrev pub onwards : ℕ → Report
onwards m = record { bound = m; until = None }

-- so after `until`, which says where it does nothing
abbrev pub until_report : ℕ → ℕ → Report
until_report time m = record { bound = m; until = Some time }

-- a breakpoint is told wherever one can be
abbrev pub back_to_break : Report
back_to_break = record { bound = 0; until = None }

-- how a move from a position is told
abbrev pub report_of : Move → ℕ → Report
report_of (Step count) m = onwards m
report_of (Back count) m = onwards m
report_of Run m = onwards m
report_of Reverse m = back_to_break
report_of (Until time) m = until_report time m
report_of (Goto target) m = onwards m
report_of (Moment time) m = onwards m
