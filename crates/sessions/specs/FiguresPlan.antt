-- Which figures of a run are written, as the words of the command line say it.
use Rattle.std.specs.Prelude.{◌<◌, ℕ, zero, suc, Bool, true, false, if◌then◌else◌, List, Option, None, Some, Result, Ok, Err}
use Rattle.sim_time.specs.Moment.{IsMoment}
use Rattle.command_line.specs.declared.subcommand.Counting.{Counting}
use Rattle.prompt_words.specs.Times.{moment_in}
use Rattle.sessions.specs.declared.figures_fault.FiguresFault.{FiguresFault}
use Rattle.sessions.specs.declared.figures_fault.FiguresFault.TheVariants.{NoMoment, NoStep}
use Rattle.sessions.specs.declared.figures_plan.FiguresPlan.{FiguresPlan}
use Rattle.sessions.specs.declared.figures_plan.FiguresPlan.TheVariants.{Table, Both, Series}

-- the moment from which on is counted: from 0 on where the words name none; none where what they name is no moment
abbrev pub moment_from : Option (List ℕ) → Option ℕ
moment_from None = Some 0
moment_from (Some word) = moment_in word

-- how long a step is: a time above 0; where no step is named, there are no rows by time, and they cannot be wished alone
abbrev pub above_zero : Option ℕ → Result (Option ℕ) FiguresFault
above_zero None = Err NoStep
above_zero (Some zero) = Err NoStep
above_zero (Some (suc n)) = Ok (Some (suc n))

abbrev pub step_from : Option (List ℕ) → Bool → Result (Option ℕ) FiguresFault
step_from None series = if series then Err NoStep else Ok None
step_from (Some word) series = above_zero (moment_in word)

-- with the table, or alone
abbrev pub plan_with : Bool → ℕ → ℕ → FiguresPlan
plan_with true from every = Series from every
plan_with false from every = Both from every

abbrev pub plan_by : Bool → ℕ → Result (Option ℕ) FiguresFault → Result FiguresPlan FiguresFault
plan_by series from (Err fault) = Err fault
plan_by series from (Ok None) = Ok (Table from)
plan_by series from (Ok (Some every)) = Ok (plan_with series from every)

abbrev pub plan_from : Counting → Option ℕ → Result FiguresPlan FiguresFault
plan_from counting None = Err NoMoment
plan_from counting (Some from) = plan_by counting.series from (step_from counting.every counting.series)

-- what is written, or why nothing is
abbrev pub plan_of : Counting → Result FiguresPlan FiguresFault
plan_of counting = plan_from counting (moment_from counting.from)

-- steps have a length, and all times are moments
abbrev pub IsSoundPlan : FiguresPlan → Type 0
IsSoundPlan (Table from) = IsMoment from
IsSoundPlan (Both from every) = IsMoment from × (0 < every) × IsMoment every
IsSoundPlan (Series from every) = IsMoment from × (0 < every) × IsMoment every
