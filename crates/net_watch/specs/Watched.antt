-- What a watched run says of the net and of who watches it.
use Rattle.std.specs.Prelude.{◌≡◌, ◌≢◌, ◌<◌, Bool, true, false, None, Result, Ok, Err}
use Rattle.sim_time.specs.declared.limits.TheConstants.{MOST_EVENTS}
use Rattle.table_run.specs.State.{due}
use Rattle.net_machine.specs.declared.net.StepFault.{StepFault}
use Rattle.net_machine.specs.declared.net.StepFault.TheVariants.{NoMemory, CountFull}
use Rattle.net_machine.specs.Run.{Reached}
use Rattle.net_watch.specs.declared.run_end.RunEnd.{RunEnd}
use Rattle.net_watch.specs.declared.run_end.RunEnd.TheVariants.{Stopped, Held, Done}
use Rattle.net_watch.specs.RunsOn.{RunsOn}

-- the watcher was shown each event of the run between the two, in their order, and no other; of each but the last it answered to go on
pub record Watched {W : Type 0} (has : W → Reached → W → Reached → Bool → Type 0) (old : Reached) (was : W) (new : Reached) (is : W) (goes_on : Bool) : Type 0 where
  pub runs : RunsOn old new
  pub holds : has was old is new goes_on

-- whether the watcher's last answer was to go on
abbrev pub goes_on : Result RunEnd StepFault → Bool
goes_on (Ok Stopped) = false
goes_on (Ok Held) = true
goes_on (Ok Done) = true
goes_on (Err fault) = true

-- why no event was run: memory was refused, or one more is due after 10^15
abbrev pub IsStepFault : Reached → StepFault → Type 0
IsStepFault new NoMemory = Unit {0}
IsStepFault new CountFull = (due new.state ≢ None) × (new.position ≡ MOST_EVENTS)

-- why a run ended there
abbrev pub IsRunEnd : Type 0 → Reached → Reached → Result RunEnd StepFault → Type 0
IsRunEnd halts old new (Ok Stopped) = old.position < new.position
IsRunEnd halts old new (Ok Held) = halts
IsRunEnd halts old new (Ok Done) = due new.state ≡ None
IsRunEnd halts old new (Err fault) = IsStepFault new fault
