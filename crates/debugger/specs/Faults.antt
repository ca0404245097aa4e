-- What a fault of a step, or of windows, is to a move.
use Rattle.net_machine.specs.declared.net.StepFault.{StepFault}
use Rattle.net_machine.specs.declared.net.StepFault.TheVariants as steps
use Rattle.window_engine.specs.declared.fault.EngineFault.{EngineFault}
use Rattle.window_engine.specs.declared.fault.EngineFault.TheVariants as windows
use Rattle.debugger.specs.declared.fault.MoveFault.{MoveFault}
use Rattle.debugger.specs.declared.fault.MoveFault.TheVariants.{NoMemory, CountFull, NoWorker}

abbrev pub of_step : StepFault → MoveFault
of_step steps.NoMemory = NoMemory
of_step steps.CountFull = CountFull

-- a move writes to no sink, and asks nothing of an engine that has failed
abbrev pub of_windows : EngineFault → MoveFault
of_windows windows.NoMemory = NoMemory
of_windows windows.CountFull = CountFull
of_windows windows.NoWorker = NoWorker
of_windows (windows.Sink written) = NoWorker
of_windows windows.Failed = NoWorker
