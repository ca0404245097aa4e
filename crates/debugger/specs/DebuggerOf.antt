-- What the fields of a debugger, and of its checkpoints, stand for.
use Rattle.std.specs.Prelude.{◌≡◌, List, All, Some, length}
use Rattle.net_machine.specs.Run.{Reached}
use Rattle.debugger.specs.declared.checkpoints.Checkpoints.TheInside.{Inside as CheckpointsInside}
use Rattle.debugger.specs.declared.moves.Debugger.TheInside.{Inside}
use Rattle.debugger.specs.Moves.{Passes}
use Rattle.debugger.specs.Debugging.{Debugging}

-- all are states of the run from the first
pub record AreCheckpoints (initial : Reached) (later : List Reached) : Type 0 where
  pub at_start : initial.position ≡ 0
  pub on_run : All (Passes initial.state) later

abbrev pub AreCheckpointsInside : CheckpointsInside → Type 0
AreCheckpointsInside s = AreCheckpoints s.initial s.later.items

abbrev pub debugging_of : Inside → Debugging
debugging_of d = record { start = d.checkpoints; shown = d.net; left = d.left; breaks = d.breaks; workers = d.window_settings.workers }

-- the state shown, and the one to go back to, are states of the run
pub record IsDebugger (d : Debugging) : Type 0 where
  pub shown : Passes d.start d.shown
  pub left : (was : Reached) → d.left ≡ Some was → Passes d.start was

-- and each node of the run is in a group
pub record IsDebuggerInside (d : Inside) : Type 0 where
  pub moves : IsDebugger (debugging_of d)
  pub nodes : length d.window_settings.partition ≡ length d.checkpoints.parts
