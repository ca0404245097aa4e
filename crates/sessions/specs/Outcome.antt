-- How a session's end is told: by its status and its note.
use Rattle.std.specs.Prelude.{None, Some, Result, Ok, Err}
use Rattle.sessions.specs.declared.fault.SessionFault.{SessionFault}
use Rattle.sessions.specs.declared.outcome.Outcome.{Outcome}
use Rattle.sessions.specs.Faults.{status_of}

abbrev pub outcome_of : Result (Unit {0}) SessionFault → Outcome
outcome_of (Ok done) = record { status = 0; note = None }
outcome_of (Err fault) = record { status = status_of fault; note = Some fault }
