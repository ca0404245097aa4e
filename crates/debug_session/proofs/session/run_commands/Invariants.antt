-- The lines that were passed are answered, and the answers are taken.
use Rattle.std.proofs.Common.{◌≡◌, length}
use Rattle.debug_session.specs.Answers.{session_state}
use Rattle.debug_session.proofs.Running.{SoFar}
use Rattle.debug_session.proofs.session.run_commands.Given as goal

abbrev pub invariant-loop-rest : goal.invariant-loop-rest
invariant-loop-rest g l = record {
  so_far : SoFar l.limits l.fn.debugger.start l.commands l.rest (session_state l.fn.debugger) (session_state l.debugger) (g.S.Sink.contents l.fn.out) (g.S.Sink.contents l.out);
  start : l.debugger.start ≡ l.fn.debugger.start;
  failures : g.S.Sink.failures l.out ≡ g.S.Sink.failures l.fn.out;
}

abbrev pub decreases-loop-rest : goal.decreases-loop-rest
decreases-loop-rest g l = length l.rest
