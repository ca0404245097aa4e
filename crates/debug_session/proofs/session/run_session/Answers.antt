use Rattle.std.proofs.Common.{[], refl}
use Rattle.std.proofs.KnownBytes.{Appends-nil}
use Rattle.table_run.specs.State.{initial}
use Rattle.debug_session.proofs.Opened.{opened_by}
use Rattle.debug_session.proofs.session.run_session.Goals as goal

pub answer_all-ended-requires-clause-opened : goal.answer_all-ended-requires-clause-opened
answer_all-ended-requires-clause-opened g c = opened_by c.in-Ok.debugger (initial c.args.scenario.now) c.args.workers c.in-Ok.ensures

pub returns-in_default-clause-output : goal.returns-in_default-clause-output
returns-in_default-clause-output g c = ([], Appends-nil (g.S.Sink.contents c.args.out.now), refl)

pub returns-in_default-clause-failures : goal.returns-in_default-clause-failures
returns-in_default-clause-failures g c = refl
