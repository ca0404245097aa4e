use Rattle.std.proofs.Common.{sym}
use Rattle.std.proofs.lemmas.Slice.Eq.{bytes_eq-Decides}
use Rattle.sessions.proofs.GroupTexts.{one_only, each_only}
use Rattle.sessions.proofs.groups.partition_of.Goals as goal

pub returns-then-eq-clause-only : goal.returns-then-eq-clause-only
returns-then-eq-clause-only c = λ entries means. one_only c.args.groups.now c.args.nodes c.one.result entries ((bytes_eq-Decides _ _).0 (sym c.if-eq.ensures)) c.one.ensures means

pub returns-then-eq-2-clause-only : goal.returns-then-eq-2-clause-only
returns-then-eq-2-clause-only c = λ entries means. each_only c.args.groups.now c.args.nodes c.each.result entries ((bytes_eq-Decides _ _).0 (sym c.if-eq-2.ensures)) c.each.ensures means
