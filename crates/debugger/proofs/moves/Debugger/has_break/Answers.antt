use Rattle.std.proofs.Common.{◌≤◌, length, subst, MatchBool}
use Rattle.std.specs.List.{Contains}
use Rattle.debugger.specs.Debugging.{Debugging}
use Rattle.debugger.proofs.moves.Debugger.has_break.Goals as goal

pub returns-clause-value : goal.returns-clause-value
returns-clause-value c = subst (λ (d : Debugging). MatchBool c.contains.result (Contains d.breaks c.args.b) (¬ Contains d.breaks c.args.b)) c.self.view_is c.contains.ensures.value

pub returns-clause-few : goal.returns-clause-few
returns-clause-few c = subst (λ (d : Debugging). length d.breaks ≤ 64) c.self.view_is c.contains.ensures.few
