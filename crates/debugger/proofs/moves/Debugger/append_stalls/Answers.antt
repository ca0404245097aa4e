use Rattle.std.proofs.Common.{subst}
use Rattle.std.specs.Result.{OnOk}
use Rattle.debugger.specs.Stalls.{IsAllStalls}
use Rattle.debugger.specs.Debugging.{Debugging}
use Rattle.debugger.proofs.Kept.{value_kept, moves_kept, nodes_kept}
use Rattle.debugger.proofs.moves.Debugger.append_stalls.Goals as goal

pub invariant_of-self : goal.invariant_of-self
invariant_of-self c =
    record { moves = moves_kept c.self.inside _ c.append_stalls.ensures.same c.self.invariant; nodes = nodes_kept c.self.inside _ c.append_stalls.ensures.same c.self.invariant }

pub returns-clause-ok : goal.returns-clause-ok
returns-clause-ok c =
    subst (λ (d : Debugging). OnOk c.append_stalls.result (IsAllStalls d.start c.args.out.now.items c.append_stalls.new.out.items)) c.self.view_is c.append_stalls.ensures.ok

pub returns-clause-err : goal.returns-clause-err
returns-clause-err c = c.append_stalls.ensures.err

pub returns-clause-same : goal.returns-clause-same
returns-clause-same c = value_kept c.self.inside _ c.append_stalls.ensures.same _ c.self.view_is
