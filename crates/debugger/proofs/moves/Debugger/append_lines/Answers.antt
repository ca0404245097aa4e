use Rattle.std.proofs.Common.{◌≡◌, ◌+◌, ◌++◌, sym, subst}
use Rattle.std.specs.List.{concat}
use Rattle.std.specs.Result.{OnOk}
use Rattle.debugger.specs.Moves.{HasPosition}
use Rattle.debugger.specs.Passed.{stretch_texts}
use Rattle.debugger.specs.Debugging.{Debugging}
use Rattle.debugger.proofs.Kept.{value_kept, moves_kept, nodes_kept, near_passes}
use Rattle.debugger.proofs.moves.Debugger.append_lines.Goals as goal

pub append_stretch-requires-clause-on_run : goal.append_stretch-requires-clause-on_run
append_stretch-requires-clause-on_run c = near_passes c.self.inside c.nearer-near.result.now c.self.invariant c.nearer-near.ensures

pub append_stretch-requires-clause-upto : goal.append_stretch-requires-clause-upto
append_stretch-requires-clause-upto c = subst (λ (d : Debugging). HasPosition d.start (c.args.stretch.now.from + c.args.stretch.now.count)) (sym c.self.view_is) c.requires

pub invariant_of-self : goal.invariant_of-self
invariant_of-self c =
    record { moves = moves_kept c.self.inside _ c.append_stretch.ensures.same c.self.invariant; nodes = nodes_kept c.self.inside _ c.append_stretch.ensures.same c.self.invariant }

pub returns-clause-ok : goal.returns-clause-ok
returns-clause-ok c = subst (λ (d : Debugging). OnOk c.append_stretch.result (c.append_stretch.new.out.items ≡ c.args.out.now.items ++ concat (stretch_texts d.start c.args.stretch.now))) c.self.view_is c.append_stretch.ensures.ok

pub returns-clause-err : goal.returns-clause-err
returns-clause-err c = c.append_stretch.ensures.err

pub returns-clause-same : goal.returns-clause-same
returns-clause-same c = value_kept c.self.inside _ c.append_stretch.ensures.same _ c.self.view_is
