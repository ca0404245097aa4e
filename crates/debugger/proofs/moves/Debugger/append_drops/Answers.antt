use Rattle.std.proofs.Common.{◌≡◌, ◌++◌, sym, subst}
use Rattle.std.specs.Result.{OnOk}
use Rattle.debugger.specs.Moves.{HasPosition}
use Rattle.debugger.specs.Drops.{past_drops}
use Rattle.debugger.specs.Debugging.{Debugging}
use Rattle.debugger.proofs.Kept.{value_kept, moves_kept, nodes_kept}
use Rattle.debugger.proofs.moves.Debugger.append_drops.Goals as goal

pub invariant_of-self : goal.invariant_of-self
invariant_of-self c =
    record { moves = moves_kept c.self.inside _ c.append_drops.ensures.same c.self.invariant; nodes = nodes_kept c.self.inside _ c.append_drops.ensures.same c.self.invariant }

pub append_drops-requires : goal.append_drops-requires
append_drops-requires c =
    subst (HasPosition c.self.inside.checkpoints) (sym c.position-position.ensures.count) (c.self.inside.net.state, c.self.invariant.moves.shown)

pub returns-clause-ok : goal.returns-clause-ok
returns-clause-ok c =
    let there = subst (λ p. OnOk c.append_drops.result (c.append_drops.new.out.items ≡ c.args.out.now.items ++ past_drops c.self.inside.checkpoints c.args.of p)) c.position-position.ensures.count c.append_drops.ensures.ok in
    subst (λ (d : Debugging). OnOk c.append_drops.result (c.append_drops.new.out.items ≡ c.args.out.now.items ++ past_drops d.start c.args.of d.shown.position)) c.self.view_is there

pub returns-clause-err : goal.returns-clause-err
returns-clause-err c = c.append_drops.ensures.err

pub returns-clause-same : goal.returns-clause-same
returns-clause-same c = value_kept c.self.inside _ c.append_drops.ensures.same _ c.self.view_is
