use Rattle.std.proofs.Common.{◌<◌, sym, subst, List, arith, length}
use Rattle.std.specs.List.{All, Contains}
use Rattle.net_machine.specs.Run.{Reached}
use Rattle.debugger.proofs.Thinned.{all_contained, all_but_one}
use Rattle.debugger.proofs.checkpoints.thin.Goals as goal

pub loop-at-init : goal.loop-at-init
loop-at-init c = all_contained c.args.nets.now.items

pub loop-at-preserved : goal.loop-at-preserved
loop-at-preserved c =
    let under : c.loop-at.at < length c.loop-at.nets.items = omega (arith, c.loop-at-test.true, c.len.ensures, c.loop-at.nets.ok.0) in
    subst (λ (xs : List Reached). All (Contains c.args.nets.now.items) xs) (sym c.remove.ensures.items)
    (all_but_one (Contains c.args.nets.now.items) c.loop-at.nets.items c.loop-at.at under c.loop-at.invariant)
