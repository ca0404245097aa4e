use Rattle.std.proofs.Common.{◌≤◌, length, ap, arith}
use Rattle.std.proofs.lemmas.List.{drop_all}
use Rattle.window_core.specs.GroupTables.{least_moment}
use Rattle.window_core.proofs.GroupTables.{least_upto}
use Rattle.window_core.proofs.window.group_table.least.Goals as goal

pub loop-next-init : goal.loop-next-init
loop-next-init c = let few = least_upto c.args.nexts.now in record { together = omega (arith, few); few = omega arith }

pub returns : goal.returns
returns c =
    let nexts = c.args.nexts.now in
    let past : length nexts ≤ c.loop-next.next-index = (let beyond = c.loop-next-test.false in omega (arith, beyond)) in
    let none = ap least_moment (drop_all c.loop-next.next-index nexts past) in
    let together = c.loop-next.invariant.together in
    let few = c.loop-next.invariant.few in
    omega (arith, none, together, few)
