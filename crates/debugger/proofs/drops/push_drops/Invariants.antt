-- The drops among the acts so far are behind the others.
use Rattle.std.proofs.Common.{◌≡◌, ◌++◌, take}
use Rattle.debugger.specs.Drops.{drops_in}
use Rattle.debugger.proofs.drops.push_drops.Given as goal

abbrev pub invariant-loop-act : goal.invariant-loop-act
invariant-loop-act l = l.out.items ≡ l.fn.out.items ++ drops_in l.of l.number (take l.act-index l.acts)
