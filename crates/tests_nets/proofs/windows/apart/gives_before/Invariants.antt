use Rattle.window_core.specs.Sheaves.{StandsIn}
use Rattle.tests_nets.proofs.windows.apart.gives_before.Given as goal

abbrev pub invariant-loop-index : goal.invariant-loop-index
invariant-loop-index g l = StandsIn l.sheaf l.cursor
