use Rattle.std.proofs.Common.{sym, subst}
use Rattle.node_core.specs.TraceLine.{shown}
use Rattle.table_run.specs.State.{State}
use Rattle.debugger.specs.Moves.{Passes}
use Rattle.debugger.proofs.Walks.{passes_next}
use Rattle.debugger.proofs.checkpoints.CheckpointsWatch.see.Goals as goal

pub keep-requires : goal.keep-requires
keep-requires c = passes_next c.args.self.now c.args._before.now.value c.args.after.now (shown c.args._line.now) c.requires.fits c.requires.stepped

pub returns-clause-fits : goal.returns-clause-fits
returns-clause-fits c = subst (λ (s : State). Passes s c.args.after.now) (sym c.keep.ensures.same) (passes_next c.args.self.now c.args._before.now.value c.args.after.now (shown c.args._line.now) c.requires.fits c.requires.stepped)
