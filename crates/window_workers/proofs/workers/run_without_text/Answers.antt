use Rattle.std.proofs.Common.{ap, arith, length, refl}
use Rattle.window_core.specs.Sheaves.{SheafValue}
use Rattle.window_workers.proofs.NoLine.{no_line}
use Rattle.window_workers.proofs.Pending.{ready_nothing, unput}
use Rattle.window_workers.proofs.workers.run_without_text.Goals as goal

pub run_shared-requires-clause-texts : goal.run_shared-requires-clause-texts
run_shared-requires-clause-texts g c =
    let is = c.in-Ok.ensures in record {
      right = c.clear.ensures;
      fits = omega (arith, ap (λ (s : SheafValue). s.first) c.new-sheaf.ensures, ap length (no_line c.new-sheaf.result 1 c.new-sheaf.ensures));
      owes = unput c.in-Ok.texts.pending_text _ _ 0 0 (ready_nothing c.in-Ok.texts.pending_text.text is.empty) is.waits refl refl;
    }
