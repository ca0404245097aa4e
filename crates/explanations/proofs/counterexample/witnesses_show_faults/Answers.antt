use Rattle.explanations.proofs.Shown.{shown}
use Rattle.explanations.proofs.counterexample.witnesses_show_faults.Goals as goal

pub returns : goal.returns
returns c = shown
