use Rattle.explanations.proofs.Passed.{Walk}
use Rattle.explanations.proofs.counterexample.paths.stop_of.Given as goal

abbrev pub invariant-loop-hops : goal.invariant-loop-hops
invariant-loop-hops l = Walk l.parts l.path l._hops l.from l.passed.items
