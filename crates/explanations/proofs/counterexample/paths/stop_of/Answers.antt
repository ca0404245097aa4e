use Rattle.std.proofs.Common.{◌∙◌}
use Rattle.explanations.proofs.Passed.{passed_more, walk_more}
use Rattle.explanations.proofs.counterexample.paths.stop_of.Goals as goal

pub stops_at-requires-clause-passed : goal.stops_at-requires-clause-passed
stops_at-requires-clause-passed c = passed_more _ _ _ _ _ _ c.loop-hops.invariant (c.deref.ensures.value ∙ c.in_ok-push.ensures.items)

pub loop-hops-preserved : goal.loop-hops-preserved
loop-hops-preserved c = walk_more _ _ _ _ _ _ _ _ c.loop-hops.invariant c.in_ok-push.ensures.items c.in-Some.ensures.over c.in-Some.ensures.comes
