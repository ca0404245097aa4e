use Rattle.scenario_image.specs.Paths.{IsSimple}
use Rattle.scenario_image.proofs.Courses.{EachPathBefore}
use Rattle.scenario_image.proofs.paths.paths_are_simple.Given as goal

abbrev pub invariant-loop-flow : goal.invariant-loop-flow
invariant-loop-flow l = EachPathBefore l.parts l.flow-index (IsSimple l.parts)
