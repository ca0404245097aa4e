use Rattle.scenario_image.specs.Paths.{IsUnbroken}
use Rattle.scenario_image.proofs.Courses.{EachPathBefore}
use Rattle.scenario_image.proofs.paths.paths_are_unbroken.Given as goal

abbrev pub invariant-loop-flow : goal.invariant-loop-flow
invariant-loop-flow l = EachPathBefore l.parts l.flow-index (IsUnbroken l.parts)
