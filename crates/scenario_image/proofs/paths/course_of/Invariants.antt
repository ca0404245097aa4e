use Rattle.std.proofs.Common.{◌≡◌, Some}
use Rattle.scenario_image.specs.Paths.{node_after_hops}
use Rattle.scenario_image.proofs.Courses.{IsUnbrokenFor}
use Rattle.scenario_image.proofs.paths.course_of.Given as goal

abbrev pub invariant-loop-hops : goal.invariant-loop-hops
invariant-loop-hops l = record { at_node : node_after_hops l.parts l.path l._hops ≡ Some l.node; unbroken : IsUnbrokenFor l.parts l.path l._hops }
