use Rattle.std.proofs.Common.{◌≡◌, ◌++◌, take}
use Rattle.std.specs.List.{flat_map}
use Rattle.scenario_image.specs.Image.{flow_image}
use Rattle.scenario_image.specs.declared.version.Version.TheVariants.{Two}
use Rattle.scenario_image.proofs.saving.put_flows.Given as goal

abbrev pub invariant-loop-flow : goal.invariant-loop-flow
invariant-loop-flow l = l.out.items ≡ l.fn.out.items ++ flat_map (flow_image Two) (take l.flow-index l.flows)
