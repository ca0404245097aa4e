use Rattle.std.proofs.Common.{refl}
use Rattle.scenario_image.specs.Image.{flow_image}
use Rattle.scenario_image.specs.declared.version.Version.TheVariants.{Two}
use Rattle.scenario_image.proofs.Appends.{grown}
use Rattle.scenario_image.proofs.saving.put_flows.Goals as goal

pub loop-flow-preserved : goal.loop-flow-preserved
loop-flow-preserved c = grown (flow_image Two) c.args.flows.now c.loop-flow.flow-index _ _ c.args.out.now.items c.loop-flow.out.items c.put_flow.new.out.items c.loop-flow-test.true refl c.loop-flow.invariant c.in_ok-put_flow.ensures
