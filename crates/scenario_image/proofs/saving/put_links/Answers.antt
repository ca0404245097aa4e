use Rattle.scenario_image.specs.Image.{link_image}
use Rattle.scenario_image.proofs.Appends.{grown}
use Rattle.scenario_image.proofs.saving.put_links.Goals as goal

pub loop-link-preserved : goal.loop-link-preserved
loop-link-preserved c =
    grown link_image c.args.links.now c.loop-link.link-index _ c.link-item.result c.args.out.now.items c.loop-link.out.items c.put_link.new.out.items c.loop-link-test.true c.link-item.is c.loop-link.invariant c.in_ok-put_link.ensures
