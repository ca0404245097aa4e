use Rattle.std.proofs.Common.{◌≡◌, ◌≤◌, take, length, arith, ap, ◌∙◌}
use Rattle.scenario_image.specs.declared.parts.ScenarioParts.{ScenarioParts}
use Rattle.net_partition.specs.Partition.{groups_of}
use Rattle.net_partition.proofs.Partitions.{below_is, few_below}
use Rattle.net_partition.proofs.partition.Partition.found.Goals as goal

pub invariant_of-result : goal.invariant_of-result
invariant_of-result c =
    let range = c.parts-parts.ensures.scenario.in_limits.counts.node_count in
    let count : c.len.result ≡ length c.args.scenario.now.nodes = c.len.ensures ∙ ap (λ (parts : ScenarioParts). length parts.nodes) c.parts-parts.ensures.value in
    let size : length c.found_groups.result ≡ 256 = c.found_groups.ensures.size in
    (omega (arith, count, range.1), below_is c.clamp.result c.len.result c.found_groups.result (omega (arith, c.clamp.ensures)) (omega (arith, count, range.0)) (omega (arith, count, range.1)) size c.found_groups.ensures.each)

pub returns-clause-few : goal.returns-clause-few
returns-clause-few c =
    let few : groups_of (take c.len.result c.found_groups.result) ≤ c.clamp.result = few_below c.clamp.result c.len.result c.found_groups.result (omega (arith, c.clamp.ensures)) c.found_groups.ensures.each in
    omega (arith, few, c.clamp.ensures)
