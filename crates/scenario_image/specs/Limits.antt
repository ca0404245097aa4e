-- The ranges of a scenario's numbers.
use Rattle.std.specs.Prelude.{◌≤◌, ◌^◌, length, All, AllPairs}
use Rattle.sim_time.specs.declared.limits.TheConstants.{LATEST_END}
use Rattle.scenario_image.specs.Range.{IsBetween}
use Rattle.scenario_image.specs.LinkLimits.{IsLinkInLimits}
use Rattle.scenario_image.specs.FlowLimits.{IsFlowInLimits}
use Rattle.scenario_image.specs.RouteLimits.{IsRouteInLimits, IsRouteBefore}
use Rattle.scenario_image.specs.declared.parts.ScenarioParts.{ScenarioParts}

-- how many nodes, links, flows and routes there are
pub record AreCountsInLimits (parts : ScenarioParts) : Type 0 where
  pub node_count : IsBetween 2 256 (length parts.nodes)
  pub link_count : IsBetween 1 1024 (length parts.links)
  pub flow_count : IsBetween 1 128 (length parts.flows)
  pub route_count : length parts.routes ≤ 65536

-- each number of a scenario is in its range, and the routes rise
pub record IsInLimits (parts : ScenarioParts) : Type 0 where
  pub end_range : IsBetween 1 LATEST_END parts.end
  pub counts : AreCountsInLimits parts
  pub each_link : All (IsLinkInLimits (length parts.nodes)) parts.links
  pub each_flow : All (IsFlowInLimits (length parts.nodes) parts.end) parts.flows
  pub each_route : All (IsRouteInLimits (length parts.nodes) (length parts.links)) parts.routes
  pub routes_rise : AllPairs IsRouteBefore parts.routes
