-- What every scenario is.
use Rattle.scenario_image.specs.Limits.{IsInLimits}
use Rattle.scenario_image.specs.Ends.{HasItsEnds}
use Rattle.scenario_image.specs.Kinds.{HasItsKinds}
use Rattle.scenario_image.specs.Paths.{EachPath, IsUnbroken, IsSimple}
use Rattle.scenario_image.specs.declared.parts.ScenarioParts.{ScenarioParts}

-- the parts of a scenario: within limits, each node with its links and its flow, all named nodes of their kinds, and each path comes to its end
pub record IsScenario (parts : ScenarioParts) : Type 0 where
  pub in_limits : IsInLimits parts
  pub ends : HasItsEnds parts
  pub kinds : HasItsKinds parts
  pub unbroken : EachPath parts (IsUnbroken parts)
  pub simple : EachPath parts (IsSimple parts)
