-- The ranges of a link's numbers.
use Rattle.std.specs.Prelude.{ℕ, ◌<◌, ◌≤◌, ◌^◌, List, length, All}
use Rattle.std.specs.List.Sorted.{IsStrictlyIncreasing}
use Rattle.sim_time.specs.QueueLimits.{IsQueueInLimits}
use Rattle.sim_time.specs.Serial.{IsRate}
use Rattle.scenario_image.specs.Range.{IsBetween}
use Rattle.scenario_image.specs.declared.parts.LinkPart.{LinkPart}

-- the numbers of the lost packets: at most 64, and rising
pub record IsLoseInLimits (lose : List ℕ) : Type 0 where
  pub lose_count : length lose ≤ 64
  pub lose_range : All (IsBetween 1 (10 ^ 9)) lose
  pub lose_rises : IsStrictlyIncreasing lose

-- a link between nodes below a number
pub record IsLinkInLimits (node_count : ℕ) (link : LinkPart) : Type 0 where
  pub from_node : link.from < node_count
  pub to_node : link.to < node_count
  pub rate_range : IsRate link.rate
  pub delay_range : IsBetween 1 (10 ^ 10) link.delay
  pub queue_range : IsQueueInLimits link.queue
  pub capacity_range : IsBetween 1 65535 link.capacity
  pub lose_limits : IsLoseInLimits link.lose
