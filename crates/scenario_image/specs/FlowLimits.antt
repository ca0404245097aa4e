-- The ranges of a flow's numbers.
use Rattle.std.specs.Prelude.{ℕ, ◌<◌, ◌≤◌, ◌^◌}
use Rattle.scenario_image.specs.Range.{IsBetween}
use Rattle.scenario_image.specs.declared.parts.FlowPart.{FlowPart}

-- a flow between nodes below a number, which starts before the end
pub record IsFlowInLimits (node_count end_time : ℕ) (flow : FlowPart) : Type 0 where
  pub sender_node : flow.sender < node_count
  pub receiver_node : flow.receiver < node_count
  pub mss_range : IsBetween 1 9000 flow.mss
  pub segments_range : IsBetween 1 (10 ^ 9) flow.segments
  pub start_range : flow.start < end_time
  pub rwnd_range : IsBetween flow.mss (2 ^ 30) flow.rwnd
  pub delack_range : flow.delack ≤ 500000000
