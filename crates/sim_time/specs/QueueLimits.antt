-- The ranges of a queue's numbers.
use Rattle.std.specs.Prelude.{◌≤◌, ◌^◌}
use Rattle.sim_time.specs.declared.queue_kind.CodelParameters.{CodelParameters}
use Rattle.sim_time.specs.declared.queue_kind.QueueKind.{QueueKind}
use Rattle.sim_time.specs.declared.queue_kind.QueueKind.TheVariants.{DropTail, Codel}

-- CoDel's numbers (RFC 8289 section 4): nanoseconds, nanoseconds, bytes
pub record IsCodelInLimits (codel : CodelParameters) : Type 0 where
  pub target_range : (1 ≤ codel.target) × (codel.target ≤ 10 ^ 10)
  pub interval_range : (1 ≤ codel.interval) × (codel.interval ≤ 10 ^ 10)
  pub maxpacket_range : (1 ≤ codel.maxpacket) × (codel.maxpacket ≤ 65535)

-- only CoDel has numbers
abbrev pub IsQueueInLimits : QueueKind → Type 0
IsQueueInLimits DropTail = Unit {0}
IsQueueInLimits (Codel codel) = IsCodelInLimits codel
