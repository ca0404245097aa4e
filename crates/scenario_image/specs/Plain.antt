-- The plainest link and flow: what a scenario that looks at something else has.
use Rattle.std.specs.Prelude.{ℕ, []}
use Rattle.sim_time.specs.declared.variant.TheConstants.{RENO}
use Rattle.sim_time.specs.declared.queue_kind.QueueKind.TheVariants.{DropTail}
use Rattle.scenario_image.specs.declared.parts.LinkPart.{LinkPart}
use Rattle.scenario_image.specs.declared.parts.FlowPart.{FlowPart}

-- 8 Mbit/s and a millisecond, with drop-tail and room for 10 packets, none of which is lost
abbrev pub plain_link : ℕ → ℕ → LinkPart
plain_link from to = record {
  from = from;
  to = to;
  rate = 8000000;
  delay = 1000000;
  queue = DropTail;
  capacity = 10;
  lose = [];
}

-- one segment of 1,000 bytes from the beginning on, with a window of 64,000 bytes, acknowledged at once
abbrev pub plain_flow : ℕ → ℕ → FlowPart
plain_flow sender receiver = record {
  sender = sender;
  receiver = receiver;
  mss = 1000;
  segments = 1;
  start = 0;
  rwnd = 64000;
  delack = 0;
  variant = RENO;
}
