use Rattle.std.proofs.Common.{◌≡◌, ◌+◌, ◌^◌, ◌≤◌, ◌++◌, length}
use Rattle.port.specs.Laws.{NothingWaitsWhereIdle}
use Rattle.port.specs.Port.{offered_all, departed}
use Rattle.node_core.specs.Links.{packets_of}
use Rattle.node_core.proofs.Offers.{IsLeft, Fits}
use Rattle.node_core.proofs.link.Link.offer.Given as goal

-- what is left to offer leads to what the whole list does, and there is room for it
abbrev pub invariant-loop-cell : goal.invariant-loop-cell
invariant-loop-cell l =
    let all = offered_all l.now l.fn.self.port (packets_of l.fn.cells) in
    record {
      left : IsLeft l.now l.self-inside.port l.out l.acts.acts (packets_of l.cells) all.port (l.fn.out ++ departed all.departure) (l.fn.acts.acts ++ all.acts);
      idle : NothingWaitsWhereIdle l.self-inside.port;
      fits : Fits l.self-inside.port (length l.out);
      room : length l.cells ≤ l.acts.room;
      counted : l.self-inside.port.offered + length l.cells ≤ 2 ^ 99;
      same : l.self-inside.to ≡ l.fn.self.to;
    }

abbrev pub decreases-loop-cell : goal.decreases-loop-cell
decreases-loop-cell l = length l.cells
