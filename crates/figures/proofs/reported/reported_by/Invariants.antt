use Rattle.std.proofs.Common.{◌≡◌, ◌*◌, ◌≤◌, take}
use Rattle.figures.specs.Links.{tx_in, bytes_in}
use Rattle.figures.proofs.reported.reported_by.Given as goal

-- what the acts so far tell
abbrev pub invariant-loop-act : goal.invariant-loop-act
invariant-loop-act l = record {
  sent : l.reported.sent ≡ tx_in (take l.act-index l.acts);
  bytes : l.reported.bytes ≡ bytes_in (take l.act-index l.acts);
  sent_most : l.reported.sent ≤ l.act-index;
  bytes_most : l.reported.bytes ≤ l.reported.sent * 9040;
}
