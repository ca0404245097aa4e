use Rattle.std.proofs.Common.{◌≡◌, ◌<◌, ◌==◌, ℕ, length, take, get_or}
use Rattle.std.specs.List.{count_by}
use Rattle.net_machine.specs.declared.places.LinkEnds.{LinkEnds}
use Rattle.node_group.specs.GroupStates.{sent_over}
use Rattle.node_group.proofs.sharing.sent_over.Given as goal

-- it is known of the links so far, and they are counted at the nodes that they leave
abbrev pub invariant-loop-ends : goal.invariant-loop-ends
invariant-loop-ends l = record {
  size : length l.sent.items ≡ l.ends-index;
  each_link : (link : ℕ) → link < l.ends-index → get_or l.sent.items link 0 ≡ sent_over l.links l.nodes link;
  width : length l.leaving.items ≡ length l.nodes;
  counted : (node : ℕ) → node < length l.nodes → get_or l.leaving.items node 0 ≡ count_by (λ (ends : LinkEnds). ends.from == node) (take l.ends-index l.links);
}
