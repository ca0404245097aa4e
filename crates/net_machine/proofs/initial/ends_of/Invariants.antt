use Rattle.std.proofs.Common.{◌≡◌, ℕ, ◌<◌, ◌==◌, length, take, get_or}
use Rattle.std.specs.List.{count_by}
use Rattle.scenario_image.specs.declared.parts.LinkPart.{LinkPart}
use Rattle.net_machine.specs.Wiring.{ends_at, link_ends}
use Rattle.net_machine.proofs.initial.ends_of.Given as goal

-- the links so far have their ends, and are counted at the nodes at which they end
abbrev pub invariant-loop-link : goal.invariant-loop-link
invariant-loop-link l = record {
  size : length l.ends.items ≡ l.link-index;
  each_link : (number : ℕ) → number < l.link-index → ends_at l.ends.items number ≡ link_ends l.links number;
  width : length l.coming ≡ 256;
  counted : (node : ℕ) → node < 256 → get_or l.coming node 0 ≡ count_by (λ (link : LinkPart). link.to == node) (take l.link-index l.links);
}
