-- those so far that leave the same node are counted
use Rattle.std.proofs.Common.{◌≡◌, ◌≤◌, ◌==◌, take}
use Rattle.std.specs.List.{count_by}
use Rattle.scenario_image.specs.declared.parts.LinkPart.{LinkPart}
use Rattle.figures_text.proofs.summaries.exit_of.Given as goal

abbrev pub invariant-loop-link : goal.invariant-loop-link
invariant-loop-link l = record {
  most : l.count ≤ l.link-index;
  counted : l.count ≡ count_by (λ (link : LinkPart). link.from == l.from) (take l.link-index l.links);
}
