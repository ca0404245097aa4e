use Rattle.std.proofs.Common.{◌≡◌, ◌==◌, ◌++◌, drop}
use Rattle.scenario_image.specs.declared.parts.LinkPart.{LinkPart}
use Rattle.node_core.specs.Initial.{initial_link}
use Rattle.node_core.proofs.Numbered.{picked}
use Rattle.node_core.proofs.initial.initial_links.Given as goal

-- the links so far, and those to come
abbrev pub invariant-loop-number : goal.invariant-loop-number
invariant-loop-number l =
    let made = picked (λ (link : LinkPart). link.from == l.node) initial_link in
    l.links.items ++ made l.number (drop l.number l.part-items) ≡ made 0 l.part-items
