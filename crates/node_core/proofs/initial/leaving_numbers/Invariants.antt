use Rattle.std.proofs.Common.{◌≡◌, ◌==◌, ℕ, ◌++◌, drop}
use Rattle.scenario_image.specs.declared.parts.LinkPart.{LinkPart}
use Rattle.node_core.proofs.Numbered.{picked}
use Rattle.node_core.proofs.initial.leaving_numbers.Given as goal

-- the numbers so far, and those to come
abbrev pub invariant-loop-number : goal.invariant-loop-number
invariant-loop-number l =
    let numbers = picked (λ (link : LinkPart). link.from == l.node) (λ (x : ℕ × LinkPart). x.0) in
    l.numbers.items ++ numbers l.number (drop l.number l.links) ≡ numbers 0 l.links
