use Rattle.std.proofs.Common.{◌==◌, ◌++◌, ℕ, drop, sym, ap, ◌∙◌, ◌+◌, refl, Vec, Global}
use Rattle.std.proofs.lemmas.Bool.{eq-eqb, ne_eqb}
use Rattle.scenario_image.specs.declared.parts.LinkPart.{LinkPart}
use Rattle.node_core.proofs.Numbered.{picked, pick_yes, pick_no, picked_all}
use Rattle.node_core.proofs.initial.coming_numbers.Goals.{then-link-node+in_ok-push, else-link-node}
use Rattle.node_core.proofs.initial.coming_numbers.Goals as goal

pub loop-number-preserved : goal.loop-number-preserved
loop-number-preserved c =
    let node_is = λ (link : LinkPart). link.to == c.args.node in
    let number = λ (x : ℕ × LinkPart). x.0 in
    let i = c.loop-number.number in
    let within = c.loop-number-test.true in
    let part = c.index-links-number in
    let so_far = c.loop-number.numbers.items in
    elim c.if-link-node.branch [
      | then-link-node+in_ok-push w ↦
          ap (λ ns. ns ++ picked node_is number (i + 1) (drop (i + 1) c.args.links.now)) (ap (λ (v : Vec ℕ Global). v.items) w.numbers-is ∙ w.in_ok-push.ensures.items)
          ∙ pick_yes node_is number i i c.args.links.now part.result so_far i within part.is (eq-eqb part.result.to c.args.node w.if-link-node.true) refl ∙ c.loop-number.invariant
      | else-link-node w ↦
          ap (λ (v : Vec ℕ Global). v.items ++ picked node_is number (i + 1) (drop (i + 1) c.args.links.now)) w.numbers-is
          ∙ pick_no node_is number i i c.args.links.now part.result so_far within part.is (ne_eqb part.result.to c.args.node w.if-link-node.false) ∙ c.loop-number.invariant
    ]

pub returns : goal.returns
returns c =
    sym (picked_all (λ (link : LinkPart). link.to == c.args.node) (λ (x : ℕ × LinkPart). x.0) c.loop-number.number c.loop-number.number c.args.links.now c.loop-number.numbers.items c.loop-number-test.false)
    ∙ c.loop-number.invariant
