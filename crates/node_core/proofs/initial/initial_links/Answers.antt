use Rattle.std.proofs.Common.{◌==◌, ◌++◌, ◌<◌, List, length, get_or, drop, sym, ap, subst, ◌∙◌, ◌+◌, arith}
use Rattle.std.proofs.lemmas.Bool.{eq-eqb, ne_eqb}
use Rattle.scenario_image.specs.declared.parts.LinkPart.{LinkPart}
use Rattle.scenario_image.specs.LinkLimits.{IsLinkInLimits}
use Rattle.node_core.specs.Initial.{initial_link, initial_links}
use Rattle.node_core.proofs.Numbered.{picked, pick_yes, pick_no, picked_all}
use Rattle.node_core.proofs.initial.initial_links.Goals.{then-part-node+in_ok-link+in_ok-push, else-part-node}
use Rattle.node_core.proofs.initial.initial_links.Goals as goal

pub overflow_cast-number : goal.overflow_cast-number
overflow_cast-number c = omega (arith, c.loop-number-test.true, ap length c.as_slice-part-items.ensures.value, c.requires.counts.link_count.1)

pub initial_link-requires : goal.initial_link-requires
initial_link-requires c =
    let i = c.loop-number.number in
    let nodes = length c.args.parts.now.nodes in
    let part = c.part-item.result in
    let same = c.as_slice-part-items.ensures.value in
    let within : i < length c.args.parts.now.links = subst (λ (links : List LinkPart). i < length links) same c.loop-number-test.true in
    record {
      number_fits = omega (arith, within, c.requires.counts.link_count.1);
      limits = (nodes, subst (IsLinkInLimits nodes) (sym c.part-item.is) (subst (λ (links : List LinkPart). IsLinkInLimits nodes (get_or links i part)) (sym same) (c.requires.each_link i part within)));
    }

pub loop-number-preserved : goal.loop-number-preserved
loop-number-preserved c =
    let node_is = λ (link : LinkPart). link.from == c.args.node in
    let i = c.loop-number.number in
    let parts = c.as_slice-part-items.result.now in
    let within = c.loop-number-test.true in
    let part = c.part-item in
    let so_far = c.loop-number.links.items in
    elim c.if-part-node.branch [
      | then-part-node+in_ok-link+in_ok-push w ↦
          ap (λ ls. ls ++ picked node_is initial_link (i + 1) (drop (i + 1) parts)) (ap (λ v. v.items) w.links-is ∙ w.in_ok-push.ensures.items)
          ∙ pick_yes node_is initial_link i i parts part.result so_far w.in_ok-link.link within part.is (eq-eqb part.result.from c.args.node w.if-part-node.true) w.in_ok-link.ensures ∙ c.loop-number.invariant
      | else-part-node w ↦
          ap (λ v. v.items ++ picked node_is initial_link (i + 1) (drop (i + 1) parts)) w.links-is
          ∙ pick_no node_is initial_link i i parts part.result so_far within part.is (ne_eqb part.result.from c.args.node w.if-part-node.false) ∙ c.loop-number.invariant
    ]

pub returns : goal.returns
returns c =
    let parts = c.as_slice-part-items.result.now in
    sym (picked_all (λ (link : LinkPart). link.from == c.args.node) initial_link c.loop-number.number c.loop-number.number parts c.loop-number.links.items c.loop-number-test.false)
    ∙ c.loop-number.invariant ∙ ap (λ links. initial_links links c.args.node) c.as_slice-part-items.ensures.value
