use Rattle.std.proofs.Common.{ℕ, ◌≡◌, ◌<◌, ◌+◌, ◌==◌, List, take, length, get_or, length-append, refl, sym, ap, subst, ◌∙◌, arith}
use Rattle.std.proofs.lemmas.List.{get_or_read, get_or-replicate, length-replicate, length-set}
use Rattle.std.specs.List.{count_by}
use Rattle.scenario_image.specs.declared.parts.LinkPart.{LinkPart}
use Rattle.net_machine.specs.declared.places.LinkEnds.{LinkEnds}
use Rattle.net_machine.specs.Wiring.{link_part, no_link_part, entry_of, ends_at, link_ends}
use Rattle.net_machine.proofs.Counting.{counted_more}
use Rattle.net_machine.proofs.Ends.{ends_more}
use Rattle.net_machine.proofs.initial.ends_of.Goals as goal

pub loop-link-init : goal.loop-link-init
loop-link-init c = record {
  size = ap length c.new-ends.ensures.items;
  each_link = λ number under. absurd (omega (arith, under));
  width = length-replicate {A = ℕ} 256 0;
  counted = λ node under. get_or-replicate 256 node 0 0 under;
}

pub loop-link-preserved : goal.loop-link-preserved
loop-link-preserved c =
    let i = c.loop-link.link-index in
    let links = c.args.links.now in
    let within : i < length links = c.loop-link-test.true in
    let it : c.link-item.result ≡ link_part links i = get_or_read links i c.link-item.result within c.link-item.is no_link_part in
    let to_is = c.from-node.ensures ∙ ap (λ (link : LinkPart). link.to) it in
    let to_fits = c.requires.nodes i c.link-item.result within in
    let inside : c.from-node.result < length c.loop-link.coming = omega (arith, c.loop-link.invariant.width, to_fits, c.from-node.ensures) in
    let here : c.from-node.result < 256 = omega (arith, to_fits, c.from-node.ensures) in
    let count_is : get_or c.loop-link.coming c.from-node.result 0 ≡ entry_of links i =
    c.loop-link.invariant.counted c.from-node.result here ∙ ap (λ n. count_by (λ (link : LinkPart). link.to == n) (take i links)) to_is in
    let x : LinkEnds = record { from = c.link-item.result.from; to = record { node = c.link-item.result.to; index = get_or c.loop-link.coming c.from-node.result 0 }; delay = c.link-item.result.delay } in
    let x_is : x ≡ link_ends links i = λ j. record { from = (it j).from; to = record { node = (it j).to; index = count_is j }; delay = (it j).delay } in
    record {
      size = ap length c.in_ok-push.ensures.items ∙ length-append c.loop-link.ends.items _ ∙ ap (λ n. n + 1) c.loop-link.invariant.size;
      each_link = subst (λ (ends : List LinkEnds). (number : ℕ) → number < i + 1 → ends_at ends number ≡ link_ends links number) (sym c.in_ok-push.ensures.items) (ends_more links c.loop-link.ends.items i x c.loop-link.invariant.size c.loop-link.invariant.each_link x_is);
      width = length-set c.loop-link.coming c.from-node.result _ ∙ c.loop-link.invariant.width;
      counted = λ node under. counted_more (λ (link : LinkPart). link.to) links i no_link_part within c.loop-link.coming c.from-node.result to_is inside _ refl node (c.loop-link.invariant.counted node under);
    }
