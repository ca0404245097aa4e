use Rattle.std.proofs.Common.{◌≡◌, ◌+◌, ◌++◌, ◌∷◌, [], length, get_or, sym, ap, subst, ◌∙◌}
use Rattle.std.proofs.lemmas.List.{get_or_read, length_push}
use Rattle.port.specs.Port.{PortState}
use Rattle.node_core.specs.Part.{LinkState, no_link, link_at}
use Rattle.figures.specs.Links.{IsLinkBegun}
use Rattle.figures.specs.declared.link.LinkFigures.{LinkFigures}
use Rattle.figures.proofs.Pushed.{one_pushed}
use Rattle.figures.proofs.links.links_begun.Goals as goal

pub loop-link-preserved : goal.loop-link-preserved
loop-link-preserved c =
    let so_far = c.loop-link.all.items in
    let at = c.loop-link.link-index in
    let since = c.args.since in
    let begun : LinkFigures = c.new.result in
    let items : c.push.new.self.items ≡ so_far ++ begun ∷ [] = c.in_ok-push.ensures.items in
    let link : c.link-item.result ≡ link_at c.args.links.now at = get_or_read c.args.links.now at c.link-item.result c.loop-link-test.true c.link-item.is no_link in
    let here : IsLinkBegun since (link_at c.args.links.now at).port begun =
    subst (λ (l : LinkState). IsLinkBegun since l.port begun) link (subst (λ (q : PortState). IsLinkBegun since q begun) c.port.ensures.value c.new.ensures) in
    record {
      size = ap length items ∙ length_push so_far begun ∙ ap (λ n. n + 1) c.loop-link.invariant.size;
      figures = λ place other under. subst (λ all. IsLinkBegun since (link_at c.args.links.now place).port (get_or all place other)) (sym items)
          (one_pushed (λ i f. IsLinkBegun since (link_at c.args.links.now i).port f) so_far begun at c.loop-link.invariant.size c.loop-link.invariant.figures here place other under);
    }
