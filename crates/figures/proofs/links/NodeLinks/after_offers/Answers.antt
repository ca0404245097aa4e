use Rattle.std.proofs.Common.{◌≡◌, ◌<◌, List, length, get_or, set, sym, ap, subst, ◌∙◌, arith}
use Rattle.std.proofs.lemmas.List.{get_or_read}
use Rattle.port.specs.Port.{PortState}
use Rattle.node_core.specs.Part.{LinkState, no_link, link_at}
use Rattle.node_core.specs.TraceLine.{shown}
use Rattle.figures.specs.declared.link.LinkFigures.{LinkFigures}
use Rattle.figures.specs.Links.{IsLinkAfter, AreOffersCounted}
use Rattle.figures.proofs.OneLink.{Offered, one_after}
use Rattle.figures.proofs.links.NodeLinks.after_offers.Goals as goal

pub returns-then-at-len-clause-figures : goal.returns-then-at-len-clause-figures
returns-then-at-len-clause-figures c =
    let old = c.args.self.now.figures.items in
    let links = c.args.links.now in
    let at = c.offered-at.result in
    let f : LinkFigures = c.index_mut-figures.result.now in
    let g : LinkFigures = c.after_offers.new.self in
    let same : c.offered-at.new.self.figures.items ≡ old = (λ i. (c.offered-at.ensures.figures i).items) in
    let sizes : length c.offered-at.new.self.figures.items ≡ length old = ap (λ (fs : List LinkFigures). length fs) same in
    let within : at < length old = omega (arith, c.if-at-len.true, c.len.ensures, sizes) in
    let read : f ≡ get_or old at f = c.index_mut-figures.ensures.value ∙ ap (λ (fs : List LinkFigures). get_or fs at f) same in
    let inside : at < length links = omega (arith, within, c.requires.size) in
    let port : c.port.result.now ≡ (link_at links at).port = c.port.ensures.value ∙ ap (λ (l : LinkState). l.port) (get_or_read links at c.index-links-at.result inside c.index-links-at.is no_link) in
    let more : Offered f (link_at links at).port = λ equal. c.offered-at.ensures.found.some within f (equal ∙ ap (λ (x : LinkFigures). x.offered) read) in
    let after : IsLinkAfter f (link_at links at).port (shown c.args.line.now) g =
    subst (λ (p : PortState). IsLinkAfter f p (shown c.args.line.now) g) port c.after_offers.ensures in
    subst (λ (fs : List LinkFigures). AreOffersCounted old links (shown c.args.line.now) (set fs at g)) (sym same)
    (one_after old links (shown c.args.line.now) c.requires.one at within f g read more after)
