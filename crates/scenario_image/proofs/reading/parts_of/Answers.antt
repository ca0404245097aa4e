use Rattle.std.proofs.Common.{◌≡◌, ◌∙◌, ap, sym, arith}
use Rattle.scenario_image.specs.Reading.{nodes_at, parts_behind, parts_at}
use Rattle.scenario_image.proofs.Takes.{at_links, rest_long, parts_made}
use Rattle.scenario_image.proofs.Loops.{gives_as}
use Rattle.scenario_image.proofs.reading.parts_of.Goals as goal

pub parts_from-requires-clause-enough : goal.parts_from-requires-clause-enough
parts_from-requires-clause-enough c =
    rest_long c.args.bytes.now (c.in_ok-links.links.items, c.in_ok-links.rest.now) (λ i. omega (arith, c.type_inv.bytes i)) c.requires
    (at_links c.args.bytes.now c.behind-link_bytes.result.now c.node_count.result c.link_count.result (c.in_ok-links.links.items, c.in_ok-links.rest.now) c.node_count.ensures.value c.link_count.ensures.value c.behind-link_bytes.ensures c.in_ok-links.ensures)

pub returns : goal.returns
returns c =
    let made : parts_at c.args.bytes.now ≡ parts_behind c.args.bytes.now c.in_ok-nodes.nodes.items (c.in_ok-links.links.items, c.in_ok-links.rest.now) =
    parts_made c.args.bytes.now c.in_ok-nodes.nodes.items (c.in_ok-links.links.items, c.in_ok-links.rest.now)
    (ap nodes_at (sym c.node_bytes.ensures) ∙ c.in_ok-nodes.ensures)
    (at_links c.args.bytes.now c.behind-link_bytes.result.now c.node_count.result c.link_count.result (c.in_ok-links.links.items, c.in_ok-links.rest.now) c.node_count.ensures.value c.link_count.ensures.value c.behind-link_bytes.ensures c.in_ok-links.ensures) in
    let given : parts_behind c.args.bytes.now c.new-nodes.result (c.new-links.result, c.in_ok-links.rest.now) ≡ parts_behind c.args.bytes.now c.in_ok-nodes.nodes.items (c.in_ok-links.links.items, c.in_ok-links.rest.now) =
    ap (λ nodes. parts_behind c.args.bytes.now nodes (c.new-links.result, c.in_ok-links.rest.now)) c.new-nodes.ensures
    ∙ ap (λ links. parts_behind c.args.bytes.now c.in_ok-nodes.nodes.items (links, c.in_ok-links.rest.now)) c.new-links.ensures in
    gives_as (λ parts. (parts.0, parts.1.now)) c.parts_from.result _ _ (given ∙ sym made) c.parts_from.ensures
