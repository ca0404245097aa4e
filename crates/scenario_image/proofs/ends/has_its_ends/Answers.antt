use Rattle.std.proofs.Common.{◌≡◌, ℕ, ◌<◌, List, length, get_or, Some, arith, refl, ap, subst, below_more, ◌∙◌}
use Rattle.std.proofs.lemmas.Option.{slice_get_within, get_or_from_slice_get}
use Rattle.std.specs.List.{slice_get}
use Rattle.scenario_image.specs.Ends.{HasItsLinks}
use Rattle.scenario_image.specs.declared.parts.NodeKind.{NodeKind}
use Rattle.scenario_image.specs.declared.parts.ScenarioParts.{ScenarioParts}
use Rattle.scenario_image.proofs.ends.has_its_ends.Goals as goal

-- what the item of a node has, the node's kind has
at_found : (parts : ScenarioParts) (items : List NodeKind) (node : ℕ) (kind default : NodeKind) → items ≡ parts.nodes → slice_get parts.nodes node ≡ Some kind
    → HasItsLinks parts node (get_or items node default) → HasItsLinks parts node kind
at_found parts items node kind default same found has =
    let kinds : get_or items node default ≡ kind = ap (λ xs. get_or xs node default) same ∙ get_or_from_slice_get parts.nodes node kind default found in
    subst (HasItsLinks parts node) kinds has

pub loop-node-preserved : goal.loop-node-preserved
loop-node-preserved c = below_more _ _ c.loop-node.invariant (λ kind found. at_found c.args.parts.now _ _ kind _ c.as_slice-kind-items.ensures.value found (c.if-not-node_has_its_links.ensures.0 refl))

pub returns : goal.returns
returns c = (
  (λ _ node kind found. let within : node < length c.args.parts.now.nodes = slice_get_within _ node kind found in
      c.loop-node.invariant node (omega (arith, ap length c.as_slice-kind-items.ensures.value)) kind found),
  λ _. refl,
)
