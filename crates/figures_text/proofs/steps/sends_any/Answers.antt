use Rattle.std.proofs.Common.{◌≡◌, ◌∙◌, ◌||◌, List, [], ◌∷◌, map, refl, ap}
use Rattle.std.specs.List.{list_any}
use Rattle.node_core.specs.Node.{NodeState}
use Rattle.figures_text.specs.Steps.{sends_from}
use Rattle.figures_text.proofs.steps.sends_any.Goals as goal

-- of the parts of nodes one sends where one of the nodes does
of_parts : (nodes : List NodeState) → list_any (λ (n : NodeState). sends_from n.part) nodes ≡ list_any sends_from (map (λ (n : NodeState). n.part) nodes)
of_parts [] = refl
of_parts (n ∷ nodes) = ap (λ b. sends_from n.part || b) (of_parts nodes)

pub returns : goal.returns
returns c = c.sends_one_of.ensures ∙ of_parts c.nodes.result.now ∙ ap (list_any sends_from) c.nodes.ensures.parts
