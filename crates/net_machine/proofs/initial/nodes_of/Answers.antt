use Rattle.std.proofs.Common.{◌<◌, ◌≤◌, ◌∷◌, ◌++◌, [], List, length, take, sym, ap, subst, ◌∙◌, arith}
use Rattle.std.proofs.lemmas.List.{take_all, take_more}
use Rattle.scenario_image.specs.declared.parts.NodeKind.TheVariants.{Router}
use Rattle.node_core.specs.Node.{NodeState}
use Rattle.net_machine.specs.Nodes.{no_node, initial_nodes}
use Rattle.net_machine.proofs.Opened.{node_count, opened}
use Rattle.net_machine.proofs.initial.nodes_of.Goals as goal

pub loop-number-preserved : goal.loop-number-preserved
loop-number-preserved c =
    let p = c.args.scenario.now in
    let i = c.loop-number.number in
    let under : i < length p.nodes = omega (arith, c.loop-number-test.true, c.len-count.ensures, ap (λ q. length q.nodes) c.parts.ensures.value) in
    let inside : i < length (initial_nodes p) = subst (λ n. i < n) (sym (node_count p)) under in
    c.in_ok-push.ensures.items
    ∙ ap (λ (nodes : List NodeState). nodes ++ c.in_ok-new.field-0 ∷ []) c.loop-number.invariant
    ∙ ap (λ (node : NodeState). take i (initial_nodes p) ++ node ∷ []) (c.in_ok-new.ensures ∙ sym (opened p i Router under))
    ∙ sym (take_more (initial_nodes p) i no_node inside)

pub returns : goal.returns
returns c =
    let p = c.args.scenario.now in
    let all : length (initial_nodes p) ≤ c.loop-number.number = omega (arith, c.loop-number-test.false, c.len-count.ensures, ap (λ q. length q.nodes) c.parts.ensures.value, node_count p) in
    c.loop-number.invariant ∙ take_all c.loop-number.number (initial_nodes p) all
