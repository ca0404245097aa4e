use Rattle.std.proofs.Common.{◌≡◌, ◌++◌, ◌∷◌, [], List, Option, None, replicate, ap, ◌∙◌, arith}
use Rattle.std.proofs.lemmas.List.{replicate_more}
use Rattle.node_core.specs.Node.{NodeState}
use Rattle.net_machine.proofs.nodes.no_copies.Goals as goal

pub loop-place-preserved : goal.loop-place-preserved
loop-place-preserved c =
    c.in_ok-push.ensures.items ∙ ap (λ (all : List (Option NodeState)). all ++ None ∷ []) c.loop-place.invariant ∙ replicate_more c.loop-place._place None

pub returns : goal.returns
returns c =
    let all : c.loop-place._place ≡ c.args.count = omega arith in
    c.loop-place.invariant ∙ ap (λ n. replicate {A = Option NodeState} n None) all
