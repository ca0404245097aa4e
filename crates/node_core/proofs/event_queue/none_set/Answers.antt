use Rattle.std.proofs.Common.{◌≡◌, ◌++◌, ◌∷◌, [], ℕ, List, Option, None, replicate, ap, ◌∙◌, arith}
use Rattle.std.proofs.lemmas.List.{replicate_more}
use Rattle.node_core.proofs.event_queue.none_set.Goals as goal

pub loop-at-preserved : goal.loop-at-preserved
loop-at-preserved c = c.in_ok-push.ensures.items ∙ ap (λ (all : List (Option ℕ)). all ++ None ∷ []) c.loop-at.invariant ∙ replicate_more c.loop-at._at None

pub returns : goal.returns
returns c =
    let all : c.loop-at._at ≡ c.args.timers = omega arith in
    c.loop-at.invariant ∙ ap (λ n. replicate {A = Option ℕ} n None) all
