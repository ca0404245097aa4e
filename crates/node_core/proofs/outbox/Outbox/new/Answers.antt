use Rattle.std.proofs.Common.{◌≡◌, ◌++◌, ◌∷◌, [], List, replicate, ap, ◌∙◌, arith}
use Rattle.std.proofs.lemmas.List.{replicate_more}
use Rattle.packet_chain.specs.Stamped.{Stamped}
use Rattle.node_core.proofs.outbox.Outbox.new.Goals as goal

pub loop-link-preserved : goal.loop-link-preserved
loop-link-preserved c =
    c.in_ok-push.ensures.items ∙ ap (λ (all : List (List Stamped)). all ++ c.new.result ∷ []) c.loop-link.invariant
    ∙ ap (λ (chain : List Stamped). replicate c.loop-link._link [] ++ chain ∷ []) c.new.ensures ∙ replicate_more c.loop-link._link []

pub returns : goal.returns
returns c =
    let all : c.loop-link._link ≡ c.args.ports = omega arith in
    c.loop-link.invariant ∙ ap (λ n. replicate {A = List Stamped} n []) all
