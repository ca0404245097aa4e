use Rattle.std.proofs.Common.{sym, ◌∙◌}
use Rattle.std.proofs.lemmas.Result.{IfOk-weaker}
use Rattle.net_machine.specs.Run.{Reached}
use Rattle.debugger.specs.Moves.{UntilGoesTo}
use Rattle.debugger.proofs.Batches.{same_nodes}
use Rattle.debugger.proofs.Faults.{full_from_memory, memory_alone}
use Rattle.debugger.proofs.Moments.{until_from}
use Rattle.debugger.proofs.window_settings.WindowSettings.find_moment.Goals as goal

pub find-requires-clause-nodes : goal.find-requires-clause-nodes
find-requires-clause-nodes g c =
    let checkpoints = c.args.checkpoints.now in
    c.requires.nodes ∙ same_nodes checkpoints c.args.present.now c.requires.on_run ∙ sym (same_nodes checkpoints c.in-Ok.near c.in-Ok.ensures.on_run)

pub returns-in-Ok-clause-goes : goal.returns-in-Ok-clause-goes
returns-in-Ok-clause-goes g c =
    let checkpoints = c.args.checkpoints.now in
    let near = c.in-Ok.near in
    IfOk-weaker c.find.result (λ (net : Reached). UntilGoesTo checkpoints c.args.time near.position net.position) (λ (net : Reached). UntilGoesTo checkpoints c.args.time 0 net.position) (λ net goes. until_from checkpoints c.args.time near.position net.position c.in-Ok.ensures.some goes) c.find.ensures.goes

pub returns-in-Err-clause-full : goal.returns-in-Err-clause-full
returns-in-Err-clause-full g c = full_from_memory

pub returns-in-Err-clause-several : goal.returns-in-Err-clause-several
returns-in-Err-clause-several g c = λ none. absurd (memory_alone none)
