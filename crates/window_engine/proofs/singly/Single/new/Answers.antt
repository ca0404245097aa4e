use Rattle.std.proofs.Common.{◌≡◌, refl, subst, IfOk}
use Rattle.window_workers.specs.Edges.{reached_in}
use Rattle.window_engine.proofs.Between.{edge_given}
use Rattle.window_engine.proofs.singly.Single.new.Goals as goal

pub returns : goal.returns
returns c =
    let v = c.args.window.now in
    subst (λ r. IfOk r (λ net. net ≡ reached_in v)) c.in_ok-edge.was (edge_given c.edge.result v v.position refl c.position-reached.ensures.is_window c.requires c.edge.ensures)
