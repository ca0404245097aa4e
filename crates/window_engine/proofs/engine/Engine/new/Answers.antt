use Rattle.std.proofs.Common.{◌∙◌, ap, sym, length}
use Rattle.net_machine.specs.Run.{Reached}
use Rattle.window_engine.proofs.Between.{initial_nodes, begun}
use Rattle.window_engine.proofs.engine.Engine.new.Goals as goal

pub at-requires : goal.at-requires
at-requires c = c.requires ∙ sym (ap (λ (r : Reached). length r.state.parts) c.in_ok-net.ensures.state ∙ initial_nodes c.args.scenario.now)

pub returns : goal.returns
returns c = begun c.at.result c.args.scenario.now c.args.partition c.in_ok-net.net c.parts-parts.ensures.scenario c.in_ok-net.ensures.state c.at.ensures.net c.at.ensures.entries c.at.ensures.ahead c.at.ensures.failed
