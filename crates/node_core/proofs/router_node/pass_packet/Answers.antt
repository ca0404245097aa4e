use Rattle.std.proofs.Common.{sym, ◌∙◌}
use Rattle.node_core.proofs.Decisions.{route_decides}
use Rattle.node_core.proofs.router_node.pass_packet.Goals as goal

pub returns-clause-decided : goal.returns-clause-decided
returns-clause-decided c =
    λ key links exit.
    let is = sym c.exit.ensures ∙ c.in-Some.is in
    route_decides c.args.table.now links key c.args.packet c.reserve.new.self.room c.in-Some.index is (exit c.in-Some.index is) c.in_ok-reserve.ensures.ok
