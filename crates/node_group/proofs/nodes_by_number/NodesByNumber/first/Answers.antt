use Rattle.node_group.proofs.Numbered.{members_in_place}
use Rattle.node_group.proofs.InRow.{first_there, first_then}
use Rattle.node_group.proofs.nodes_by_number.NodesByNumber.first.Goals as goal

pub first-requires : goal.first-requires
first-requires c = record { in_place = members_in_place c.self.inside.nodes c.self.inside.index.items c.self.invariant }

pub returns-clause-first : goal.returns-clause-first
returns-clause-first c = first_there c.self.inside.nodes c.self.inside.index.items c.self.invariant c.args.self.now c.self.view_is c.first.result c.first.ensures

pub returns-clause-time : goal.returns-clause-time
returns-clause-time c = first_then c.self.inside.nodes c.self.inside.index.items c.self.invariant c.args.self.now c.self.view_is c.first.result c.first.ensures
