use denote.Param.Send.{IsSync}
use Rattle.packet_chain.proofs.Crossing.{Nodes-sync}
use Rattle.packet_chain.specs.contracts.nodes.ChainNodes.{the_row}

pub sync : IsSync the_row
sync = Nodes-sync
