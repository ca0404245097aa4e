use denote.Param.Send.{IsSend}
use Rattle.packet_chain.proofs.Crossing.{Nodes-send}
use Rattle.packet_chain.specs.contracts.nodes.ChainNodes.{the_row}

pub send : IsSend the_row
send = Nodes-send
