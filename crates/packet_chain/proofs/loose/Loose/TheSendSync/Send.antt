use denote.Param.Send.{IsSend}
use Rattle.packet_chain.proofs.Crossing.{Loose-send}
use Rattle.packet_chain.specs.contracts.loose.Loose.{the_row}

pub send : IsSend the_row
send = Loose-send
