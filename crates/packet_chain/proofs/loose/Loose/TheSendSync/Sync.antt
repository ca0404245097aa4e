use denote.Param.Send.{IsSync}
use Rattle.packet_chain.proofs.Crossing.{Loose-sync}
use Rattle.packet_chain.specs.contracts.loose.Loose.{the_row}

pub sync : IsSync the_row
sync = Loose-sync
