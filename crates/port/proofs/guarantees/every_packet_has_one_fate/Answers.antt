use Rattle.port.proofs.FateLaw.{every_packet_has_one_fate}
use Rattle.port.proofs.guarantees.every_packet_has_one_fate.Goals as goal

pub returns : goal.returns
returns c = every_packet_has_one_fate
