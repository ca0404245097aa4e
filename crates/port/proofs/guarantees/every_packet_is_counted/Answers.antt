use Rattle.port.proofs.StepLaws.{every_packet_is_counted}
use Rattle.port.proofs.guarantees.every_packet_is_counted.Goals as goal

pub returns : goal.returns
returns c = every_packet_is_counted
