use Rattle.run_laws.proofs.Waits.{packets_wait_from_offer_to_sending}
use Rattle.run_laws.proofs.laws.packets_wait_from_offer_to_sending.Goals as goal

pub returns : goal.returns
returns c = packets_wait_from_offer_to_sending
