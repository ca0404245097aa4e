use Rattle.run_laws.proofs.Offered.{senders_offer_what_they_send}
use Rattle.run_laws.proofs.laws.senders_offer_what_they_send.Goals as goal

pub returns : goal.returns
returns c = senders_offer_what_they_send
