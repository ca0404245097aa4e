use Rattle.run_laws.proofs.Forwarding.{senders_offer_segments}
use Rattle.run_laws.proofs.laws.senders_offer_their_segments.Goals as goal

pub returns : goal.returns
returns c = senders_offer_segments
