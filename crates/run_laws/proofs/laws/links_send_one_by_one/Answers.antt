use Rattle.run_laws.proofs.Turns.{links_send_one_by_one}
use Rattle.run_laws.proofs.laws.links_send_one_by_one.Goals as goal

pub returns : goal.returns
returns c = links_send_one_by_one
