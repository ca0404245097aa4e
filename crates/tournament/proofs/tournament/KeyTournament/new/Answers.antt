use Rattle.tournament.proofs.Winners.{all_vacant}
use Rattle.tournament.proofs.tournament.KeyTournament.new.Goals as goal

pub returns : goal.returns
returns c = all_vacant c.args.places c.in_ok-leaves.leaves.items c.in_ok-leaves.ensures.size c.in_ok-leaves.ensures.vacant
