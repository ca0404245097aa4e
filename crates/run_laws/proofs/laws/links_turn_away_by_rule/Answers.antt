use Rattle.run_laws.proofs.Offers.{links_turn_away_by_rule}
use Rattle.run_laws.proofs.laws.links_turn_away_by_rule.Goals as goal

pub returns : goal.returns
returns c = links_turn_away_by_rule
