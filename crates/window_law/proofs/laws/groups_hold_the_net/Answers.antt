use Rattle.window_law.proofs.Split.{split_stands}
use Rattle.window_law.proofs.Joined.{joined_is_the_state}
use Rattle.window_law.proofs.laws.groups_hold_the_net.Goals as goal

pub returns : goal.returns
returns c = record { split = split_stands; joined = joined_is_the_state }
