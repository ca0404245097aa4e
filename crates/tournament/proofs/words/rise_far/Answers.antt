use Rattle.tournament.proofs.Climbing.{leaves_on}
use Rattle.tournament.proofs.words.rise_far.Goals as goal

pub loop-climb-preserved : goal.loop-climb-preserved
loop-climb-preserved c = record {
  leaves = leaves_on c.args.tree.now c.loop-climb.tree c.rise-climb.new.tree c.loop-climb.invariant.leaves c.rise-climb.ensures.leaves;
  climbing = c.rise-climb.ensures.climbing;
}
