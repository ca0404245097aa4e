use Rattle.tournament.proofs.Climbing.{leaves_on}
use Rattle.tournament.proofs.words.rise_high.Goals as goal

pub returns-clause-leaves : goal.returns-clause-leaves
returns-clause-leaves c =
    let first = leaves_on c.args.tree.now c.rise_far-climb.new.tree c.rise_below-climb.new.tree c.rise_far-climb.ensures.leaves c.rise_below-climb.ensures.leaves in
    let second = leaves_on c.args.tree.now c.rise_below-climb.new.tree c.rise_below-climb-2.new.tree first c.rise_below-climb-2.ensures.leaves in
    leaves_on c.args.tree.now c.rise_below-climb-2.new.tree c.rise_below.new.tree second c.rise_below.ensures.leaves
