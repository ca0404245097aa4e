use Rattle.tournament.proofs.Climbing.{at_root, rooted}
use Rattle.tournament.proofs.words.end_at_root.Goals as goal

pub returns-then-climb-ge2-clause-lesser : goal.returns-then-climb-ge2-clause-lesser
returns-then-climb-ge2-clause-lesser c =
    rooted c.args.tree.now c.args.climb.at c.args.climb.word c.beside.result c.min.result c.requires.climbing c.if-climb-ge2.true c.requires.near
    c.beside.ensures.other c.beside.ensures.below c.min.ensures

pub returns-else-climb-ge2-clause-lesser : goal.returns-else-climb-ge2-clause-lesser
returns-else-climb-ge2-clause-lesser c = at_root c.args.tree.now c.args.climb.at c.args.climb.word c.if-climb-ge2.false c.requires.climbing
