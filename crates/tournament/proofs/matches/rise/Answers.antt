use Rattle.std.proofs.Common.{◌≡◌, ◌<◌, length, refl, arith}
use Rattle.std.specs.Prelude.{slice_index}
use Rattle.tournament.specs.Tournament.{moment_at}
use Rattle.tournament.proofs.Rising.{risen}
use Rattle.tournament.proofs.matches.rise.Goals as goal

pub returns-clause-rising : goal.returns-clause-rising
returns-clause-rising c =
    let climb = c.args.climb in
    let winners = c.args.winners.now in
    let leaves = c.args.leaves.now in
    let beside = c.beside.result in
    let other = slice_index winners beside in
    let its = slice_index c.args.moments.now other in
    let kept = c.requires.rising in
    let there : beside < length winners = omega (arith, c.beside.ensures.below, kept.inside, kept.size) in
    let is : its ≡ moment_at leaves other = c.requires.dated.each other (kept.within beside there) in
    risen leaves winners climb.at climb.first climb.moment beside other its c.lesser-first.result c.min.result kept c.requires.inner
    c.beside.ensures.other c.beside.ensures.below refl is c.if-its-climb.false c.lesser-first.ensures.other c.lesser-first.ensures.first (omega (arith, c.min.ensures))
