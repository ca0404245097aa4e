use Rattle.std.proofs.Common.{◌≡◌, ◌+◌, ◌/◌, ◌<◌, length, set, sym, subst, ◌∙◌, arith}
use Rattle.std.proofs.lemmas.List.{length-set, get_or-set_other}
use Rattle.tournament.specs.Replayed.{WonBut}
use Rattle.tournament.proofs.Replays.{played, all_played, within_still}
use Rattle.tournament.proofs.matches.matches_from.Goals as goal

pub loop-at-preserved : goal.loop-at-preserved
loop-at-preserved c =
    let kept = c.loop-at.invariant in
    let at = c.loop-at.at in
    let winners = c.loop-at.winners in
    let first = c.winner.result in
    let leaves = c.args.leaves.now in
    let same : length (set winners at first) ≡ length winners = length-set winners at first in
    let some : 0 < at = omega (arith, c.loop-at-test.true) in
    let inside : at < length winners = omega (arith, kept.inner) in
    record {
      size = same ∙ kept.size;
      inner = omega (arith, same, kept.inner);
      within = within_still (length leaves) at first winners c.winner.ensures.within kept.within;
      own = λ p under. get_or-set_other winners at (length leaves + p) first 0 (λ e. absurd (omega (arith, e, kept.inner, kept.size))) ∙ kept.own p under;
      won = subst (λ f. WonBut leaves (set winners at f) (at / 2)) (sym c.winner.ensures.first) (played leaves winners at some inside kept.won);
    }

pub returns-clause-won : goal.returns-clause-won
returns-clause-won c = all_played c.args.leaves.now c.loop-at.winners c.loop-at.at (omega (arith, c.loop-at-test.false)) c.loop-at.invariant.won
