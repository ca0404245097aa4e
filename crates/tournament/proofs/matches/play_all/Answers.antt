use Rattle.std.proofs.Common.{◌≡◌, ◌≢◌, ◌+◌, ◌-◌, ◌*◌, ◌<◌, length, set, ◌∙◌, ⊎_elim, arith}
use Rattle.std.proofs.lemmas.Bool.{cases_eq}
use Rattle.std.proofs.lemmas.List.{length-set, get_or-set_other}
use Rattle.tournament.proofs.Replays.{within_still, won_here, won_still}
use Rattle.tournament.proofs.matches.play_all.Goals as goal

pub loop-at-preserved : goal.loop-at-preserved
loop-at-preserved c =
    let kept = c.loop-at.invariant in
    let at = c.loop-at.at - 1 in
    let winners = c.loop-at.winners in
    let first = c.winner.result in
    let leaves = c.args.leaves.now in
    let same : length (set winners at first) ≡ length winners = length-set winners at first in
    let some : 0 < at = omega (arith, c.loop-at-test.true) in
    let inside : 2 * at + 1 < length winners = omega (arith, kept.inner, kept.size, c.loop-at-test.true) in
    record {
      size = same ∙ kept.size;
      inner = omega (arith, kept.inner);
      within = within_still (length leaves) at first winners c.winner.ensures.within kept.within;
      own = λ p under. get_or-set_other winners at (length leaves + p) first 0 (λ e. absurd (omega (arith, e, kept.inner, c.loop-at-test.true))) ∙ kept.own p under;
      won = λ j from positive inner.
          ⊎_elim
          (λ (here : j ≡ at). won_here leaves winners at j first some inside here c.winner.ensures.first)
          (λ (apart : j ≢ at). won_still leaves winners at j first apart (omega (arith, from, apart)) some (kept.won j (omega (arith, from, apart)) positive (omega (arith, inner, same))))
          (cases_eq j at);
    }
