use Rattle.std.proofs.Common.{◌≡◌, ◌+◌, length, refl, sym, ap, subst, arith}
use Rattle.std.specs.Prelude.{slice_index}
use Rattle.std.proofs.lemmas.List.{length_push}
use Rattle.tournament.specs.Tournament.{AreWithin}
use Rattle.tournament.proofs.Behind.{behind_more, within_more}
use Rattle.tournament.proofs.matches.unplayed.Goals as goal

pub loop-place-preserved : goal.loop-place-preserved
loop-place-preserved c =
    let kept = c.loop-place.invariant in
    let before = c.loop-place.winners.items in
    let place = c.loop-place.place in
    let places = c.args.places in
    let is = c.in_ok-push.ensures.items in
    record {
      size = omega (arith, ap length is, length_push before place, kept.size);
      within = subst (AreWithin places) (sym is) (within_more places before place c.loop-place-test.true kept.within);
      own = λ p under. subst (λ xs. slice_index xs (places + p) ≡ p) (sym is) (behind_more before places place place (λ q. q) kept.size refl kept.own p under);
    }
