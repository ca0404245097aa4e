use Rattle.std.proofs.Common.{◌≡◌, ◌+◌, length, sym, ap, subst, arith}
use Rattle.std.specs.Prelude.{slice_index}
use Rattle.std.proofs.lemmas.List.{length_push}
use Rattle.tournament.specs.Words.{no_time, word_of}
use Rattle.tournament.proofs.Behind.{behind_more}
use Rattle.tournament.proofs.words.unchosen.Goals as goal

pub loop-place-preserved : goal.loop-place-preserved
loop-place-preserved c =
    let kept = c.loop-place.invariant in
    let before = c.loop-place.tree.items in
    let place = c.loop-place.place in
    let places = c.args.places in
    let is = c.in_ok-push.ensures.items in
    record {
      size = omega (arith, ap length is, length_push before c.word_of.result, kept.size);
      words = λ p under. subst (λ xs. slice_index xs (places + p) ≡ word_of no_time p) (sym is) (behind_more before places place c.word_of.result (word_of no_time) kept.size c.word_of.ensures kept.words p under);
    }
