use Rattle.std.proofs.Common.{◌≡◌, ◌≤◌, ◌∙◌, length, None, sym, subst, arith}
use Rattle.std.proofs.lemmas.List.{at_drop_all}
use Rattle.sessions.proofs.BestNames.{IsBest, is_nearest, nearest_of}
use Rattle.sessions.proofs.nearest.nearest.Goals as goal

pub returns : goal.returns
returns c =
    let word = c.args.word.now in
    let names = c.args.names.now in
    let ended : length names ≤ c.loop-name.name-index = omega (arith, c.loop-name-test.false) in
    let same : c.loop-name.best ≡ nearest_of word None names = sym (at_drop_all (nearest_of word c.loop-name.best) names c.loop-name.name-index ended) ∙ c.loop-name.invariant in
    subst (IsBest word names) (sym same) (is_nearest word names)
