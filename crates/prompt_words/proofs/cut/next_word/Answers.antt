use Rattle.std.proofs.Common.{◌≡◌, ◌==◌, ◌<◌, ◌∙◌, length, false, sym, arith}
use Rattle.std.proofs.lemmas.Bool.Decides.{nat_tests}
use Rattle.prompt_words.proofs.Words.{first_word}
use Rattle.prompt_words.proofs.cut.next_word.Goals as goal

pub returns-then-not-is_empty-clause-first : goal.returns-then-not-is_empty-clause-first
returns-then-not-is_empty-clause-first c =
    let rest = c.loop-rest.rest.now in
    let some : 0 < length rest = grind (arith, nat_tests) in
    let full : (length c.cut.result.0.now == 0) ≡ false = grind (arith, nat_tests) in
    sym c.loop-rest.invariant ∙ first_word rest c.cut.result.0.now c.cut.result.1.now some c.cut.ensures.before c.cut.ensures.after full
