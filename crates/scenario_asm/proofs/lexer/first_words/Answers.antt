use Rattle.std.proofs.Common.{◌≡◌, length, arith}
use Rattle.scenario_asm.proofs.Words.{front_is}
use Rattle.scenario_asm.proofs.lexer.first_words.Goals as goal

pub returns-then-len-eq-MOST_WORDS : goal.returns-then-len-eq-MOST_WORDS
returns-then-len-eq-MOST_WORDS c =
    let many : length c.loop-bytes.words.items ≡ 12 = omega arith in
    front_is _ _ _ 12 c.loop-bytes.invariant.0 many
