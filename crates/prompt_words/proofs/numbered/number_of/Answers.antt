use Rattle.std.proofs.Common.{arith, ◌+◌, refl}
use Rattle.prompt_words.proofs.Listed.{is_number, nowhere}
use Rattle.prompt_words.proofs.numbered.number_of.Goals as goal

pub returns-then-is_among : goal.returns-then-is_among
returns-then-is_among c = is_number c.args.breaks.now c.args.b c.loop-index.index (c.loop-index.index + 1) c.loop-index-test.true c.loop-index.invariant c.if-is_among.ensures refl

pub returns : goal.returns
returns c = nowhere c.args.breaks.now c.args.b c.loop-index.index (omega (arith, c.loop-index-test.false)) c.loop-index.invariant
