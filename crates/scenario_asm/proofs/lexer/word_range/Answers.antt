use Rattle.std.proofs.Common.{rules, ◌≡◌, ◌==◌, true, false, length, arith, ap, refl}
use Rattle.scenario_asm.proofs.Ranges.{piece_within, word_here, no_word, passed_word, passed_blank}
use Rattle.scenario_asm.proofs.lexer.word_range.Goals as goal
use Rattle.scenario_asm.proofs.lexer.word_range.Goals.{then-not-is_empty+else-before-number, else-not-is_empty}

pub overflow_add-end : goal.overflow_add-end
overflow_add-end c = omega (arith, piece_within _ _ _ _ _ _ _ c.loop-bytes.invariant c.in-Some.ensures.steps (omega arith))

pub returns-then-before-number : goal.returns-then-before-number
returns-then-before-number c =
    let some : (length c.in-Some.bytes.now == 0) ≡ false = search rules in
    word_here _ _ _ _ _ _ _ _ c.loop-bytes.invariant c.in-Some.ensures.steps (omega arith) some c.if-before-number.true refl

pub loop-bytes-preserved : goal.loop-bytes-preserved
loop-bytes-preserved c =
    elim c.if-not-is_empty.branch [
      | then-not-is_empty+else-before-number w ↦
          let some : (length c.in-Some.bytes.now == 0) ≡ false = search rules in
          passed_word _ _ _ _ _ _ _ _ _ c.loop-bytes.invariant c.in-Some.ensures.steps (omega arith) c.saturating_add-start.ensures some w.if-before-number.false w.before-is
      | else-not-is_empty w ↦
          let none : (length c.in-Some.bytes.now == 0) ≡ true = search rules in
          passed_blank _ _ _ _ _ _ _ _ _ c.loop-bytes.invariant c.in-Some.ensures.steps (omega arith) c.saturating_add-start.ensures none w.before-is
    ]

pub returns : goal.returns
returns c = no_word _ _ _ _ _ _ c.loop-bytes.invariant c.in-None.ensures.steps.0 (ap length c.cut.ensures.before)
