-- The digits that are kept, and the last three.
use Rattle.std.proofs.Common.{◌≡◌, ◌+◌, ◌-◌, ◌%◌, ◌^◌, ◌++◌, take, arith, ap, ◌∙◌}
use Rattle.trace_text.specs.Digits.{three_digits}
use Rattle.trace_text.proofs.ByThousands.{decimal_near, near}
use Rattle.trace_text.proofs.Written.{both_written}
use Rattle.trace_text.proofs.kept.CountText.write.Goals as goal

pub returns-then-low-lt-THOUSAND-clause-written : goal.returns-then-low-lt-THOUSAND-clause-written
returns-then-low-lt-THOUSAND-clause-written c =
    let s = c.args.self.now in
    let n = c.args.n in
    let low = (n + (2 ^ 64 - s.least)) % 2 ^ 64 in
    let before = take c.args.at c.args.bytes.now in
    let is : n ≡ s.least + low = near n s.least 1000 (omega (arith, c.ranges.n.fits)) s.short (omega arith) c.if-low-lt-THOUSAND.true in
    both_written before _ _ _ (three_digits low) (c.write_kept-at.ensures.written ∙ ap (λ l. before ++ l) s.are) c.write_group.ensures.written
    ∙ ap (λ l. before ++ l) (decimal_near n s.least low (omega (arith, c.ranges.n.fits)) s.whole s.long is c.if-low-lt-THOUSAND.true)
