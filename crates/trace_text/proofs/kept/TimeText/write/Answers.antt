-- The digits that are kept, and the last six.
use Rattle.std.proofs.Common.{◌≡◌, ◌+◌, ◌-◌, ◌/◌, ◌%◌, ◌^◌, ◌++◌, take, arith, ap, ◌∙◌}
use Rattle.trace_text.specs.Digits.{three_digits}
use Rattle.trace_text.proofs.ByThousands.{decimal_nearer, near}
use Rattle.trace_text.proofs.Written.{both_written}
use Rattle.trace_text.proofs.kept.TimeText.write.Goals as goal

pub returns-then-low-lt-MILLION-clause-written : goal.returns-then-low-lt-MILLION-clause-written
returns-then-low-lt-MILLION-clause-written c =
    let s = c.args.self.now in
    let n = c.args.n in
    let low = (n + (2 ^ 64 - s.least)) % 2 ^ 64 in
    let before = take c.args.at c.args.bytes.now in
    let is : n ≡ s.least + low = near n s.least 1000000 (omega (arith, c.ranges.n.fits)) s.short (omega arith) c.if-low-lt-MILLION.true in
    both_written before _ _ _ (three_digits (low / 1000) ++ three_digits (low % 1000)) (c.write_kept-at.ensures.written ∙ ap (λ l. before ++ l) s.are) c.write_two_groups.ensures.written
    ∙ ap (λ l. before ++ l) (decimal_nearer n s.least low (omega (arith, c.ranges.n.fits)) s.whole s.long is c.if-low-lt-MILLION.true)
