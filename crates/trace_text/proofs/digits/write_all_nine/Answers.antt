-- Three times three digits.
use Rattle.std.proofs.Common.{◌≡◌, ◌++◌, take}
use Rattle.trace_text.specs.Digits.{three_digits}
use Rattle.trace_text.proofs.Written.{both_written}
use Rattle.trace_text.proofs.digits.write_all_nine.Goals as goal

pub returns-clause-written : goal.returns-clause-written
returns-clause-written c =
    let low_six = three_digits c.split-millions.result.1 ++ three_digits c.split-thousands.result.1 in
    let low : take c.write_group.result c.write_group.new.bytes ≡ take c.write_group-at.result c.write_group-at.new.bytes ++ low_six = both_written _ _ _ (three_digits c.split-millions.result.1) (three_digits c.split-thousands.result.1) c.write_group-at-2.ensures.written c.write_group.ensures.written in
    rw (← c.split-thousands.ensures.thousands, ← c.split-thousands.ensures.ones, ← c.split-millions.ensures.thousands, ← c.split-millions.ensures.ones)
    (both_written _ _ _ (three_digits c.split-millions.result.0) low_six c.write_group-at.ensures.written low)
