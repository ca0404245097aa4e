-- Twice three digits.
use Rattle.trace_text.proofs.Written.{both_written}
use Rattle.trace_text.proofs.digits.write_two_groups.Goals as goal

pub returns-clause-written : goal.returns-clause-written
returns-clause-written c =
    rw (← c.split-thousands.ensures.thousands, ← c.split-thousands.ensures.ones)
    (both_written _ _ _ _ _ c.write_group-at.ensures.written c.write_group.ensures.written)
