-- The name, and the number behind it.
use Rattle.trace_text.proofs.Written.{both_written}
use Rattle.trace_text.proofs.forward.write_field.Goals as goal

pub returns-clause-written : goal.returns-clause-written
returns-clause-written g c = both_written _ _ _ _ _ c.write_text-at.ensures.written c.write_number.ensures.written
