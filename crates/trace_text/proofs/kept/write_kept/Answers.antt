-- The first bytes of the text.
use Rattle.std.proofs.Common.{take, arith, ap, ◌∙◌, sym}
use Rattle.trace_text.proofs.Written.{first_written}
use Rattle.trace_text.proofs.kept.write_kept.Goals as goal

pub returns-clause-written : goal.returns-clause-written
returns-clause-written c =
    first_written c.args.bytes.now c.write_text.new.bytes c.args.text.now c.args.at 16 c.args.digits (omega (arith, c.requires.room)) c.requires.within
    (ap (λ k. take k c.write_text.new.bytes) (sym c.write_text.ensures.end) ∙ c.write_text.ensures.written)
