use Rattle.std.proofs.Common.{◌<◌, length, arith, rules}
use Rattle.std.proofs.lemmas.Grind.{common_steps}
use Rattle.sessions.specs.declared.fault.SessionFault.TheVariants.{NoMemory}
use Rattle.sessions.proofs.Reading.{hindered_error, long_text}
use Rattle.sessions.proofs.input.read_input.Goals as goal

pub returns-in_err-room-clause-faults : goal.returns-in_err-room-clause-faults
returns-in_err-room-clause-faults g c =
    hindered_error c.from_residual.result NoMemory (g.R.Source.remaining c.args.reader.now) (search rules) (λ text. tt)

pub returns-in_err-read_piece-clause-faults : goal.returns-in_err-read_piece-clause-faults
returns-in_err-read_piece-clause-faults g c =
    hindered_error c.from_residual-in_err-read_piece.result c.in_err-read_piece.field-0.0 (g.R.Source.remaining c.args.reader.now) (search rules) c.in_err-read_piece.ensures.faults

pub returns-clause-faults : goal.returns-clause-faults
returns-clause-faults g c =
    let input = c.loop-reader.input.items in
    let long : 16777216 < length input = grind (arith, common_steps, c.len.ensures, c.loop-reader-test.false) in
    long_text (g.R.Source.remaining c.args.reader.now) (g.R.Source.remaining c.loop-reader.reader) input c.loop-reader.invariant.1 long
