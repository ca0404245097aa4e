use Rattle.std.proofs.Common.{rules}
use Rattle.sessions.proofs.Prompting.{file_hindered}
use Rattle.sessions.proofs.Reading.{text_of}
use Rattle.sessions.proofs.input.read_file.Goals as goal

pub returns-in_err-name-clause-faults : goal.returns-in_err-name-clause-faults
returns-in_err-name-clause-faults g c = file_hindered c.from_residual.result (g.R.Source.bytes_of c.args.reader.now c.args.file.now) c.args.file.now (search rules)

pub returns-then-is_err-clause-faults : goal.returns-then-is_err-clause-faults
returns-then-is_err-clause-faults g c = let text = text_of (g.R.Source.bytes_of c.args.reader.now c.args.file.now) in (text.0, text.1, c.in_ok-name.ensures)
