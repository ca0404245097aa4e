use Rattle.std.proofs.Common.{take, drop}
use Rattle.std.proofs.lemmas.List.{take-append-drop}
use Rattle.sessions.proofs.output.put_all.Goals as goal

pub returns-in-Err-clause-err : goal.returns-in-Err-clause-err
returns-in-Err-clause-err g c =
    let written = c.in-Err.field-0 in
    let bytes = c.args.bytes.now in
    (take written bytes, c.in-Err.ensures.err.1, (drop written bytes, take-append-drop written bytes))
