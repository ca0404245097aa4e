-- Before the place all stays, and there the text stands.
use Rattle.std.proofs.Common.{◌≡◌, ◌+◌, ◌++◌, length, take, arith, ap, ◌∙◌}
use Rattle.std.proofs.lemmas.Slice.{take-put_mid}
use Rattle.trace_text.proofs.forward.write_text.Goals as goal

pub returns-clause-written : goal.returns-clause-written
returns-clause-written g c =
    let long : length c.copy_array.new.place ≡ g.row.N = omega (arith, c.copy_array.auto.place) in
    take-put_mid c.args.at _ c.args.bytes.now c.copy_array.new.place (c.args.at + g.row.N) (omega (arith, long)) (omega (arith, c.requires.room))
    ∙ ap (λ l. take c.args.at c.args.bytes.now ++ l) c.copy_array.ensures
