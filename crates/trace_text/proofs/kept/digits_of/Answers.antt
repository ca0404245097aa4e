-- The digits end where the call says, within the first 16 bytes.
use Rattle.std.proofs.Common.{◌≡◌, length, take, decimal, arith, ap, ◌∙◌, sym}
use Rattle.std.proofs.lemmas.Fmt.{length-decimal-le}
use Rattle.std.proofs.lemmas.List.{length-take-le, take-take}
use Rattle.trace_text.proofs.kept.digits_of.Goals as goal

pub returns-clause-within : goal.returns-clause-within
returns-clause-within c =
    let w = c.write_number-digits in
    let long : w.result ≡ length (decimal c.args.n) = sym (length-take-le w.result w.new.bytes (omega (arith, w.ensures.short, w.auto.bytes))) ∙ ap length w.ensures.written in
    let few = length-decimal-le 16 c.args.n (omega arith) c.requires (omega (arith, c.requires)) in
    omega (arith, long, few)

pub returns-clause-digits : goal.returns-clause-digits
returns-clause-digits c =
    let w = c.write_number-digits in
    ap (take w.result) c.copy_from_slice.ensures.after ∙ take-take w.result 16 w.new.bytes (returns-clause-within c) ∙ w.ensures.written
