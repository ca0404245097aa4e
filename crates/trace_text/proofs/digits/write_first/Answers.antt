-- The number's row of the table begins with its digits, and tells how many they are.
use Rattle.std.proofs.Common.{◌≡◌, ◌+◌, ◌-◌, ◌≤◌, ◌++◌, length, take, decimal, get_or, [], arith, ap, ◌∙◌, sym}
use Rattle.std.proofs.lemmas.Fmt.{length-decimal-le}
use Rattle.trace_text.specs.declared.groups.TheConstants.{FIRSTS}
use Rattle.trace_text.proofs.ByThousands.{FIRSTS_at}
use Rattle.trace_text.proofs.Written.{first_written}
use Rattle.trace_text.proofs.digits.write_first.Goals as goal

pub returns-clause-end : goal.returns-clause-end
returns-clause-end c =
    let count : c.from.result ≡ 48 + length (decimal c.args.n) = c.from.ensures ∙ (FIRSTS_at c.args.n c.requires.number).count in
    omega (arith, count)

pub returns-clause-written : goal.returns-clause-written
returns-clause-written c =
    let n = c.args.n in
    let row = get_or FIRSTS n [] in
    let is = FIRSTS_at n c.requires.number in
    let count : c.from.result ≡ 48 + length (decimal n) = c.from.ensures ∙ is.count in
    let end : c.args.at + c.from.result - 48 ≡ c.args.at + length (decimal n) = omega (arith, count) in
    let few : length (decimal n) ≤ 4 = length-decimal-le 4 n (omega arith) (omega (arith, c.requires.number)) (omega (arith, c.requires.number)) in
    ap (λ k. take k c.write_text.new.bytes) end
    ∙ first_written c.args.bytes.now c.write_text.new.bytes row c.args.at 4 (length (decimal n)) (omega (arith, c.requires.room)) few
    (ap (λ k. take k c.write_text.new.bytes) (sym c.write_text.ensures.end) ∙ c.write_text.ensures.written)
    ∙ ap (λ l. take c.args.at c.args.bytes.now ++ l) is.digits

pub overflow_sub-result : goal.overflow_sub-result
overflow_sub-result c =
    let count : c.from.result ≡ 48 + length (decimal c.args.n) = c.from.ensures ∙ (FIRSTS_at c.args.n c.requires.number).count in
    omega (arith, count)
