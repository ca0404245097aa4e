-- The number's row of the table, without its last byte.
use Rattle.std.proofs.Common.{◌≡◌, ◌+◌, ◌-◌, ◌++◌, take, get_or, [], arith, ap, ◌∙◌, sym}
use Rattle.trace_text.specs.declared.groups.TheConstants.{GROUPS}
use Rattle.trace_text.proofs.ByThousands.{GROUPS_at}
use Rattle.trace_text.proofs.Written.{first_written}
use Rattle.trace_text.proofs.digits.write_group.Goals as goal

pub returns-clause-written : goal.returns-clause-written
returns-clause-written c =
    let n = c.args.n in
    let at = c.args.at in
    let end : c.write_text.result - 1 ≡ at + 3 = omega (arith, c.write_text.ensures.end) in
    ap (λ k. take k c.write_text.new.bytes) end
    ∙ first_written c.args.bytes.now c.write_text.new.bytes (get_or GROUPS n []) at 4 3 (omega (arith, c.requires.room)) (omega arith)
    (ap (λ k. take k c.write_text.new.bytes) (sym c.write_text.ensures.end) ∙ c.write_text.ensures.written)
    ∙ ap (λ row. take at c.args.bytes.now ++ take 3 row) (GROUPS_at n c.requires.number)
