use Rattle.std.proofs.Common.{◌≡◌, ◌-◌, ◌∙◌, suc, Ok, Err, ap, sym, subst, arith, rules}
use Rattle.breakpoints.specs.Breaks.{asks_nothing}
use Rattle.prompt_words.specs.Conditions.{one_more, conditions}
use Rattle.prompt_words.specs.Parts.{ReadsAs}
use Rattle.prompt_words.proofs.Gathering.{none_more, one_refused, last_read, next_read}
use Rattle.prompt_words.proofs.conditions.conditions.Goals as goal

pub returns-in_err-b : goal.returns-in_err-b
returns-in_err-b c =
    let l = c.loop-left in
    let whole = conditions 21 c.args.naming.now asks_nothing c.args.first.now c.args.parts.now in
    let counts : l.left ≡ suc (l.left - 1) = omega (arith, c.loop-left-test.true) in
    let why = c.in_err-b.field-0.0 in
    let refused : one_more c.args.naming.now l.b l.word.now l.parts ≡ Err why.code = search rules in
    let same : c.from_residual.result ≡ Err why = search rules in
    subst (λ r. ReadsAs whole r c.one_more.new.parts) (sym same) (one_refused c.args.naming.now (l.left - 1) l.left l.b l.word.now l.parts whole l.invariant counts why.code refused)

pub returns-in-None : goal.returns-in-None
returns-in-None c =
    let l = c.loop-left in
    let whole = conditions 21 c.args.naming.now asks_nothing c.args.first.now c.args.parts.now in
    let counts : l.left ≡ suc (l.left - 1) = omega (arith, c.loop-left-test.true) in
    last_read c.args.naming.now (l.left - 1) l.left l.b l.word.now l.parts whole l.invariant counts c.in_ok-b.b c.one_more.new.parts c.in_ok-b.ensures c.in-None.ensures.first
    ∙ ap (λ rest. Ok (c.in_ok-b.b, rest)) (sym c.in-None.ensures.rest)

pub loop-left-preserved : goal.loop-left-preserved
loop-left-preserved c =
    let l = c.loop-left in
    let whole = conditions 21 c.args.naming.now asks_nothing c.args.first.now c.args.parts.now in
    let counts : l.left ≡ suc (l.left - 1) = omega (arith, c.loop-left-test.true) in
    next_read c.args.naming.now (l.left - 1) l.left l.b l.word.now l.parts whole l.invariant counts c.in_ok-b.b c.one_more.new.parts c.next.new.self c.in-Some.next.now c.in_ok-b.ensures c.in-Some.ensures.first c.in-Some.ensures.rest

pub returns : goal.returns
returns c =
    let l = c.loop-left in
    let none : l.left ≡ 0 = omega (arith, c.loop-left-test.false) in
    sym l.invariant ∙ ap (λ n. conditions n c.args.naming.now l.b l.word.now l.parts) none ∙ none_more c.args.naming.now l.b l.word.now l.parts ∙ ap Err (sym c.refuse.ensures)
