use Rattle.std.proofs.Common.{◌≡◌, ◌∙◌, true, Err, ap, rules}
use Rattle.scenario_asm.specs.Refusals.{as_fault}
use Rattle.scenario_asm.specs.Statements.{has_flow_length}
use Rattle.scenario_asm.specs.Table.{known_in}
use Rattle.scenario_asm.proofs.Flows.{ends_refused, numbers_refused, variant_refused, all_right, flow_full, flow_without_word, flow_ok}
use Rattle.scenario_asm.proofs.statement.flow.read.Goals as goal

pub returns-in_err-name-clause-said : goal.returns-in_err-name-clause-said
returns-in_err-name-clause-said c =
    let counted : has_flow_length c.args.words.now ≡ true = search rules in
    let is : c.from_residual.result ≡ Err c.in_err-name.field-0.0 = search rules in
    ap as_fault is ∙ (ends_refused (known_in c.args.table.now) c.args.words.now c.in_err-name.field-0.0 counted c.in_err-name.ensures).0

pub returns-in_err-name-clause-word : goal.returns-in_err-name-clause-word
returns-in_err-name-clause-word c =
    let counted : has_flow_length c.args.words.now ≡ true = search rules in
    let is : c.from_residual.result ≡ Err c.in_err-name.field-0.0 = search rules in
    rw is (ends_refused (known_in c.args.table.now) c.args.words.now c.in_err-name.field-0.0 counted c.in_err-name.ensures).1

pub returns-in_err-numbers-clause-said : goal.returns-in_err-numbers-clause-said
returns-in_err-numbers-clause-said c =
    let counted : has_flow_length c.args.words.now ≡ true = search rules in
    let is : c.from_residual-in_err-numbers.result ≡ Err c.in_err-numbers.field-0.0 = search rules in
    ap as_fault is ∙ (numbers_refused (known_in c.args.table.now) c.args.words.now c.in_err-numbers.field-0.0 counted c.in_ok-name.ensures.0 c.in_err-numbers.ensures).0

pub returns-in_err-numbers-clause-word : goal.returns-in_err-numbers-clause-word
returns-in_err-numbers-clause-word c =
    let counted : has_flow_length c.args.words.now ≡ true = search rules in
    let is : c.from_residual-in_err-numbers.result ≡ Err c.in_err-numbers.field-0.0 = search rules in
    rw is (numbers_refused (known_in c.args.table.now) c.args.words.now c.in_err-numbers.field-0.0 counted c.in_ok-name.ensures.0 c.in_err-numbers.ensures).1

pub returns-in_err-variant-clause-said : goal.returns-in_err-variant-clause-said
returns-in_err-variant-clause-said c =
    let counted : has_flow_length c.args.words.now ≡ true = search rules in
    let is : c.from_residual-in_err-variant.result ≡ Err c.in_err-variant.field-0.0 = search rules in
    ap as_fault is ∙ (variant_refused (known_in c.args.table.now) c.args.words.now c.in_err-variant.field-0.0 counted c.in_ok-name.ensures.0 c.in_ok-numbers.ensures.0 c.in_err-variant.ensures).0

pub returns-in_err-variant-clause-word : goal.returns-in_err-variant-clause-word
returns-in_err-variant-clause-word c =
    let counted : has_flow_length c.args.words.now ≡ true = search rules in
    let is : c.from_residual-in_err-variant.result ≡ Err c.in_err-variant.field-0.0 = search rules in
    rw is (variant_refused (known_in c.args.table.now) c.args.words.now c.in_err-variant.field-0.0 counted c.in_ok-name.ensures.0 c.in_ok-numbers.ensures.0 c.in_err-variant.ensures).1

pub returns-then-len-ge-MOST_FLOWS-clause-said : goal.returns-then-len-ge-MOST_FLOWS-clause-said
returns-then-len-ge-MOST_FLOWS-clause-said c =
    let counted : has_flow_length c.args.words.now ≡ true = search rules in
    let right = all_right (known_in c.args.table.now) c.args.words.now c.in_ok-name.ensures.0 c.in_ok-numbers.ensures.0 c.in_ok-variant.ensures.0 in
    flow_full (known_in c.args.table.now) c.args.words.now counted right (search rules)

pub returns-then-len-ge-MOST_FLOWS-clause-word : goal.returns-then-len-ge-MOST_FLOWS-clause-word
returns-then-len-ge-MOST_FLOWS-clause-word c =
    let counted : has_flow_length c.args.words.now ≡ true = search rules in
    let right = all_right (known_in c.args.table.now) c.args.words.now c.in_ok-name.ensures.0 c.in_ok-numbers.ensures.0 c.in_ok-variant.ensures.0 in
    flow_without_word (known_in c.args.table.now) c.args.words.now counted right

pub returns-clause-said : goal.returns-clause-said
returns-clause-said c =
    let counted : has_flow_length c.args.words.now ≡ true = search rules in
    let right = all_right (known_in c.args.table.now) c.args.words.now c.in_ok-name.ensures.0 c.in_ok-numbers.ensures.0 c.in_ok-variant.ensures.0 in
    flow_ok (known_in c.args.table.now) c.args.words.now c.in_ok-name.name c.in_ok-name.sender c.in_ok-name.receiver c.in_ok-numbers.numbers c.in_ok-variant.variant counted right (search rules) c.in_ok-name.ensures c.in_ok-numbers.ensures c.in_ok-variant.ensures
