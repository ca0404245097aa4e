use Rattle.std.proofs.Common.{◌≡◌, ◌∙◌, true, Err, ap, sym, rules}
use Rattle.scenario_asm.specs.Refusals.{as_fault}
use Rattle.scenario_asm.specs.Statements.{has_link_length}
use Rattle.scenario_asm.specs.Table.{known_in}
use Rattle.scenario_asm.proofs.Links.{ends_refused, numbers_refused, queue_refused, all_right, link_full, link_without_word, link_ok}
use Rattle.scenario_asm.proofs.statement.link.read.Goals as goal

pub returns-in_err-name-clause-said : goal.returns-in_err-name-clause-said
returns-in_err-name-clause-said c =
    let counted : has_link_length c.args.words.now ≡ true = search rules in
    let is : c.from_residual.result ≡ Err c.in_err-name.field-0.0 = search rules in
    ap as_fault is ∙ (ends_refused (known_in c.args.table.now) c.args.words.now c.in_err-name.field-0.0 counted c.in_err-name.ensures).0

pub returns-in_err-name-clause-word : goal.returns-in_err-name-clause-word
returns-in_err-name-clause-word c =
    let counted : has_link_length c.args.words.now ≡ true = search rules in
    let is : c.from_residual.result ≡ Err c.in_err-name.field-0.0 = search rules in
    rw is (ends_refused (known_in c.args.table.now) c.args.words.now c.in_err-name.field-0.0 counted c.in_err-name.ensures).1

pub returns-in_err-rate-clause-said : goal.returns-in_err-rate-clause-said
returns-in_err-rate-clause-said c =
    let counted : has_link_length c.args.words.now ≡ true = search rules in
    let is : c.from_residual-in_err-rate.result ≡ Err c.in_err-rate.field-0.0 = search rules in
    ap as_fault is ∙ (numbers_refused (known_in c.args.table.now) c.args.words.now c.in_err-rate.field-0.0 counted c.in_ok-name.ensures.0 c.in_err-rate.ensures).0

pub returns-in_err-rate-clause-word : goal.returns-in_err-rate-clause-word
returns-in_err-rate-clause-word c =
    let counted : has_link_length c.args.words.now ≡ true = search rules in
    let is : c.from_residual-in_err-rate.result ≡ Err c.in_err-rate.field-0.0 = search rules in
    rw is (numbers_refused (known_in c.args.table.now) c.args.words.now c.in_err-rate.field-0.0 counted c.in_ok-name.ensures.0 c.in_err-rate.ensures).1

pub returns-in_err-queue-clause-said : goal.returns-in_err-queue-clause-said
returns-in_err-queue-clause-said c =
    let counted : has_link_length c.args.words.now ≡ true = search rules in
    let is : c.from_residual-in_err-queue.result ≡ Err c.in_err-queue.field-0.0 = search rules in
    ap as_fault is ∙ (queue_refused (known_in c.args.table.now) c.args.words.now c.in_err-queue.field-0.0 counted c.in_ok-name.ensures.0 c.in_ok-rate.ensures.0 c.in_err-queue.ensures).0

pub returns-in_err-queue-clause-word : goal.returns-in_err-queue-clause-word
returns-in_err-queue-clause-word c =
    let counted : has_link_length c.args.words.now ≡ true = search rules in
    let is : c.from_residual-in_err-queue.result ≡ Err c.in_err-queue.field-0.0 = search rules in
    rw is (queue_refused (known_in c.args.table.now) c.args.words.now c.in_err-queue.field-0.0 counted c.in_ok-name.ensures.0 c.in_ok-rate.ensures.0 c.in_err-queue.ensures).1

pub returns-then-is_full-clause-said : goal.returns-then-is_full-clause-said
returns-then-is_full-clause-said c =
    let counted : has_link_length c.args.words.now ≡ true = search rules in
    let right = all_right (known_in c.args.table.now) c.args.words.now c.in_ok-name.ensures.0 c.in_ok-rate.ensures.0 c.in_ok-queue.ensures.0 in
    link_full (known_in c.args.table.now) c.args.words.now c.in_ok-name.name c.in_ok-name.from c.in_ok-name.to counted right c.in_ok-name.ensures (sym c.is_full.ensures ∙ c.if-is_full.true)

pub returns-then-is_full-clause-word : goal.returns-then-is_full-clause-word
returns-then-is_full-clause-word c =
    let counted : has_link_length c.args.words.now ≡ true = search rules in
    let right = all_right (known_in c.args.table.now) c.args.words.now c.in_ok-name.ensures.0 c.in_ok-rate.ensures.0 c.in_ok-queue.ensures.0 in
    link_without_word (known_in c.args.table.now) c.args.words.now counted right

pub returns-clause-said : goal.returns-clause-said
returns-clause-said c =
    let counted : has_link_length c.args.words.now ≡ true = search rules in
    let right = all_right (known_in c.args.table.now) c.args.words.now c.in_ok-name.ensures.0 c.in_ok-rate.ensures.0 c.in_ok-queue.ensures.0 in
    link_ok (known_in c.args.table.now) c.args.words.now c.in_ok-name.name c.in_ok-name.from c.in_ok-name.to c.in_ok-rate.rate c.in_ok-rate.delay c.in_ok-rate.capacity c.in_ok-queue.queue counted right (sym c.is_full.ensures ∙ c.if-is_full.false) c.in_ok-name.ensures c.in_ok-rate.ensures c.in_ok-queue.ensures
