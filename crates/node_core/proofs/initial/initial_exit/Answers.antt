use Rattle.std.proofs.Common.{◌≡◌, ◌==◌, ℕ, sym, ap, ◌∙◌, rules, tests}
use Rattle.std.specs.List.{position}
use Rattle.std.specs.Option.{option_and_then}
use Rattle.std.proofs.lemmas.Iterator.{YieldsList-from_slice}
use Rattle.std.proofs.lemmas.Iterator.Search.{position_from_yields_List}
use Rattle.node_core.proofs.initial.initial_exit.Goals as goal

pub returns-in_err-index : goal.returns-in_err-index
returns-in_err-index c =
    let leaving = c.args.leaving.now in
    let is = λ (n : ℕ). n == c.in_ok-number.number in
    let at : c.position.result ≡ position is leaving = position_from_yields_List is _ _ c.position.result c.position.ensures.ran (YieldsList-from_slice leaving cc) (λ x b q k. search (rules, tests)) in
    c.from_residual-in_err-index.ensures ∙ sym (c.in_err-index.was) ∙ at ∙ ap (option_and_then (λ number. position (λ n. n == number) leaving)) (sym (c.in_ok-number.was) ∙ c.route_link.ensures)

pub returns : goal.returns
returns c =
    let leaving = c.args.leaving.now in
    let is = λ (n : ℕ). n == c.in_ok-number.number in
    let at : c.position.result ≡ position is leaving = position_from_yields_List is _ _ c.position.result c.position.ensures.ran (YieldsList-from_slice leaving cc) (λ x b q k. search (rules, tests)) in
    sym (c.in_ok-index.was) ∙ at ∙ ap (option_and_then (λ number. position (λ n. n == number) leaving)) (sym (c.in_ok-number.was) ∙ c.route_link.ensures)
