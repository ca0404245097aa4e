use Rattle.std.proofs.Common.{◌+◌, ◌∙◌, List, [], ℕ, map, take, sym, subst, arith}
use Rattle.std.proofs.lemmas.List.{get_or-map, length-map, take_all}
use Rattle.sessions.specs.Groups.{Names}
use Rattle.sessions.proofs.GroupTexts.{names_more, no_names}
use Rattle.sessions.proofs.groups.groups_named.Goals as goal

pub returns-in-None-clause-only : goal.returns-in-None-clause-only
returns-in-None-clause-only c =
    λ entries names.
    let i = c.loop-word.word-index in
    let word = c.as_bytes.ensures.value ∙ sym (get_or-map (λ w. w.now) c.args.words.now i _ [] c.loop-word-test.true) in
    absurd (no_names (map (λ w. w.now) c.args.words.now) entries i c.as_bytes.result.now names (omega (arith, c.loop-word-test.true, length-map c.args.words.now (λ w. w.now))) word c.in-None.ensures.value)

pub loop-word-preserved : goal.loop-word-preserved
loop-word-preserved c =
    let i = c.loop-word.word-index in
    let word = c.as_bytes.ensures.value ∙ sym (get_or-map (λ w. w.now) c.args.words.now i _ [] c.loop-word-test.true) in
    let more = names_more (map (λ w. w.now) c.args.words.now) c.loop-word.groups.items i c.in-Some.group c.as_bytes.result.now c.loop-word.invariant (omega (arith, c.loop-word-test.true, length-map c.args.words.now (λ w. w.now))) word c.in-Some.ensures.value in
    subst (λ (items : List ℕ). Names (take (i + 1) (map (λ w. w.now) c.args.words.now)) items) (sym c.in_ok-push-in-Some.ensures.items) more

pub returns-clause-named : goal.returns-clause-named
returns-clause-named c =
    let words = map (λ w. w.now) c.args.words.now in
    subst (λ (ws : List (List ℕ)). Names ws c.loop-word.groups.items) (take_all c.loop-word.word-index words (omega (arith, c.loop-word-test.false, length-map c.args.words.now (λ w. w.now)))) c.loop-word.invariant
