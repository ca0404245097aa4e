use Rattle.std.proofs.Common.{◌∙◌, map, ap, sym}
use Rattle.std.specs.Option.{is_some}
use Rattle.sessions.specs.Groups.{Names}
use Rattle.sessions.proofs.GroupTexts.{given, found_means, found_only, found_none}
use Rattle.sessions.proofs.groups.listed.Goals as goal

pub returns-in-Some-clause-means : goal.returns-in-Some-clause-means
returns-in-Some-clause-means c =
    let names = given (λ v. Names (map (λ w. w.now) c.deref.result.now) v.items) c.in_ok-groups.field-0 c.in-Some.groups c.in-Some.is c.in_ok-groups.ensures.named in
    found_means c.args.text.now c.args.nodes (map (λ w. w.now) c.deref.result.now) c.in-Some.groups.items c.of_nodes.result (ap (map (λ w. w.now)) c.deref.ensures.value ∙ c.in_ok-words.ensures) names c.of_nodes.ensures

pub returns-in-Some-clause-only : goal.returns-in-Some-clause-only
returns-in-Some-clause-only c =
    λ entries lists.
    let names = given (λ v. Names (map (λ w. w.now) c.deref.result.now) v.items) c.in_ok-groups.field-0 c.in-Some.groups c.in-Some.is c.in_ok-groups.ensures.named in
    found_only c.args.text.now c.args.nodes (map (λ w. w.now) c.deref.result.now) c.in-Some.groups.items entries c.of_nodes.result (ap (map (λ w. w.now)) c.deref.ensures.value ∙ c.in_ok-words.ensures) names c.of_nodes.ensures lists

pub returns-clause-only : goal.returns-clause-only
returns-clause-only c =
    λ entries lists.
    absurd (found_none c.args.text.now c.args.nodes (map (λ w. w.now) c.deref.result.now) entries (ap (map (λ w. w.now)) c.deref.ensures.value ∙ c.in_ok-words.ensures)
    (λ names. sym (ap is_some c.in-None.is) ∙ c.in_ok-groups.ensures.only entries names) lists)
