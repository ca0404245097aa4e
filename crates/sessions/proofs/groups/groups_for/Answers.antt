use mathlib.Core.Bool.{false≢true}
use Rattle.std.proofs.Common.{◌≡◌, ◌∙◌, inl, inr, ℕ, List, length, sym, ap, subst, arith}
use Rattle.std.proofs.lemmas.Slice.Eq.{bytes_eq-Decides}
use Rattle.scenario_image.specs.declared.parts.ScenarioParts.{ScenarioParts}
use Rattle.sessions.specs.Groups.{MeansGroups}
use Rattle.sessions.proofs.GroupTexts.{given}
use Rattle.command_line.proofs.Options.{some_none}
use Rattle.sessions.proofs.Shared.{one_group_each}
use Rattle.sessions.proofs.groups.groups_for.Goals as goal

pub partition_of-requires : goal.partition_of-requires
partition_of-requires c =
    let count : c.len-nodes.result ≡ length c.args.scenario.now.nodes = c.len-nodes.ensures ∙ ap (λ (p : ScenarioParts). length p.nodes) c.parts.ensures.value in
    let range = c.parts.ensures.scenario.in_limits.counts.node_count in
    let least = range.0 in
    let most = range.1 in
    (omega (arith, count, least), omega (arith, count, most))

pub returns-in-Some-clause-nodes : goal.returns-in-Some-clause-nodes
returns-in-Some-clause-nodes c =
    let count : c.len-nodes.result ≡ length c.args.scenario.now.nodes = c.len-nodes.ensures ∙ ap (λ (p : ScenarioParts). length p.nodes) c.parts.ensures.value in
    c.without_gaps.ensures.nodes ∙ one_group_each c.groups-text.result.now c.len-nodes.result c.in-Some.partition (given (MeansGroups c.groups-text.result.now c.len-nodes.result) c.in_ok-partition.field-0 c.in-Some.partition c.in-Some.is c.in_ok-partition.ensures.means) ∙ count

pub returns-then-eq-clause-named : goal.returns-then-eq-clause-named
returns-then-eq-clause-named c = inl (sym c.groups-text.ensures ∙ (bytes_eq-Decides _ _).0 (sym c.if-eq.ensures))

pub returns-in-Some-clause-named : goal.returns-in-Some-clause-named
returns-in-Some-clause-named c =
    let count : c.len-nodes.result ≡ length c.args.scenario.now.nodes = c.len-nodes.ensures ∙ ap (λ (p : ScenarioParts). length p.nodes) c.parts.ensures.value in
    let groups = c.in-Some.partition in
    let means = given (MeansGroups c.groups-text.result.now c.len-nodes.result) c.in_ok-partition.field-0 groups c.in-Some.is c.in_ok-partition.ensures.means in
    let of_count = subst (λ n. MeansGroups c.groups-text.result.now n groups) count means in
    inr (groups, subst (λ text. MeansGroups text (length c.args.scenario.now.nodes) groups) c.groups-text.ensures of_count)

pub returns-in-None-clause-faults : goal.returns-in-None-clause-faults
returns-in-None-clause-faults c =
    λ has.
    let count : c.len-nodes.result ≡ length c.args.scenario.now.nodes = c.len-nodes.ensures ∙ ap (λ (p : ScenarioParts). length p.nodes) c.parts.ensures.value in
    let named : (entries : List ℕ) × MeansGroups c.args.sharing.now.groups (length c.args.scenario.now.nodes) entries → ⊥ = λ names.
    let of_count : MeansGroups c.args.sharing.now.groups c.len-nodes.result names.0 = subst (λ n. MeansGroups c.args.sharing.now.groups n names.0) (sym count) names.1 in
    let means : MeansGroups c.groups-text.result.now c.len-nodes.result names.0 = subst (λ text. MeansGroups text c.len-nodes.result names.0) (sym c.groups-text.ensures) of_count in
    some_none names.0 (sym (c.in_ok-partition.ensures.only names.0 means) ∙ c.in-None.is) in
    elim has [
      | inl found ↦ false≢true (c.if-eq.ensures ∙ (bytes_eq-Decides _ _).1 (c.groups-text.ensures ∙ found))
      | inr names ↦ named names
    ]
