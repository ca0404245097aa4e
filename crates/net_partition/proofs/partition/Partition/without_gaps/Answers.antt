use Rattle.std.proofs.Common.{◌≡◌, ◌≤◌, ℕ, List, map, take, get_or, length, sym, ap, subst, ◌∙◌, arith}
use Rattle.std.proofs.lemmas.List.{length-take-le}
use Rattle.net_partition.proofs.Partitions.{below_is, one_group, two_at_least}
use Rattle.net_partition.proofs.partition.Partition.without_gaps.Goals as goal

pub invariant_of-result : goal.invariant_of-result
invariant_of-result c =
    let n = c.self.inside.nodes in
    let most : n ≤ 256 = c.self.invariant.0 in
    (most, below_is 64 n c.renumbered.result (omega arith) (two_at_least n c.self.inside.entries c.self.invariant.1) most (omega arith) c.renumbered.ensures.below)

pub returns-clause-apart : goal.returns-clause-apart
returns-clause-apart c = λ a b within_a within_b same.
    let n = c.self.inside.nodes in
    let entries = take n c.self.inside.entries in
    let numbers = c.numbers_without_gaps.result in
    let most : n ≤ 256 = c.self.invariant.0 in
    let reported : length c.self.inside.entries ≡ 256 = c.self.told in
    let size : length entries ≡ n = length-take-le n c.self.inside.entries (omega (arith, most, reported)) in
    let named : take n c.renumbered.result ≡ map (λ group. get_or numbers group 0) entries = ap (λ (k : ℕ). take k c.renumbered.result) (sym size) ∙ c.renumbered.ensures.numbered in
    let view : entries ≡ c.args.self.now = c.self.view_is in
    let long = ap length view in
    let one = one_group entries numbers (take n c.renumbered.result) a b c.numbers_without_gaps.ensures.rising c.self.invariant.1 named (omega (arith, within_a, long)) (omega (arith, within_b, long)) same in
    subst (λ (es : List ℕ). get_or es a 0 ≡ get_or es b 0) view one
