-- The order of keys is total, keys that tie are one, and an earlier time is less.
use Rattle.std.proofs.Common.{◌≡◌, ℕ, ◌<◌, ap, sym}
use Rattle.std.specs.Ordering.{nat_cmp, ordering_then}
use Rattle.std.specs.Cmp.{IsTotalOrder, nat_cmp_is}
use Rattle.std.specs.declared.cmp.Ordering.TheVariants.{Less}
use Rattle.std.proofs.lemmas.Cmp.{on_total, then_total, nat_cmp_total}
use Rattle.std.proofs.lemmas.Map.Lookups.{CmpEqualImpliesEq, exact_pairs, exact_unsigned}
use Rattle.sim_time.specs.declared.key.Key.{Key}
use Rattle.sim_time.specs.Keys.{key_cmp}

pub keys_total : IsTotalOrder key_cmp
keys_total =
    then_total (on_total (λ k. k.time) nat_cmp_total)
    (then_total (on_total (λ k. k.node) nat_cmp_total) (then_total (on_total (λ k. k.source) nat_cmp_total) (on_total (λ k. k.number) nat_cmp_total)))

pub exact_keys : CmpEqualImpliesEq key_cmp
exact_keys a b h = ap (λ (p : ℕ × (ℕ × (ℕ × ℕ))). record { time = p.0; node = p.1.0; source = p.1.1.0; number = p.1.1.1 })
    (exact_pairs nat_cmp _ exact_unsigned (exact_pairs nat_cmp _ exact_unsigned (exact_pairs nat_cmp nat_cmp exact_unsigned exact_unsigned)) (a.time, (a.node, (a.source, a.number))) (b.time, (b.node, (b.source, b.number))) h)

-- an earlier time is less
pub earlier_less : (a b : Key) → a.time < b.time → key_cmp a b ≡ Less
earlier_less a b h = ap (λ o. ordering_then o (ordering_then (nat_cmp a.node b.node) (ordering_then (nat_cmp a.source b.source) (nat_cmp a.number b.number)))) (sym (nat_cmp_is a.time b.time Less h))
