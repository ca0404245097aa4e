-- The order of events, and how a key is stored.
use Rattle.std.specs.Prelude.{ℕ, refl}
use Rattle.std.specs.declared.cmp.Ordering.{Ordering}
use Rattle.std.specs.Ordering.{nat_cmp, ordering_then}
use Rattle.std.specs.Coded.{Coded, code_by, coded×, coded_ℕ}
use Rattle.sim_time.specs.declared.key.Key.{Key}

-- by time, then node, then source, then number
abbrev pub key_cmp : Key → Key → Ordering
key_cmp a b = ordering_then (nat_cmp a.time b.time) (ordering_then (nat_cmp a.node b.node) (ordering_then (nat_cmp a.source b.source) (nat_cmp a.number b.number)))

-- a key is stored as its four numbers
abbrev pub key_code : Coded Key
key_code =
    code_by (ℕ × (ℕ × (ℕ × ℕ))) (coded× coded_ℕ (coded× coded_ℕ (coded× coded_ℕ coded_ℕ))) (λ k. (k.time, (k.node, (k.source, k.number))))
    (λ p. record { time = p.0; node = p.1.0; source = p.1.1.0; number = p.1.1.1 }) (λ _. refl)
