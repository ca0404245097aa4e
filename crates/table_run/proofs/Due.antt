-- Which event is due.
use Rattle.std.proofs.Common.{ℕ, ◌<◌, ◌≤◌, subst, ⊎_elim, ◌≡◌, ◌≢◌, Bool, true, false, cond, refl, sym, ap, ◌∙◌, Some, None, Option, true≢false}
use Rattle.std.specs.Prelude.{nat_lt}
use borrow.Author.Tests.{ltb-true}
use Rattle.std.proofs.lemmas.Bool.{cases_lt}
use Rattle.std.specs.FinMap as map
use Rattle.std.specs.declared.cmp.Ordering.TheVariants.{Less}
use Rattle.std.specs.Ordering.{is_gt, ordering_reverse}
use Rattle.sim_time.specs.declared.key.Key.{Key}
use Rattle.sim_time.specs.Keys.{key_cmp}
use Rattle.sim_time.proofs.Order.{keys_total, earlier_less}
use Rattle.node_core.specs.declared.event.Event.{Event}
use Rattle.node_core.specs.Pending.{Events}
use Rattle.tournament.specs.Keyed.{least}
use Rattle.tournament.proofs.Maps.{not_some, same_some, least_is}
use Rattle.table_run.specs.State.{State, below, due}

-- which event is due
pub record IsDue (s : State) (k : Key) (v : Event) : Type 0 where
  pub pending : map.get s.pending k ≡ Some v
  pub in_time : k.time < s.end
  pub first : (q : Key) (w : Event) → map.get s.pending q ≡ Some w → k.time ≤ q.time
  pub none_less : (q : Key) (w : Event) → map.get s.pending q ≡ Some w → key_cmp q k ≢ Less

of_test : (end : ℕ) (entry : Key × Event) (k : Key) (v : Event) (b : Bool) → nat_lt entry.0.time end ≡ b → cond b (Some entry) None ≡ Some (k, v) → (entry ≡ (k, v)) × (entry.0.time < end)
of_test end entry k v true early e = (same_some entry (k, v) e, ltb-true _ _ early)
of_test end entry k v false early e = absurd (not_some e)

pub of_below : (end : ℕ) (first : Option (Key × Event)) (k : Key) (v : Event) → below end first ≡ Some (k, v) → (first ≡ Some (k, v)) × (k.time < end)
of_below end None k v e = absurd (not_some e)
of_below end (Some entry) k v e =
    let both = of_test end entry k v (nat_lt entry.0.time end) refl e in
    (ap (λ (x : Key × Event). Some x) both.0, subst (λ (g : Key × Event). g.0.time < end) both.0 both.1)

no_earlier : (q k : Key) → key_cmp q k ≢ Less → k.time ≤ q.time
no_earlier q k h = ⊎_elim (λ (less : q.time < k.time). absurd (h (earlier_less q k less))) (λ (most : k.time ≤ q.time). most) (cases_lt q.time k.time)

not_less : (k q : Key) → is_gt (key_cmp k q) ≡ false → key_cmp q k ≢ Less
not_less k q h less = true≢false (sym (ap is_gt (keys_total.antisymm k q ∙ ap ordering_reverse less)) ∙ h)

-- nothing is earlier than the least
pub least_time : (m : Events) (k : Key) (v : Event) → least m ≡ Some (k, v) → (q : Key) (w : Event) → map.get m q ≡ Some w → k.time ≤ q.time
least_time m k v e q w there = no_earlier q k (not_less k q ((least_is m k v e).none_less q w there))

pub is_due : (s : State) (k : Key) (v : Event) → due s ≡ Some (k, v) → IsDue s k v
is_due s k v e =
    let facts = of_below s.end (least s.pending) k v e in
    let is = least_is s.pending k v facts.0 in
    record { pending = is.pending; in_time = facts.1; first = least_time s.pending k v facts.0; none_less = λ q w there. not_less k q (is.none_less q w there) }
