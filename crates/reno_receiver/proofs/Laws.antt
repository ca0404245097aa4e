-- What every receiver keeps, whatever comes and in whatever order.
use Rattle.std.proofs.Common.{◌≡◌, ℕ, ◌+◌, ◌*◌, ◌%◌, ◌/◌, ◌<◌, ◌≤◌, ◌⊎◌, Bool, true, false, cond, inl, inr, Some, None, Option, refl, sym, ap, ◌∙◌, arith}
use Rattle.std.specs.Prelude.{◌↔◌, ◌==◌, ◌||◌, is_some}
use Rattle.std.specs.Ordering.{nat_cmp}
use Rattle.std.specs.Cmp.{nat_cmp_total, unsigned_tied}
use Rattle.std.specs.FinSet.{FinSet}
use Rattle.std.specs.FinMap as map
use Rattle.std.proofs.lemmas.Bool.{both_ways, cases_lt, or_cases, or_left, or_right, eqb-true, eq-eqb, ltb-true, and_parts}
use Rattle.std.proofs.lemmas.Nat.{div-add-mod'}
use Rattle.std.proofs.Math.Nat.{mul-mod_left, mul-le-mul_right, zero-mul}
use Rattle.reno_receiver.specs.declared.reply.Reply.TheVariants.{AckNow, Wait}
use Rattle.reno_receiver.specs.Received.{ReceiverState, initial_receiver, next_of, may_wait, gaining, is_received, IsReceived, IsWellFormed}
use Rattle.reno_receiver.specs.LeastMissing.{IsLeastMissing}
use Rattle.reno_receiver.specs.Laws.{NextLaw, InitialLaw, DataLaw, TimerLaw}
use Rattle.reno_receiver.proofs.Next.{next_at, next_of_at}

-- a multiple of mss is as many times mss as it holds
pub whole_multiple : (m mss : ℕ) → m % mss ≡ 0 → m ≡ m / mss * mss
whole_multiple m mss e = omega (arith, div-add-mod' m mss)

pub least_missing : (st : ReceiverState) → 1 ≤ st.mss → IsLeastMissing st (next_of st)
least_missing st pos =
    let at = next_at st pos in
    record {
      multiple = rw at.2 (mul-mod_left at.0 st.mss);
      missing = λ is. both_ways _ at.1.missing (rw (← at.2) is);
      least = λ m whole missing. elim (cases_lt (m / st.mss) at.0) [
        | inl below ↦ absurd (missing (rw (whole_multiple m st.mss whole) (at.1.before (m / st.mss) below)))
        | inr above ↦ omega (arith, at.2, whole_multiple m st.mss whole, mul-le-mul_right st.mss above)
      ];
    }

pub next_holds : NextLaw
next_holds st w =
    let next = least_missing st w.mss_least in
    record { least = next; bounded = λ h whole all. next.least h whole (λ is. let lt : h < h = all h is in omega arith) }

pub contains_key-empty : (x : ℕ) → map.contains_key {X = Unit {0}} {R = nat_cmp} map.empty x ≡ false
contains_key-empty x = ap is_some (map.get-empty nat_cmp x)

none_received : (x : ℕ) → map.contains_key {X = Unit {0}} {R = nat_cmp} map.empty x ≡ true → ⊥
none_received x is = both_ways _ (contains_key-empty x) is

is_some_either : (b : Bool) (x : Option (Unit {0})) → is_some (cond b (Some tt) x) ≡ (b || is_some x)
is_some_either true x = refl
is_some_either false x = refl

-- one more number is in a set
pub contains_key-insert : (s : FinSet nat_cmp) (k q : ℕ) → map.contains_key (map.insert s k tt) q ≡ ((q == k) || map.contains_key s q)
contains_key-insert s k q = ap is_some (map.get-insert nat_cmp_total s k tt q) ∙ ap (λ b. is_some (cond b (Some tt) (map.get s q))) (unsigned_tied q k) ∙ is_some_either (q == k) (map.get s q)

pub initial_holds : InitialLaw
initial_holds mss delack low high most = record {
  well_formed = record { mss_least = low; mss_greatest = high; delack_greatest = most; multiple = λ x is. absurd (none_received x is); greatest = λ x is. absurd (none_received x is) };
  next_is = next_of_at (initial_receiver mss delack) 0 low (record { missing = contains_key-empty (0 * mss); before = λ j lt. absurd (omega arith) }) ∙ zero-mul mss;
  empty = none_received;
}

-- what one more number received is
pub members_of_gaining : (st : ReceiverState) (seq x : ℕ) → IsReceived (gaining st seq) x ↔ ((x ≡ seq) ⊎ IsReceived st x)
members_of_gaining st seq x =
    let is : is_received (gaining st seq) x ≡ ((x == seq) || is_received st x) = contains_key-insert st.received seq x in (
      λ came. elim (or_cases _ _ (sym is ∙ came)) [ inl new ↦ inl (eqb-true x seq new) | inr old ↦ inr old ],
      λ either. is ∙ elim either [ inl new ↦ or_left _ _ (eq-eqb x seq new) | inr old ↦ or_right _ _ old ],
    )

gaining_well_formed : (st : ReceiverState) (seq : ℕ) → IsWellFormed st → seq % st.mss ≡ 0 → seq ≤ 9000000000000 → IsWellFormed (gaining st seq)
gaining_well_formed st seq w whole high = record {
  mss_least = w.mss_least;
  mss_greatest = w.mss_greatest;
  delack_greatest = w.delack_greatest;
  multiple = λ x is. elim ((members_of_gaining st seq x).0 is) [ inl new ↦ rw new whole | inr old ↦ w.multiple x old ];
  greatest = λ x is. elim ((members_of_gaining st seq x).0 is) [ inl new ↦ rw new high | inr old ↦ w.greatest x old ];
}

next_rises : (st : ReceiverState) (seq : ℕ) → 1 ≤ st.mss → next_of st ≤ next_of (gaining st seq)
next_rises st seq pos =
    let new = least_missing (gaining st seq) pos in
    (least_missing st pos).least (next_of (gaining st seq)) new.multiple (λ is. new.missing ((members_of_gaining st seq (next_of (gaining st seq))).1 (inr is)))

-- the answer of a segment, by whether it may wait
acknowledged_by : (b : Bool) (due next n : ℕ) → cond b (Wait due) (AckNow next) ≡ AckNow n → (n ≡ next) × (cond b (Some due) None ≡ None)
acknowledged_by true due next n e = absurd (cc)
acknowledged_by false due next n e = (cc, refl)

waits_by : (b : Bool) (due next d : ℕ) → cond b (Wait due) (AckNow next) ≡ Wait d → (b ≡ true) × (d ≡ due) × (cond b (Some due) None ≡ Some d)
waits_by true due next d e = (refl, cc, cc)
waits_by false due next d e = absurd (cc)

delayed : (st : ReceiverState) (seq : ℕ) → may_wait st seq ≡ true → 0 < st.delack
delayed st seq is = ltb-true 0 st.delack (and_parts _ _ (and_parts _ _ (and_parts _ _ is).1).1).0

pub data_keeps : DataLaw
data_keeps st seq now w whole high before = record {
  well_formed = let g = gaining_well_formed st seq w whole high in record { mss_least = g.mss_least; mss_greatest = g.mss_greatest; delack_greatest = g.delack_greatest; multiple = g.multiple; greatest = g.greatest };
  mss_stays = refl;
  delack_stays = refl;
  members = members_of_gaining st seq;
  next_rises = next_rises st seq w.mss_least;
  next_multiple = (least_missing (gaining st seq) w.mss_least).multiple;
  acknowledged = acknowledged_by (may_wait st seq) (now + st.delack) (next_of (gaining st seq));
  waits = λ d e. let is = waits_by (may_wait st seq) (now + st.delack) (next_of (gaining st seq)) d e in (is.1, delayed st seq is.0, is.2);
}

pub timer_keeps : TimerLaw
timer_keeps st w = record {
  well_formed = record { mss_least = w.mss_least; mss_greatest = w.mss_greatest; delack_greatest = w.delack_greatest; multiple = w.multiple; greatest = w.greatest };
  mss_stays = refl;
  delack_stays = refl;
  received_stays = refl;
  next_stays = refl;
  timer_off = refl;
  acknowledged = refl;
}
