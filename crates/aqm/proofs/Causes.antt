-- Each packet that a CoDel queue drops is dropped for cause.
use Rattle.std.proofs.Common.{◌≡◌, ◌≤◌, ◌<◌, ◌+◌, ◌-◌, ℕ, zero, suc, Bool, true, false, cond, List, [], ◌∷◌, take, drop, Option, Some, None, sym, ap, ◌∙◌, arith}
use Rattle.std.specs.Prelude.{slice_get, nat_lt, nat_le, ◌||◌, IfSome, IsSomeAnd}
use Rattle.std.proofs.lemmas.Bool.{ltb-false, leb-true, leb-false}
use Rattle.packet_chain.specs.Stamped.{Stamped, bytes_of}
use Rattle.aqm.specs.Codel.{CodelState}
use Rattle.aqm.specs.Judgement.{Judgement, cleared, judged, judgement, above_target}
use Rattle.aqm.specs.Taken.{codel_taken}
use Rattle.aqm.proofs.Front.{hands_out, neither, none_of_none}
use Rattle.aqm.specs.Laws.{IsForCause, EveryDropHasACause}

if_some : {A : Type 0} (o : Option A) (P : A → Type 0) → ((x : A) → o ≡ Some x → P x) → IfSome o P
if_some None P each = tt
if_some (Some x) P each = each x (cc)

-- a packet of a front is one of the whole
in_front : (k i : ℕ) (xs : List Stamped) (x : Stamped) → slice_get (take k xs) i ≡ Some x → (i < k) × (slice_get xs i ≡ Some x)
in_front zero i xs x e = let none = none_of_none i in absurd (cc)
in_front (suc k) i [] x e = let none = none_of_none i in absurd (cc)
in_front (suc k) zero (y ∷ ys) x e = (omega arith, e)
in_front (suc k) (suc i) (y ∷ ys) x e = let rest = in_front k i ys x e in let within = rest.0 in (omega (arith, within), rest.1)

still_ok : (a b : Bool) (j : Judgement) → (cond (a || b) cleared j).ok ≡ true → j.ok ≡ true
still_ok true b j e = absurd (cc)
still_ok false true j e = absurd (cc)
still_ok false false j e = e

since : (interval now : ℕ) (f : Option ℕ) → (above_target interval now f).ok ≡ true → IsSomeAnd f (λ t. t ≤ now)
since interval now None e = absurd (cc)
since interval now (Some t) e = leb-true t now e

-- where a packet may be dropped, packets have been above target for an interval
above : (s : CodelState) (now left : ℕ) (f : Option ℕ) (h : Option Stamped) → (judged s now h left f).ok ≡ true → IsSomeAnd f (λ t. t ≤ now)
above s now left f None e = absurd (cc)
above s now left f (Some x) e = since s.interval now f (still_ok (nat_lt (now - x.1) s.target) (nat_le left s.maxpacket) (above_target s.interval now f) e)

late : (s : CodelState) (now left : ℕ) (f : Option ℕ) (x : Stamped) → (judged s now (Some x) left f).ok ≡ true → (s.target ≤ now - x.1) × (s.maxpacket < left)
late s now left f x e =
    let n = neither (nat_lt (now - x.1) s.target) (nat_le left s.maxpacket) (above_target s.interval now f) e in
    (ltb-false (now - x.1) s.target n.0, leb-false left s.maxpacket n.1)

late_at : (s : CodelState) (now i : ℕ) (x : Stamped) → slice_get s.fifo.waiting i ≡ Some x → (judgement s now i).ok ≡ true → (s.target ≤ now - x.1) × (s.maxpacket < bytes_of (drop (i + 1) s.fifo.waiting))
late_at s now zero x is ok = late s now (bytes_of (drop 1 s.fifo.waiting)) s.first_above x (sym (ap (λ h. (judged s now h (bytes_of (drop 1 s.fifo.waiting)) s.first_above).ok) is) ∙ ok)
late_at s now (suc i) x is ok =
    let left = bytes_of (drop (suc i + 1) s.fifo.waiting) in
    late s now left (judgement s now i).first_above x (sym (ap (λ h. (judged s now h left (judgement s now i).first_above).ok) is) ∙ ok)

pub every_drop_has_a_cause : EveryDropHasACause
every_drop_has_a_cause s now i =
    let h = hands_out s now in
    if_some (slice_get (codel_taken s now).dropped i) (λ x. IsForCause s now (bytes_of (drop (i + 1) s.fifo.waiting)) x) (λ x e.
    let at = in_front h.0 i s.fifo.waiting x (sym (ap (λ xs. slice_get xs i) h.1.dropped) ∙ e) in
    let lt = at.0 in
    let found = late_at s now i x at.1 (h.1.late i at.0) in
    record {
      waited = found.0;
      above = above s now (bytes_of (drop 1 s.fifo.waiting)) s.first_above (slice_get s.fifo.waiting 0) (h.1.late 0 (omega (arith, lt)));
      behind = found.1;
    })
