-- A look at what a take in drop state drops, after some of the packets.
use Rattle.std.proofs.Common.{◌≡◌, ◌≤◌, ◌<◌, ◌+◌, ◌-◌, ℕ, zero, suc, Bool, true, false, cond, List, [], ◌∷◌, length, drop, Option, Some, None, refl, sym, ap, ◌∙◌, arith, add-one, below_more}
use Rattle.std.specs.Prelude.{slice_get, nat_lt, nat_le, not, ◌||◌, IsSomeAnd}
use Rattle.std.proofs.lemmas.Bool.{le-leb}
use Rattle.std.proofs.lemmas.List.Sums.{sum_by-cons}
use Rattle.packet_chain.specs.Stamped.{Stamped, bytes_of}
use Rattle.sim_time.specs.ControlLaw.{gap_of}
use Rattle.aqm.specs.Codel.{CodelState}
use Rattle.aqm.specs.Judgement.{Judgement, cleared, judged, judgement, above_target}
use Rattle.aqm.specs.Drops.{stops, drops, drop_due, count_after_drops}
use Rattle.aqm.proofs.Front.{not_stopped, stops_past}
use Rattle.aqm.proofs.SoFar.{drops_is, stops_at, goes_on}

-- a packet waited for the target at least, and leaves over maxpacket bytes behind it
abbrev pub is_late : CodelState → ℕ → ℕ → ℕ → Bool
is_late s now entered left = not (nat_lt (now - entered) s.target || nat_le left s.maxpacket)

-- packets have been above target for an interval
abbrev pub IsAbove : CodelState → ℕ → Type 0
IsAbove s now = IsSomeAnd s.first_above (λ t. t ≤ now)

-- n packets may be dropped with their drops due, and these wait behind them
pub record IsForeseen (s : CodelState) (now n left at count : ℕ) (behind : List Stamped) : Type 0 where
  pub rest : behind ≡ drop n s.fifo.waiting
  pub bytes : left ≡ bytes_of behind
  pub due_at : at ≡ drop_due s n
  pub counted_so : count ≡ count_after_drops s.count n
  pub before : (j : ℕ) → j < n → stops s now j ≡ false
  pub within : n + length behind ≡ length s.fifo.waiting

-- what the judgements before the n-th leave
abbrev left_before : CodelState → ℕ → ℕ → Option ℕ
left_before s now zero = s.first_above
left_before s now (suc n) = (judgement s now n).first_above

judgement_is : (s : CodelState) (now n : ℕ) → judgement s now n ≡ judged s now (slice_get s.fifo.waiting n) (bytes_of (drop (suc n) s.fifo.waiting)) (left_before s now n)
judgement_is s now zero = refl
judgement_is s now (suc n) = rw (add-one (suc n)) refl

since : (o : Option ℕ) (now : ℕ) → IsSomeAnd o (λ t. t ≤ now) → (t : ℕ) × (o ≡ Some t) × (t ≤ now)
since None now above = absurd above
since (Some t) now above = (t, refl, above)

kept : (a b : Bool) (t now : ℕ) → (cond (a || b) cleared (above_target 0 now (Some t))).ok ≡ true → (cond (a || b) cleared (above_target 0 now (Some t))).first_above ≡ Some t
kept true b t now e = absurd (cc)
kept false true t now e = absurd (cc)
kept false false t now e = refl

late_stays : (s : CodelState) (now left t : ℕ) (h : Option Stamped) → (judged s now h left (Some t)).ok ≡ true → (judged s now h left (Some t)).first_above ≡ Some t
late_stays s now left t None e = absurd (cc)
late_stays s now left t (Some x) e = kept (nat_lt (now - x.1) s.target) (nat_le left s.maxpacket) t now e

-- packets that may all be dropped leave it so that packets have been above target since then
left_so : (s : CodelState) (now t n : ℕ) → s.first_above ≡ Some t → ((j : ℕ) → j < n → stops s now j ≡ false) → left_before s now n ≡ Some t
left_so s now t zero is before = is
left_so s now t (suc n) is before =
    let so = left_so s now t n is (λ j lt. before j (omega arith)) in
    let whole : judgement s now n ≡ judged s now (slice_get s.fifo.waiting n) (bytes_of (drop (suc n) s.fifo.waiting)) (Some t) = judgement_is s now n ∙ ap (λ f. judged s now (slice_get s.fifo.waiting n) (bytes_of (drop (suc n) s.fifo.waiting)) f) so in
    let late : (judgement s now n).ok ≡ true = not_stopped (judgement s now n).ok _ (before n (omega arith)) in
    ap (λ (j : Judgement). j.first_above) whole ∙ late_stays s now (bytes_of (drop (suc n) s.fifo.waiting)) t (slice_get s.fifo.waiting n) (sym (ap (λ (j : Judgement). j.ok) whole) ∙ late)

tested : (a b : Bool) (t now : ℕ) → t ≤ now → (cond (a || b) cleared (above_target 0 now (Some t))).ok ≡ not (a || b)
tested true b t now le = refl
tested false true t now le = refl
tested false false t now le = le-leb t now le

-- so a packet may be dropped where it is late
ok_is : (s : CodelState) (now n : ℕ) (x : Stamped) → IsAbove s now → ((j : ℕ) → j < n → stops s now j ≡ false) → slice_get s.fifo.waiting n ≡ Some x →
    (judgement s now n).ok ≡ is_late s now x.1 (bytes_of (drop (suc n) s.fifo.waiting))
ok_is s now n x above before got =
    let t = since s.first_above now above in
    let left = bytes_of (drop (suc n) s.fifo.waiting) in
    ap (λ (j : Judgement). j.ok) (judgement_is s now n ∙ ap (λ h. judged s now h left (left_before s now n)) got ∙ ap (λ f. judged s now (Some x) left f) (left_so s now t.0 n t.1 before))
    ∙ tested (nat_lt (now - x.1) s.target) (nat_le left s.maxpacket) t.0 now t.2

first_behind : (n : ℕ) (xs ys : List Stamped) (x : Stamped) → x ∷ ys ≡ drop n xs → (slice_get xs n ≡ Some x) × (ys ≡ drop (suc n) xs)
first_behind zero [] ys x e = absurd (cc)
first_behind zero (z ∷ zs) ys x e = (cc, cc)
first_behind (suc n) [] ys x e = absurd (cc)
first_behind (suc n) (z ∷ zs) ys x e = first_behind n zs ys x e

-- the packet behind the n, and the bytes that it leaves
record IsNext (s : CodelState) (now n left : ℕ) (x : Stamped) (more : List Stamped) : Type 0 where
  rest : more ≡ drop (suc n) s.fifo.waiting
  bytes : left - x.0.bytes ≡ bytes_of more
  ok : (judgement s now n).ok ≡ is_late s now x.1 (left - x.0.bytes)

next_of : (s : CodelState) (now n left at count : ℕ) (x : Stamped) (more : List Stamped) → IsAbove s now → IsForeseen s now n left at count (x ∷ more) → IsNext s now n left x more
next_of s now n left at count x more above i =
    let first = first_behind n s.fifo.waiting more x i.rest in
    let sum = sum_by-cons (λ (h : Stamped). h.0.bytes) x more in
    let total = i.bytes in
    let bytes : left - x.0.bytes ≡ bytes_of more = omega (arith, total, sum) in
    record {
      rest = first.1;
      bytes = bytes;
      ok = ok_is s now n x above i.before first.0 ∙ ap (λ b. is_late s now x.1 b) (ap bytes_of (sym first.1) ∙ sym bytes);
    }

-- before the first
pub first_foreseen : (s : CodelState) (now left at count : ℕ) (behind : List Stamped) → s.count ≤ 4294967295 →
    behind ≡ s.fifo.waiting → left ≡ bytes_of s.fifo.waiting → at ≡ s.drop_next → count ≡ s.count → IsForeseen s now 0 left at count behind
first_foreseen s now left at count behind most behind_is left_is at_is count_is = record {
  rest = behind_is;
  bytes = left_is ∙ ap bytes_of (sym behind_is);
  due_at = at_is;
  counted_so = omega arith;
  before = λ j lt. absurd (omega arith);
  within = let same = ap (λ (xs : List Stamped). length xs) behind_is in omega arith;
}

-- one more may be dropped
pub more_foreseen : (s : CodelState) (now n left at count : ℕ) (x : Stamped) (more : List Stamped) → IsAbove s now → IsForeseen s now n left at count (x ∷ more) →
    at ≤ now → is_late s now x.1 (left - x.0.bytes) ≡ true → (count' gap' : ℕ) → count' ≡ count_after_drops count 1 → gap' ≡ gap_of s.interval count' →
    IsForeseen s now (n + 1) (left - x.0.bytes) (at + gap') count' more
more_foreseen s now n left at count x more above i come late count' gap' count_is gap_is =
    let next = next_of s now n left at count x more above i in
    let was = i.counted_so in
    let more_counted : count' ≡ count_after_drops s.count (suc n) = omega (arith, was, count_is) in
    let due_at = i.due_at in
    let next_due : at + gap' ≡ drop_due s (suc n) = ap (λ d. d + gap') due_at ∙ ap (λ g. drop_due s n + g) (gap_is ∙ ap (gap_of s.interval) more_counted) in
    let within = i.within in
    record {
      rest = rw (add-one n) next.rest;
      bytes = next.bytes;
      due_at = rw (add-one n) next_due;
      counted_so = rw (add-one n) more_counted;
      before = below_more _ _ i.before (goes_on s now n (next.ok ∙ late) (rw due_at at come));
      within = omega (arith, within);
    }

-- where the next one may not be dropped, or its drop isn't due yet
pub stops_foreseen : (s : CodelState) (now n left at count : ℕ) (x : Stamped) (more : List Stamped) → IsAbove s now → IsForeseen s now n left at count (x ∷ more) →
    (is_late s now x.1 (left - x.0.bytes) ≡ true → now < at) → n ≡ drops s now
stops_foreseen s now n left at count x more above i stop =
    let next = next_of s now n left at count x more above i in
    let within = i.within in
    let due_at = i.due_at in
    sym (drops_is s now n (omega (arith, within)) i.before (stops_at s now n (λ e. let lt = stop (sym next.ok ∙ e) in rw due_at at lt)))

-- where none is left
pub all_foreseen : (s : CodelState) (now n left at count : ℕ) → IsForeseen s now n left at count [] → n ≡ drops s now
all_foreseen s now n left at count i =
    let within = i.within in
    sym (drops_is s now n (omega (arith, within)) i.before (stops_past s now n (omega (arith, within))))

-- the packet behind the n is among the bytes left
pub is_left : (s : CodelState) (now n left at count : ℕ) (x : Stamped) (more : List Stamped) → IsForeseen s now n left at count (x ∷ more) → x.0.bytes ≤ left
is_left s now n left at count x more i = let sum = sum_by-cons (λ (h : Stamped). h.0.bytes) x more in let total = i.bytes in omega (arith, total, sum)

-- the packet at the head may be dropped where it is late
pub head_is : (s : CodelState) (now : ℕ) (x : Stamped) (more : List Stamped) → IsAbove s now → s.fifo.waiting ≡ x ∷ more →
    (judgement s now 0).ok ≡ is_late s now x.1 (bytes_of s.fifo.waiting - x.0.bytes)
head_is s now x more above e =
    let first = first_behind 0 s.fifo.waiting more x (sym e) in
    let sum = sum_by-cons (λ (h : Stamped). h.0.bytes) x more in
    let whole = ap bytes_of e in
    let left : bytes_of more ≡ bytes_of s.fifo.waiting - x.0.bytes = omega (arith, whole, sum) in
    ok_is s now 0 x above (λ j lt. absurd (omega arith)) first.0 ∙ ap (λ b. is_late s now x.1 b) (ap bytes_of (sym first.1) ∙ left)
