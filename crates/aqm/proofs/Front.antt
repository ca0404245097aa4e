-- What a take hands out: a front of the queue, and something wherever something waits.
use Rattle.std.proofs.Common.{◌≡◌, ◌≤◌, ◌<◌, ◌+◌, ◌-◌, ◌++◌, ℕ, zero, suc, Bool, true, false, cond, List, [], ◌∷◌, length, take, drop, get_or, Option, Some, None, refl, sym, ap, subst, ◌∙◌, arith, add-one, inl, inr}
use Rattle.std.specs.Prelude.{slice_get, nat_lt, nat_le, not, ◌||◌}
use Rattle.std.specs.List.{range_with_len}
use Rattle.std.proofs.Math.Nat.{zero-add}
use Rattle.std.proofs.Math.ListN.{drop_of_length-le}
use Rattle.std.proofs.lemmas.Bool.{cases_lt, leb-false}
use Rattle.std.proofs.lemmas.List.{length-take, length-take-le}
use Rattle.std.proofs.lemmas.Option.{slice_get_past}
use Rattle.std.proofs.lemmas.List.FromFn.{get_or-range_with_len, length-range_with_len}
use Rattle.std.proofs.lemmas.List.Sums.{fails_before_first, passes_at_first, prefix_len-le-length}
use Rattle.packet_chain.specs.Stamped.{Stamped, bytes_of}
use Rattle.aqm.specs.declared.queue.Queue.TheVariants.{DropTail, Codel}
use Rattle.aqm.specs.Codel.{CodelState}
use Rattle.aqm.specs.Judgement.{Judgement, cleared, judged, judgement, above_target}
use Rattle.aqm.specs.Drops.{stops, drops}
use Rattle.aqm.specs.Taken.{CodelTaken, codel_taken}
use Rattle.aqm.proofs.TakenCases.{taken_in_drop_state, taken_at_first_drop, taken_undropped}
use Rattle.aqm.specs.Laws.{listed, TakesTheFront, GivesWhatWaits, DropsAtMostWhatWaits, DropsStopAtTheFirstStop}

split_at : (k : ℕ) (xs : List Stamped) → take k xs ++ listed (slice_get xs k) ++ drop (suc k) xs ≡ xs
split_at zero [] = refl
split_at zero (x ∷ xs) = refl
split_at (suc k) [] = refl
split_at (suc k) (x ∷ xs) = ap (λ ys. x ∷ ys) (split_at k xs)

none_past : (k : ℕ) (xs : List Stamped) → slice_get xs k ≡ None → length xs ≤ k
none_past k [] e = omega arith
none_past zero (x ∷ xs) e = absurd (cc)
none_past (suc k) (x ∷ xs) e = let past : length xs ≤ k = none_past k xs e in omega (arith, past)

-- where bytes are left behind n packets, there is a further one
left_within : (n : ℕ) (xs : List Stamped) → 0 < bytes_of (drop n xs) → n < length xs
left_within n xs left = elim (cases_lt n (length xs)) [
  | inl lt ↦ lt
  | inr past ↦ let none : drop n xs ≡ [] = drop_of_length-le xs past in let nothing : 0 < bytes_of [] = rw none at left in absurd (omega (arith, nothing))
]

-- a packet that may be dropped waited for the target at least, and has over maxpacket bytes behind it
pub neither : (a b : Bool) (j : Judgement) → (cond (a || b) cleared j).ok ≡ true → (a ≡ false) × (b ≡ false)
neither true b j e = absurd (cc)
neither false true j e = absurd (cc)
neither false false j e = (refl, refl)

late_left : (s : CodelState) (now left : ℕ) (f : Option ℕ) (h : Option Stamped) → (judged s now h left f).ok ≡ true → s.maxpacket < left
late_left s now left f None e = absurd (cc)
late_left s now left f (Some x) e = leb-false left s.maxpacket (neither (nat_lt (now - x.1) s.target) (nat_le left s.maxpacket) (above_target s.interval now f) e).1

-- so a packet waits behind it
late_within : (s : CodelState) (now j : ℕ) → (judgement s now j).ok ≡ true → j + 1 < length s.fifo.waiting
late_within s now zero e = let left = late_left s now _ _ _ e in let within : 1 < length s.fifo.waiting = left_within 1 s.fifo.waiting (omega (arith, left)) in omega (arith, within)
late_within s now (suc j) e = let left = late_left s now _ _ _ e in left_within (suc j + 1) s.fifo.waiting (omega (arith, left))

-- the first k packets are dropped, each of which may be, and the one behind them is given
pub record HandsOut (s : CodelState) (now : ℕ) (t : CodelTaken) (k : ℕ) : Type 0 where
  pub dropped : t.dropped ≡ take k s.fifo.waiting
  pub given : t.given ≡ slice_get s.fifo.waiting k
  pub rest : t.queue.fifo.waiting ≡ drop (k + 1) s.fifo.waiting
  pub late : (j : ℕ) → j < k → (judgement s now j).ok ≡ true

pub number_at : (n j : ℕ) → j < n → get_or (range_with_len 0 n) j 0 ≡ j
number_at n j lt = get_or-range_with_len 0 n j 0 lt ∙ zero-add j

drops_within : (s : CodelState) (now : ℕ) → drops s now ≤ length s.fifo.waiting
drops_within s now = rw length-range_with_len at (prefix_len-le-length (λ j. not (stops s now j)) (range_with_len 0 (length s.fifo.waiting)))

goes_on_before : (s : CodelState) (now j : ℕ) → j < drops s now → stops s now j ≡ false
goes_on_before s now j lt =
    let within = drops_within s now in
    rw (number_at (length s.fifo.waiting) j (omega (arith, within))) at (fails_before_first (stops s now) (range_with_len 0 (length s.fifo.waiting)) j 0 lt)

pub not_stopped : (ok b : Bool) → (not ok || b) ≡ false → ok ≡ true
not_stopped true b e = refl
not_stopped false b e = absurd (cc)

hands_out_by : (s : CodelState) (now : ℕ) (b c : Bool) → s.dropping ≡ b → (judgement s now 0).ok ≡ c → (k : ℕ) × HandsOut s now (codel_taken s now) k
hands_out_by s now true c on e = (
  drops s now,
  subst (λ t. HandsOut s now t (drops s now)) (sym (taken_in_drop_state s now on)) (record { dropped = refl; given = refl; rest = refl; late = λ j lt. not_stopped (judgement s now j).ok _ (goes_on_before s now j lt) }),
)
hands_out_by s now false true off ok = (
  1,
  subst (λ t. HandsOut s now t 1) (sym (taken_at_first_drop s now off ok)) (record { dropped = refl; given = refl; rest = refl; late = λ j lt. let first : j ≡ 0 = omega arith in rw first ok }),
)
hands_out_by s now false false off ok = (
  0,
  subst (λ t. HandsOut s now t 0) (sym (taken_undropped s now off ok)) (record { dropped = refl; given = refl; rest = refl; late = λ j lt. absurd (omega arith) }),
)

pub hands_out : (s : CodelState) (now : ℕ) → (k : ℕ) × HandsOut s now (codel_taken s now) k
hands_out s now = hands_out_by s now s.dropping (judgement s now 0).ok refl refl

pub takes_the_front : TakesTheFront
takes_the_front (DropTail s) now = split_at 0 s.waiting
takes_the_front (Codel s) now =
    let h = hands_out s now in
    rw (h.1.dropped, h.1.given, h.1.rest, add-one) (split_at h.0 s.fifo.waiting)

pub none_of_none : (k : ℕ) → slice_get {X = Stamped} [] k ≡ None
none_of_none zero = refl
none_of_none (suc k) = refl

nothing_waits : (s : CodelState) (now k : ℕ) → ((j : ℕ) → j < k → (judgement s now j).ok ≡ true) → length s.fifo.waiting ≤ k → s.fifo.waiting ≡ []
nothing_waits s now zero late past = rw (← drop_of_length-le s.fifo.waiting past) refl
nothing_waits s now (suc k) late past = let within = late_within s now k (late k (omega arith)) in absurd (omega (arith, within))

pub gives_what_waits : GivesWhatWaits
gives_what_waits (DropTail s) now = (λ e. let past = none_past 0 s.waiting e in rw (← drop_of_length-le s.waiting past) refl, λ e. rw e refl)
gives_what_waits (Codel s) now =
    let h = hands_out s now in (
      λ e. nothing_waits s now h.0 h.1.late (none_past h.0 s.fifo.waiting (sym h.1.given ∙ e)),
      λ e. h.1.given ∙ ap (λ xs. slice_get xs h.0) e ∙ none_of_none h.0,
    )

pub stops_past : (s : CodelState) (now k : ℕ) → length s.fifo.waiting ≤ k → stops s now k ≡ true
stops_past s now zero past = rw (slice_get_past s.fifo.waiting 0 past) refl
stops_past s now (suc k) past = rw (slice_get_past s.fifo.waiting (suc k) past) refl

stops_at_drops : (s : CodelState) (now : ℕ) → stops s now (drops s now) ≡ true
stops_at_drops s now = elim (cases_lt (drops s now) (length s.fifo.waiting)) [
  | inl lt ↦ rw (number_at (length s.fifo.waiting) (drops s now) lt) at (passes_at_first (stops s now) (range_with_len 0 (length s.fifo.waiting)) 0 (rw length-range_with_len lt))
  | inr past ↦ stops_past s now (drops s now) past
]

pub drops_stop_at_the_first_stop : DropsStopAtTheFirstStop
drops_stop_at_the_first_stop s now = record { stops_here = stops_at_drops s now; goes_on_before = goes_on_before s now }

-- in drop state as many are dropped as the drops
pub drops_in_drop_state : (s : CodelState) (now : ℕ) → s.dropping ≡ true → length (codel_taken s now).dropped ≡ drops s now
drops_in_drop_state s now on = ap (λ (t : CodelTaken). length t.dropped) (taken_in_drop_state s now on) ∙ length-take-le (drops s now) s.fifo.waiting (drops_within s now)

pub drops_at_most_what_waits : DropsAtMostWhatWaits
drops_at_most_what_waits (DropTail s) now = omega arith
drops_at_most_what_waits (Codel s) now = let h = hands_out s now in let n = length-take h.0 s.fifo.waiting in rw h.1.dropped (omega (arith, n))
