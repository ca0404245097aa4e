-- A take in drop state, after some of its drops.
use Rattle.std.proofs.Common.{◌≡◌, ◌≤◌, ◌<◌, ◌+◌, ◌-◌, ◌++◌, ℕ, zero, suc, Bool, true, false, cond, List, [], ◌∷◌, length, take, drop, Option, Some, None, refl, sym, ap, ◌∙◌, arith, add-one, below_more, append_assoc}
use Rattle.std.specs.Prelude.{slice_get, nat_lt, not, ◌||◌, IfSome}
use Rattle.std.specs.List.{range_with_len}
use Rattle.std.proofs.lemmas.List.{drop-drop, append-nil}
use Rattle.std.proofs.lemmas.Bool.{lt-ltb, le-ltb}
use Rattle.std.proofs.lemmas.Option.{slice_get_within}
use Rattle.std.proofs.lemmas.List.FromFn.{length-range_with_len}
use Rattle.std.proofs.lemmas.List.Sums.{position_or_len_is}
use Rattle.packet_chain.specs.Stamped.{Stamped, bytes_of}
use Rattle.sim_time.specs.ControlLaw.{gap_of}
use Rattle.aqm.specs.Codel.{CodelState}
use Rattle.aqm.specs.Judgement.{Judgement, judged, judgement}
use Rattle.aqm.specs.Taken.{CodelTaken, codel_taken, handed_out, after_one}
use Rattle.aqm.proofs.TakenCases.{taken_in_drop_state}
use Rattle.aqm.proofs.Front.{number_at}
use Rattle.aqm.specs.Drops.{stops, drops, drop_due, count_after_drops, after_drops}
use Rattle.aqm.specs.OneDrop.{after_drop}

-- the queue after k drops, with the packet behind them judged
abbrev pub so_far : CodelState → ℕ → ℕ → CodelState
so_far s now k = record (after_drops s now k) { dropping = s.dropping }

-- k packets were dropped, none of them where the drops stop, and the packet behind them was taken out
pub record IsSoFar (s : CodelState) (now : ℕ) (start chain : List Stamped) (q : CodelState) (cell : Option Stamped) (ok : Bool) (k : ℕ) : Type 0 where
  pub state : q ≡ so_far s now k
  pub taken : cell ≡ slice_get s.fifo.waiting k
  pub judged : ok ≡ (judgement s now k).ok
  pub dropped : chain ≡ start ++ take k s.fifo.waiting
  pub before : (j : ℕ) → j < k → stops s now j ≡ false
  pub within : k ≤ length s.fifo.waiting

-- the number of drops is k where the drops stop after k, and not before
pub drops_is : (s : CodelState) (now k : ℕ) → k ≤ length s.fifo.waiting → ((j : ℕ) → j < k → stops s now j ≡ false) → stops s now k ≡ true → drops s now ≡ k
drops_is s now k within before here =
    let n : length (range_with_len 0 (length s.fifo.waiting)) ≡ length s.fifo.waiting = length-range_with_len 0 (length s.fifo.waiting) in
    position_or_len_is (stops s now) (range_with_len 0 (length s.fifo.waiting)) k 0 (rw n within)
    (λ j lt. rw (number_at (length s.fifo.waiting) j (omega arith)) (before j lt))
    (λ lt. rw (number_at (length s.fifo.waiting) k (omega arith)) here)

first_of_rest : (n : ℕ) (xs : List Stamped) → slice_get (drop n xs) 0 ≡ slice_get xs n
first_of_rest zero xs = refl
first_of_rest (suc n) [] = refl
first_of_rest (suc n) (x ∷ xs) = first_of_rest n xs

pub taken_more : (k : ℕ) (xs : List Stamped) (x : Stamped) → slice_get xs k ≡ Some x → take (suc k) xs ≡ take k xs ++ x ∷ []
taken_more zero [] x e = absurd (cc)
taken_more zero (y ∷ ys) x e = ap (λ z. z ∷ []) (cc)
taken_more (suc k) [] x e = absurd (cc)
taken_more (suc k) (y ∷ ys) x e = ap (λ zs. y ∷ zs) (taken_more k ys x e)

-- the packet behind k + 1 others is judged the same once those are out
next_judged : (s : CodelState) (now k : ℕ) → judgement (so_far s now k) now 0 ≡ judgement s now (k + 1)
next_judged s now k =
    ap (λ h. judged s now h (bytes_of (drop 1 (drop (k + 1) s.fifo.waiting))) (judgement s now k).first_above) (first_of_rest (k + 1) s.fifo.waiting)
    ∙ ap (λ xs. judged s now (slice_get s.fifo.waiting (k + 1)) (bytes_of xs) (judgement s now k).first_above) (drop-drop 1 (k + 1) s.fifo.waiting)
    ∙ rw (add-one k) refl

next_due : (s : CodelState) (k : ℕ) (ok : Bool) → cond ok (drop_due s k + gap_of s.interval (count_after_drops s.count (k + 1))) (drop_due s k) ≡ drop_due s (cond ok (k + 1) (k + 1 - 1))
next_due s k true = rw (add-one k) refl
next_due s k false = let back : k + 1 - 1 ≡ k = omega arith in rw back refl

due_none : (s : CodelState) (ok : Bool) → s.drop_next ≡ drop_due s (cond ok 0 (0 - 1))
due_none s true = refl
due_none s false = refl

by_test : (ok : Bool) (now drop_due : ℕ) → (ok ≡ true → now < drop_due) → (not ok || nat_lt now drop_due) ≡ true
by_test true now drop_due lt = lt-ltb now drop_due (lt refl)
by_test false now drop_due lt = refl

pub stops_at : (s : CodelState) (now k : ℕ) → ((judgement s now k).ok ≡ true → now < drop_due s k) → stops s now k ≡ true
stops_at s now k lt = by_test (judgement s now k).ok now (drop_due s k) lt

pub goes_on : (s : CodelState) (now k : ℕ) → (judgement s now k).ok ≡ true → drop_due s k ≤ now → stops s now k ≡ false
goes_on s now k ok le = rw ok (le-ltb now (drop_due s k) le)

-- one drop more leads from k drops to k + 1
pub next_is : (s : CodelState) (now k : ℕ) → (judgement s now k).ok ≡ true → after_drop (so_far s now k) now ≡ so_far s now (k + 1)
next_is s now k ok =
    let j : judgement (so_far s now k) now 0 ≡ judgement s now (k + 1) = next_judged s now k in
    let c : count_after_drops (count_after_drops s.count k) 1 ≡ count_after_drops s.count (k + 1) = omega arith in
    let waiting = drop-drop 1 (k + 1) s.fifo.waiting in
    let d = next_due s k (judgement s now (k + 1)).ok in
    rw ok (cc)

-- a packet that may be dropped is one
late_is_some : (s : CodelState) (now left : ℕ) (f : Option ℕ) (h : Option Stamped) → (judged s now h left f).ok ≡ true → (x : Stamped) × (h ≡ Some x)
late_is_some s now left f None e = absurd (cc)
late_is_some s now left f (Some x) e = (x, refl)

some_judged : (s : CodelState) (now k : ℕ) → (judgement s now k).ok ≡ true → (x : Stamped) × (slice_get s.fifo.waiting k ≡ Some x)
some_judged s now zero e = late_is_some s now _ _ _ e
some_judged s now (suc k) e = late_is_some s now _ _ _ e

due_at : (s : CodelState) (now k : ℕ) → (judgement s now k).ok ≡ true → (so_far s now k).drop_next ≡ drop_due s k
due_at s now k ok = ap (λ b. drop_due s (cond b k (k - 1))) ok

-- before the first drop
begins : (s : CodelState) (now : ℕ) → s.count ≤ 4294967295 → after_one s now ≡ so_far s now 0
begins s now most =
    let c : s.count ≡ count_after_drops s.count 0 = omega arith in
    let d = due_none s (judgement s now 0).ok in
    cc

pub first_so_far : (s : CodelState) (now : ℕ) (start : List Stamped) (q : CodelState) (cell : Option Stamped) (ok : Bool) →
    s.count ≤ 4294967295 → q ≡ after_one s now → cell ≡ slice_get s.fifo.waiting 0 → ok ≡ (judgement s now 0).ok → IsSoFar s now start start q cell ok 0
first_so_far s now start q cell ok most q_is cell_is ok_is = record {
  state = q_is ∙ begins s now most;
  taken = cell_is;
  judged = ok_is;
  dropped = sym (append-nil start);
  before = λ j lt. absurd (omega arith);
  within = omega arith;
}

-- one drop more
pub more_so_far : (s : CodelState) (now : ℕ) (start chain : List Stamped) (q : CodelState) (cell : Option Stamped) (ok : Bool) (k : ℕ) →
    IsSoFar s now start chain q cell ok k → ok ≡ true → q.drop_next ≤ now →
    (chain' : List Stamped) (q' : CodelState) (cell' : Option Stamped) (ok' : Bool) →
    cell' ≡ slice_get q.fifo.waiting 0 → ok' ≡ (judgement q now 0).ok → IfSome cell (λ x. chain' ≡ chain ++ x ∷ []) → q' ≡ after_drop q now →
    IsSoFar s now start chain' q' cell' ok' (k + 1)
more_so_far s now start chain q cell ok k i is_ok is_due chain' q' cell' ok' cell_is ok_is chain_is q_is =
    let late : (judgement s now k).ok ≡ true = sym i.judged ∙ is_ok in
    let some = some_judged s now k late in
    let pushed : chain' ≡ chain ++ some.0 ∷ [] = rw (i.taken ∙ some.1) at chain_is in
    record {
      state = q_is ∙ ap (λ r. after_drop r now) i.state ∙ next_is s now k late;
      taken = cell_is ∙ ap (λ (r : CodelState). slice_get r.fifo.waiting 0) i.state ∙ first_of_rest (k + 1) s.fifo.waiting;
      judged = ok_is ∙ ap (λ r. (judgement r now 0).ok) i.state ∙ ap (λ (j : Judgement). j.ok) (next_judged s now k);
      dropped = pushed ∙ ap (λ xs. xs ++ some.0 ∷ []) i.dropped ∙ append_assoc start (take k s.fifo.waiting) (some.0 ∷ []) ∙ ap (λ xs. start ++ xs) (sym (rw (add-one k) (taken_more k s.fifo.waiting some.0 some.1)));
      before = below_more _ _ i.before (let at : q.drop_next ≡ drop_due s k = ap (λ (r : CodelState). r.drop_next) i.state ∙ due_at s now k late in goes_on s now k late (rw at at is_due));
      within = let lt : k < length s.fifo.waiting = slice_get_within s.fifo.waiting k some.0 some.1 in omega arith;
    }

-- k packets dropped, the one behind them given
abbrev pub ended_as : CodelState → ℕ → Option Stamped → CodelState → Bool → CodelTaken
ended_as s k cell q ok = record { dropped = take k s.fifo.waiting; given = cell; queue = record q { dropping = ok } }

-- where the drops stop
pub ended : (s : CodelState) (now : ℕ) (start chain : List Stamped) (q : CodelState) (cell : Option Stamped) (ok : Bool) (k : ℕ) →
    IsSoFar s now start chain q cell ok k → s.dropping ≡ true → (ok ≡ true → now < q.drop_next) → codel_taken s now ≡ ended_as s k cell q ok
ended s now start chain q cell ok k i dropping late =
    let at : (judgement s now k).ok ≡ true → now < drop_due s k = λ e. let d : q.drop_next ≡ drop_due s k = ap (λ (r : CodelState). r.drop_next) i.state ∙ due_at s now k e in rw d at (late (i.judged ∙ e)) in
    let is : drops s now ≡ k = drops_is s now k i.within i.before (stops_at s now k at) in
    taken_in_drop_state s now dropping
    ∙ ap (λ n. handed_out s n (after_drops s now n)) is
    ∙ ap (λ cell'. ended_as s k cell' (so_far s now k) (judgement s now k).ok) (sym i.taken)
    ∙ ap (λ r. ended_as s k cell r (judgement s now k).ok) (sym i.state)
    ∙ ap (λ b. ended_as s k cell q b) (sym i.judged)
