-- Counts by the reasons for which packets are dropped.
use Rattle.std.proofs.Common.{◌≡◌, ◌≢◌, ◌<◌, ◌≤◌, ℕ, ◌+◌, cond, List, [], ◌∷◌, ◌++◌, length, map, refl, sym, ap, subst, ◌∙◌, arith, ⊎_elim}
use Rattle.std.specs.Prelude.{slice_index, slice_set}
use Rattle.std.specs.List.{sum_by}
use Rattle.std.proofs.lemmas.Bool.{cases_eq}
use Rattle.std.proofs.lemmas.List.{get_or-set_same, get_or-set_other}
use Rattle.std.proofs.lemmas.List.Sums.{sum_by-cons}
use Rattle.aqm.specs.declared.drop_reason.DropReason.{DropReason}
use Rattle.aqm.specs.DropReasons.{all_reasons}
use Rattle.aqm.proofs.Reasons.{one_more_at}
use Rattle.port.specs.declared.acts.Act.{Act}
use Rattle.port.specs.declared.acts.Act.TheVariants.{Tx, Dropped}
use Rattle.figures.specs.Moments.{Moment}
use Rattle.figures.specs.Links.{is_for, acts_at, dropped_in, dropped_of, drops_of, all_dropped_of, with_drops}
use Rattle.figures.proofs.Turns.{sum_more}

pub sums_added : {A : Type 0} (f g : A → ℕ) (xs : List A) → sum_by (λ x. f x + g x) xs ≡ sum_by f xs + sum_by g xs
sums_added f g [] = refl
sums_added f g (x ∷ xs) =
    let rest = sums_added f g xs in
    let both = sum_by-cons (λ y. f y + g y) x xs in
    let a = sum_by-cons f x xs in
    let b = sum_by-cons g x xs in
    omega (arith, rest, both, a, b)

-- counts that are known for each reason, and the acts of an event
pub with_drops_are : (f : DropReason → ℕ) (acts : List Act) → with_drops (map f all_reasons) acts ≡ map (λ reason. f reason + dropped_in reason acts) all_reasons
with_drops_are f [] = λ i. map (λ reason. none (f reason) i) all_reasons
  where
    none : (n : ℕ) → n ≡ n + 0
    none n = omega arith
with_drops_are f (Tx link packet ∷ acts) = with_drops_are f acts ∙ (λ i. map (λ reason. f reason + same reason i) all_reasons)
  where
    same : (reason : DropReason) → dropped_in reason acts ≡ dropped_in reason (Tx link packet ∷ acts)
    same reason = let more = sum_by-cons (λ (a : Act). cond {A = ℕ} (is_for reason a) 1 0) (Tx link packet) acts in omega (arith, more)
with_drops_are f (Dropped link why packet ∷ acts) =
    ap (λ counts. with_drops counts acts) (one_more_at f why)
    ∙ with_drops_are (λ reason. f reason + cond {A = ℕ} (is_for reason (Dropped link why packet)) 1 0) acts
    ∙ (λ i. map (λ reason. same reason i) all_reasons)
  where
    same : (reason : DropReason) → f reason + cond {A = ℕ} (is_for reason (Dropped link why packet)) 1 0 + dropped_in reason acts ≡ f reason + dropped_in reason (Dropped link why packet ∷ acts)
    same reason = let more = sum_by-cons (λ (a : Act). cond {A = ℕ} (is_for reason a) 1 0) (Dropped link why packet) acts in omega (arith, more)

-- a count that is raised by one
pub one_more_most : (xs ys : List ℕ) (i k : ℕ) → i < length xs → ((j : ℕ) → slice_index xs j ≤ slice_index ys j + k) → (j : ℕ) → slice_index (slice_set xs i (slice_index xs i + 1)) j ≤ slice_index ys j + (k + 1)
one_more_most xs ys i k within most j =
    ⊎_elim
    (λ (same : j ≡ i).
    let at = get_or-set_same xs i (slice_index xs i + 1) 0 within in
    let here = most i in
    subst (λ n. slice_index (slice_set xs i (slice_index xs i + 1)) n ≤ slice_index ys n + (k + 1)) (sym same) (omega (arith, at, here)))
    (λ (other : j ≢ i).
    let at = get_or-set_other xs i j (slice_index xs i + 1) 0 other in
    let there = most j in
    omega (arith, at, there))
    (cases_eq j i)

-- so they are one event on
pub drops_more : (node index : ℕ) (ms : List Moment) (m : Moment) → with_drops (drops_of node index ms) (acts_at node index m) ≡ drops_of node index (ms ++ m ∷ [])
drops_more node index ms m =
    with_drops_are (λ reason. dropped_of reason node index ms) (acts_at node index m)
    ∙ (λ i. map (λ reason. sym (sum_more (λ (n : Moment). dropped_in reason (acts_at node index n)) ms m) i) all_reasons)

pub all_drops_more : (node index : ℕ) (ms : List Moment) (m : Moment) → all_dropped_of node index (ms ++ m ∷ []) ≡ all_dropped_of node index ms + sum_by (λ reason. dropped_in reason (acts_at node index m)) all_reasons
all_drops_more node index ms m =
    ap (λ (f : DropReason → ℕ). sum_by f all_reasons) (λ i reason. sum_more (λ (n : Moment). dropped_in reason (acts_at node index n)) ms m i)
    ∙ sums_added (λ reason. dropped_of reason node index ms) (λ reason. dropped_in reason (acts_at node index m)) all_reasons
