-- What holds of what is left of a list.
use Rattle.std.proofs.Common.{◌≡◌, ℕ, zero, suc, Bool, true, false, cond, [], ◌∷◌, ◌++◌, ◌+◌, ◌<◌, ◌≤◌, List, length, get_or, sym, subst, arith, ⊎_elim}
use Rattle.std.proofs.lemmas.Bool.{cases_lt}
use Rattle.std.proofs.lemmas.List.{get_or_default}
use Rattle.std.proofs.lemmas.List.Edits.{length-remove, get_or-remove_below, get_or-remove_above}
use Rattle.std.proofs.lemmas.List.Elements.{All-append}
use Rattle.std.specs.List.{All, Contains, remove}
use Rattle.table_run.specs.State.{State}
use Rattle.net_machine.specs.Run.{Reached}
use Rattle.debugger.specs.Moves.{Passes}
use Rattle.debugger.specs.DebuggerOf.{AreCheckpoints}

-- what holds of each holds of each but one
pub all_but_one : {A : Type 0} (P : A → Type 0) (xs : List A) (i : ℕ) → i < length xs → All P xs → All P (remove xs i)
all_but_one P xs i within all k d under =
    let size = length-remove xs i within in
    ⊎_elim
    (λ (before : k < i). subst P (sym (get_or-remove_below xs i d k before within)) (all k d (omega (arith, before, within))))
    (λ (after : i ≤ k). subst P (sym (get_or-remove_above xs i d k after within)) (all (k + 1) d (omega (arith, under, size))))
    (cases_lt k i)

-- each is among them
pub all_contained : {A : Type 0} (xs : List A) → All (Contains xs) xs
all_contained xs k d under = (k, under, same)
  where
    same : get_or xs k (get_or xs k d) ≡ get_or xs k d
    same = get_or_default xs k (get_or xs k d) d under

-- what holds of each of a list holds of each that is in it
pub all_of : {A : Type 0} (P : A → Type 0) (xs ys : List A) → All P xs → All (Contains xs) ys → All P ys
all_of P xs ys all among k d under =
    let there = among k d under in
    subst P there.2 (all there.0 (get_or ys k d) there.1)

-- a state of a run, not past a target
abbrev pub Reaches : State → ℕ → Reached → Type 0
Reaches start target at = Passes start at × (at.position ≤ target)

-- with one more, or not
pub all_put : {A : Type 0} (P : A → Type 0) (xs : List A) (x : A) (b : Bool) → All P xs → P x → All P (cond b (xs ++ x ∷ []) xs)
all_put P xs x false all one = all
all_put P xs x true all one = All-append P xs (x ∷ []) all only
  where
    only : All P (x ∷ [])
    only zero d under = one
    only (suc k) d under = absurd (omega (arith, under))

-- states are saved of a run from this start
pub record Held (start : State) (initial : Reached) (later : List Reached) : Type 0 where
  pub checkpoints : AreCheckpoints initial later
  pub begins : initial.state ≡ start

-- and still are with a copy of a state of the run put to them, or not
pub with_copy : (start : State) (initial copy net : Reached) (later new : List Reached) (put : Bool) → Held start initial later → copy ≡ net → Passes start net → new ≡ cond put (later ++ copy ∷ []) later → AreCheckpoints initial new
with_copy start initial copy net later new put held same here is =
    let one = subst (λ (s : State). Passes s copy) (sym held.begins) (subst (Passes start) (sym same) here) in
    record { at_start = held.checkpoints.at_start; on_run = subst (λ (xs : List Reached). All (Passes initial.state) xs) (sym is) (all_put (Passes initial.state) later copy put held.checkpoints.on_run one) }
