-- Pieces that are refused since there are as many events as there may be.
use Rattle.std.proofs.Common.{◌≡◌, ℕ, suc, List, ◌∷◌, slice_get, Option, Some, None, Result, Ok, Err, IfErr, IfSome, refl, ap, subst, ◌∙◌}
use Rattle.std.specs.Option.{option_or}
use Rattle.node_group.specs.declared.group.GroupFault.{GroupFault}
use Rattle.node_group.specs.declared.group.GroupFault.TheVariants as group
use Rattle.window_core.specs.GroupFaults.{IsFaultAt}
use Rattle.window_core.specs.Group.{AfterFirings}
use Rattle.work_board.specs.Pieces.{PieceState, IsReported}
use Rattle.work_board.specs.Seats.{Began, Tells}
use Rattle.work_board.specs.declared.view.View.{View}
use Rattle.work_board.specs.declared.slot.Slot.{Slot}
use Rattle.work_board.specs.declared.slot.Slot.TheVariants.{Finished}
use Rattle.window_workers.specs.WindowOutcomes.{SomeFull, SomeLaidFull, as_fault}
use Rattle.window_workers.specs.declared.fault.WorkersFault.{WorkersFault}
use Rattle.window_workers.specs.declared.fault.WorkersFault.TheVariants.{CountFull}

-- each slot that is left is one of all
abbrev pub AreAmong : List Slot → List Slot → Type 0
AreAmong rest all = (i : ℕ) (x : Slot) → slice_get rest i ≡ Some x → (j : ℕ) × (slice_get all j ≡ Some x)

pub among_rest : (all rest more : List Slot) (x : Slot) → rest ≡ x ∷ more → AreAmong rest all → AreAmong more all
among_rest all rest more x is among i y at = among (suc i) y (ap (λ (l : List Slot). slice_get l (suc i)) is ∙ at)

among_first : (all rest more : List Slot) (x y : Slot) → rest ≡ x ∷ more → x ≡ y → AreAmong rest all → (j : ℕ) × (slice_get all j ≡ Some y)
among_first all rest more x y is kind among = among 0 y (ap (λ (l : List Slot). slice_get l 0) is ∙ ap (λ (z : Slot). Some z) kind)

-- a refusal of the count so far is of a finished piece
abbrev pub IsOfFull : Option GroupFault → List Slot → Type 0
IsOfFull refusal all = refusal ≡ Some group.CountFull → SomeFull all

full_or : (all : List Slot) (refusal : Option GroupFault) (q : PieceState) → IsOfFull refusal all → (j : ℕ) × (slice_get all j ≡ Some (Finished q)) → IsReported q → AfterFirings q.end q.began q.group → IsOfFull (option_or refusal q.fault) all
full_or all (Some f) q was at reported after e = was e
full_or all None q was at reported after e = record { place = at.0; piece = q; at = at.1; full = record { full = subst (λ (o : Option GroupFault). IfSome o (IsFaultAt q.end q.group)) e reported; after = after } }

-- one finished piece more
pub full_more : (all rest more : List Slot) (x : Slot) (refusal : Option GroupFault) (q : PieceState) → rest ≡ x ∷ more → x ≡ Finished q → AreAmong rest all → IsOfFull refusal all → IsReported q → AfterFirings q.end q.began q.group
    → IsOfFull (option_or refusal q.fault) all
full_more all rest more x refusal q is kind among was reported after = full_or all refusal q was (among_first all rest more x (Finished q) is kind among) reported after

count_of : (f : GroupFault) → as_fault f ≡ CountFull → f ≡ group.CountFull
count_of group.NoMemory e = let x : ⊥ = cc in absurd x
count_of group.CountFull e = refl

-- where a finished piece is full, the piece laid in its place was
laid_full : (laid : List PieceState) (v : View) (slots : List Slot) → v.laid ≡ laid → ((i : ℕ) (x : Slot) → slice_get slots i ≡ Some x → Tells v i x) → SomeFull slots → SomeLaidFull laid
laid_full laid v slots reported tells some =
    let t : Tells v some.place (Finished some.piece) = tells some.place (Finished some.piece) some.at in
    record { place = some.place; piece = some.piece; began = subst (λ (l : List PieceState). Began l some.place some.piece) reported t.0; full = some.full }

pub fault_full : {T : Type 0} (r : Result T WorkersFault) (laid : List PieceState) (v : View) (slots : List Slot) → v.laid ≡ laid → ((i : ℕ) (x : Slot) → slice_get slots i ≡ Some x → Tells v i x)
    → IfErr r (λ e. e ≡ CountFull → SomeFull slots) → IfErr r (λ e. e ≡ CountFull → SomeLaidFull laid)
fault_full (Ok x) laid v slots reported tells full = tt
fault_full (Err e) laid v slots reported tells full = λ is. laid_full laid v slots reported tells (full is)
