-- What a window answers, by what became of its pieces.
use Rattle.std.specs.Prelude.{◌≡◌, ◌⊎◌, ◌<◌, ℕ, Bool, true, false, All, List, [], ◌∷◌, map, length, slice_get, Option, Some, None, option_map, if◌then◌else◌}
use Rattle.std.specs.Option.{option_or}
use Rattle.node_group.specs.declared.group.GroupFault.{GroupFault}
use Rattle.node_group.specs.declared.group.GroupFault.TheVariants as group
use Rattle.window_core.specs.GroupFaults.{IsFaultAt}
use Rattle.window_core.specs.Group.{GroupValue, AfterFirings}
use Rattle.work_board.specs.Pieces.{PieceState, IsDone, IsSettled}
use Rattle.work_board.specs.Seats.{Began}
use Rattle.work_board.specs.declared.slot.Slot.{Slot}
use Rattle.work_board.specs.declared.slot.Slot.TheVariants.{Finished, Waiting, Out}
use Rattle.window_workers.specs.declared.fault.WorkersFault.{WorkersFault}
use Rattle.window_workers.specs.declared.fault.WorkersFault.TheVariants.{NoMemory, CountFull, Failed}

-- each piece is done, and began as the one laid in its place
pub record AllDone (laid got : List PieceState) : Type 0 where
  pub count : length got ≡ length laid
  pub each : (i : ℕ) (q : PieceState) → slice_get got i ≡ Some q → Began laid i q × IsDone q

-- so, and these are their groups, each after firings of its own below its piece's end
pub record AllRan (laid : List PieceState) (groups : List GroupValue) : Type 0 where
  pub got : List PieceState
  pub done : AllDone laid got
  pub after : All (λ (p : PieceState). AfterFirings p.end p.began p.group) got
  pub groups_are : groups ≡ map (λ (p : PieceState). p.group) got

-- a piece did not come back
abbrev pub any_out : List Slot → Bool
any_out [] = false
any_out (Finished q ∷ slots) = any_out slots
any_out (Waiting q ∷ slots) = any_out slots
any_out (Out ∷ slots) = true

-- the fault of the first piece that is refused
abbrev pub first_refusal : List Slot → Option GroupFault
first_refusal [] = None
first_refusal (Finished q ∷ slots) = option_or q.fault (first_refusal slots)
first_refusal (Waiting q ∷ slots) = first_refusal slots
first_refusal (Out ∷ slots) = first_refusal slots

-- the finished pieces
abbrev pub finished_of : List Slot → List PieceState
finished_of [] = []
finished_of (Finished q ∷ slots) = q ∷ finished_of slots
finished_of (Waiting q ∷ slots) = finished_of slots
finished_of (Out ∷ slots) = finished_of slots

abbrev pub as_fault : GroupFault → WorkersFault
as_fault group.NoMemory = NoMemory
as_fault group.CountFull = CountFull

-- a piece that did not come back counts before a refusal, and of several refusals the first
abbrev pub slots_fault : List Slot → Option WorkersFault
slots_fault slots = if any_out slots then Some Failed else option_map as_fault (first_refusal slots)

-- no piece is left waiting
abbrev pub NoneWaits : List Slot → Type 0
NoneWaits slots = (i : ℕ) (q : PieceState) → slice_get slots i ≡ Some (Waiting q) → ⊥

-- a slot came of the piece laid in its place
abbrev pub CameOf : List PieceState → ℕ → Slot → Type 0
CameOf laid i (Finished q) = Began laid i q × IsSettled q
CameOf laid i (Waiting q) = ⊥
CameOf laid i Out = Unit {0}

-- the pieces came back, or some did not, and this is their fault
pub record StoppedBy (laid : List PieceState) (e : WorkersFault) : Type 0 where
  pub slots : List Slot
  pub count : length slots ≡ length laid
  pub each : (i : ℕ) (x : Slot) → slice_get slots i ≡ Some x → CameOf laid i x
  pub fault : slots_fault slots ≡ Some e

-- memory was refused, or the pieces say it
abbrev pub IsPiecesFault : List PieceState → WorkersFault → Type 0
IsPiecesFault laid e = (e ≡ NoMemory) ⊎ StoppedBy laid e

-- a piece was refused since the count is full: its group stands after firings of its own below the piece's end, with one more event due
pub record IsFull (q : PieceState) : Type 0 where
  pub full : IsFaultAt q.end q.group group.CountFull
  pub after : AfterFirings q.end q.began q.group

-- so was one of those that came back
pub record SomeFull (slots : List Slot) : Type 0 where
  pub place : ℕ
  pub piece : PieceState
  pub at : slice_get slots place ≡ Some (Finished piece)
  pub full : IsFull piece

-- and so was one that began as the piece laid in its place
pub record SomeLaidFull (laid : List PieceState) : Type 0 where
  pub place : ℕ
  pub piece : PieceState
  pub began : Began laid place piece
  pub full : IsFull piece

-- what a fault of so many workers means: that the count is full is told only where this is so, and where one worker runs no piece can stay out
abbrev pub IsWorkersFault : ℕ → Type 0 → WorkersFault → Type 0
IsWorkersFault workers Full NoMemory = Unit {0}
IsWorkersFault workers Full CountFull = Full
IsWorkersFault workers Full Failed = 1 < workers
