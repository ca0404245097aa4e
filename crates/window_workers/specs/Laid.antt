-- The pieces that are laid out for a window's groups, and the groups that come back.
use Rattle.std.specs.Prelude.{◌≡◌, ◌<◌, ℕ, Bool, length, true, false, min, None, Result, IfOk, IfErr}
use Rattle.node_group.specs.declared.group.GroupFault.TheVariants.{CountFull}
use Rattle.table_run.specs.State.{State}
use Rattle.window_core.specs.Full.{HasTooMany}
use Rattle.window_core.specs.GroupFaults.{IsFaultAt}
use Rattle.window_core.specs.Group.{GroupValue, AfterFirings}
use Rattle.window_core.specs.Window.{WindowValue, IsFrom, states_of, value_at}
use Rattle.window_core.specs.Windows.{all_done}
use Rattle.work_board.specs.Pieces.{PieceState}
use Rattle.window_workers.specs.declared.fault.WorkersFault.{WorkersFault}
use Rattle.window_workers.specs.Edges.{StaysNet, reached_in}
use Rattle.window_workers.specs.WindowOutcomes.{IsWorkersFault}

-- the piece of a group that has not run
abbrev pub laid_for : ℕ → GroupValue → PieceState
laid_for end g = record { end = end; began = g; group = g; fault = None }

-- a window's groups ran up to its end, and none has an event left below: it is still one that opened where it did
pub record HasRun (old new : WindowValue) : Type 0 where
  pub inside : new.out ≡ false
  pub until : new.until ≡ old.until
  pub position : new.position ≡ old.position
  pub from : (edge : State) → IsFrom edge old → IsFrom edge new
  pub done : all_done new.until (states_of new.groups) ≡ true

-- a group of a window, after some firings of its own, has an event left below the window's end, and with its lines the run has as many events as there may be
pub record HasFullGroup (v : WindowValue) : Type 0 where
  pub number : ℕ
  pub group : GroupValue
  pub within : number < length v.groups
  pub after : AfterFirings v.until (value_at v.groups number) group
  pub full : IsFaultAt v.until group CountFull

-- a window's groups ran up to its end or a bound, and none has an event left below: it is still one that opened where it did
pub record IsDoneBy (until : ℕ) (old new : WindowValue) : Type 0 where
  pub inside : new.out ≡ false
  pub end_is : new.until ≡ min old.until until
  pub position : new.position ≡ old.position
  pub from : (edge : State) → IsFrom edge old → IsFrom edge new
  pub done : all_done new.until (states_of new.groups) ≡ true

-- workers ran a window's groups so, or it is as it was
abbrev pub HasRunOr : Bool → ℕ → WindowValue → WindowValue → Type 0
HasRunOr true until old new = IsDoneBy until old new
HasRunOr false until old new = new ≡ old

-- what so many workers leave of a window that they were to run up to its end or a bound, and what their fault means
pub record HasRunBy (workers until : ℕ) (old : WindowValue) (r : Result Bool WorkersFault) (new : WindowValue) : Type 0 where
  pub ran : IfOk r (λ ran. HasRunOr ran until old new)
  pub stays : StaysNet old new
  pub fault : IfErr r (IsWorkersFault workers (HasTooMany (reached_in old)))
