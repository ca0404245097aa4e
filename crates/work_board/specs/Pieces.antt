-- What a clause sees of a piece.
use Rattle.std.specs.Prelude.{◌≡◌, ℕ, Option, None, IsSome, IfSome, ◌⊎◌}
use Rattle.table_run.specs.State.{due}
use Rattle.window_core.specs.GroupFaults.{IsFaultAt}
use Rattle.window_core.specs.Groups.{up_to}
use Rattle.window_core.specs.Group.{GroupValue, state_of}
use Rattle.node_group.specs.declared.group.GroupFault.{GroupFault}

-- where it ends, the group as the piece began, the group now, and why it stopped before the end
pub record PieceState : Type 0 where
  pub end : ℕ
  pub began : GroupValue
  pub group : GroupValue
  pub fault : Option GroupFault

-- the piece q began as p, with the same end
abbrev pub BeganAs : PieceState → PieceState → Type 0
BeganAs p q = (q.end ≡ p.end) × (q.began ≡ p.began)

-- no event below the end is left
abbrev pub IsDone : PieceState → Type 0
IsDone p = due (up_to p.end (state_of p.group)) ≡ None

-- its group stopped before the end
abbrev pub IsRefused : PieceState → Type 0
IsRefused p = IsSome p.fault

-- done or refused
abbrev pub IsSettled : PieceState → Type 0
IsSettled p = IsDone p ⊎ IsRefused p

-- a fault is told where an event is still due: that the count is full where it is, and want of memory elsewhere
abbrev pub IsReported : PieceState → Type 0
IsReported p = IfSome p.fault (IsFaultAt p.end p.group)
