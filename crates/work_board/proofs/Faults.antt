-- What a run's answer tells of the piece.
use Rattle.std.proofs.Common.{◌≡◌, ℕ, Option, Result, Ok, Err, IfErr, sym, subst}
use Rattle.std.specs.Result.{result_err}
use Rattle.window_core.specs.GroupFaults.{IsFaultAt}
use Rattle.window_core.specs.Group.{GroupValue}
use Rattle.node_group.specs.declared.group.GroupFault.{GroupFault}
use Rattle.work_board.specs.Pieces.{PieceState, IsReported}

abbrev ran : ℕ → GroupValue → GroupValue → Option GroupFault → PieceState
ran end began g fault = record { end = end; began = began; group = g; fault = fault }

pub reported : {T : Type 0} (r : Result T GroupFault) (end : ℕ) (began g : GroupValue) (fault : Option GroupFault) → fault ≡ result_err r → IfErr r (IsFaultAt end g) → IsReported (ran end began g fault)
reported (Ok x) end began g fault is at = subst (λ (f : Option GroupFault). IsReported (ran end began g f)) (sym is) tt
reported (Err f) end began g fault is at = subst (λ (f : Option GroupFault). IsReported (ran end began g f)) (sym is) at
