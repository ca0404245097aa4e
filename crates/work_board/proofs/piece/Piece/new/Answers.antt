use Rattle.std.proofs.Common.{◌≤◌, refl, sym, subst, None}
use Rattle.node_group.specs.Group.{GroupValue, AfterFirings}
use Rattle.work_board.specs.Pieces.{IsReported}
use Rattle.work_board.proofs.piece.Piece.new.Goals as goal

pub invariant_of-result : goal.invariant_of-result
invariant_of-result c =
    let same = sym c.of-began.ensures in
    let reported : IsReported record { end = c.args.end; began = c.args.group; group = c.args.group; fault = None } = tt in (
      subst (λ (g : GroupValue). c.args.end ≤ g.until) same c.requires.within,
      subst (λ (g : GroupValue). AfterFirings c.args.end g c.args.group) same record { times = 0; state = refl; rest = refl; seats_stay = refl; from_others = λ link under off. refl; wires_stay = refl },
      subst (λ (g : GroupValue). IsReported record { end = c.args.end; began = g; group = c.args.group; fault = None }) same reported,
    )
