use Rattle.std.proofs.Common.{◌<◌, length, ap, sym, subst}
use Rattle.breakpoints.specs.Breaks.{IsTakenOut}
use Rattle.debugger.specs.Debugging.{Debugging}
use Rattle.debugger.proofs.moves.Debugger.delete_break.Goals as goal

pub delete-requires : goal.delete-requires
delete-requires c = subst (λ (d : Debugging). c.args.index < length d.breaks) (sym c.self.view_is) c.requires

pub invariant_of-self : goal.invariant_of-self
invariant_of-self c = record { moves = record { shown = c.self.invariant.moves.shown; left = c.self.invariant.moves.left }; nodes = c.self.invariant.nodes }

pub returns-clause-same : goal.returns-clause-same
returns-clause-same c =
    let start = ap (λ (d : Debugging). d.start) c.self.view_is in
    let shown = ap (λ (d : Debugging). d.shown) c.self.view_is in
    let left = ap (λ (d : Debugging). d.left) c.self.view_is in
    let workers = ap (λ (d : Debugging). d.workers) c.self.view_is in
    λ i. record { start = start i; shown = shown i; left = left i; breaks = c.delete.new.self; workers = workers i }

pub returns-clause-taken : goal.returns-clause-taken
returns-clause-taken c = subst (λ (d : Debugging). IsTakenOut d.breaks c.delete.new.self c.args.index c.delete.result) c.self.view_is c.delete.ensures
