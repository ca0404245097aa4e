use Rattle.std.proofs.Common.{ap}
use Rattle.debugger.specs.Debugging.{Debugging}
use Rattle.debugger.proofs.moves.Debugger.clear_breaks.Goals as goal

pub invariant_of-self : goal.invariant_of-self
invariant_of-self c = record { moves = record { shown = c.self.invariant.moves.shown; left = c.self.invariant.moves.left }; nodes = c.self.invariant.nodes }

pub returns : goal.returns
returns c =
    let start = ap (λ (d : Debugging). d.start) c.self.view_is in
    let shown = ap (λ (d : Debugging). d.shown) c.self.view_is in
    let left = ap (λ (d : Debugging). d.left) c.self.view_is in
    let workers = ap (λ (d : Debugging). d.workers) c.self.view_is in
    λ i. record { start = start i; shown = shown i; left = left i; breaks = c.clear.ensures i; workers = workers i }
