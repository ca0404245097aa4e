use Rattle.window_core.proofs.Taken.{turned_unfired}
use Rattle.window_core.proofs.window.Window.turn_if_done.Goals as goal

pub returns-in-Ok-clause-run : goal.returns-in-Ok-clause-run
returns-in-Ok-clause-run c edge from = c.in-Ok.ensures.run edge from

pub returns-in-Ok-clause-unfired : goal.returns-in-Ok-clause-unfired
returns-in-Ok-clause-unfired c =
    let old = c.args.self.now in
    let v = c.turn_over.new.self in
    turned_unfired old record v { taken = old.taken } v.taken c.in-Ok.ensures.ok
