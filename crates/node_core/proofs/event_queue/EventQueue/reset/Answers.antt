use Rattle.std.proofs.Common.{ap, ◌∙◌}
use Rattle.node_core.specs.Timers.{timer_number}
use Rattle.node_core.specs.Passing.{moved_to}
use Rattle.node_core.proofs.Steps.{renewed}
use Rattle.node_core.proofs.event_queue.EventQueue.reset.Goals as goal

pub returns : goal.returns
returns c =
    c.move_timer.ensures ∙ ap (λ n. moved_to c.args.self.now n c.args.time) c.number.ensures
    ∙ renewed c.args.self.now c.args.key (timer_number c.args.timer) c.args.time c.requires.at_node c.requires.timer
