use Rattle.std.proofs.Common.{◌∙◌, sym, arith}
use Rattle.window_workers.specs.Edges.{edge_of}
use Rattle.window_engine.proofs.Resting.{next_is, none_pending, none_before}
use Rattle.window_engine.proofs.run_state.RunState.next.Goals as goal

pub returns-in_err-time-clause-none : goal.returns-in_err-time-clause-none
returns-in_err-time-clause-none c _ =
    let v = c.args.self.now.window in
    none_pending (edge_of v) (sym (next_is v c.requires.edge c.position-began.ensures.is_window) ∙ sym c.next.ensures ∙ c.in_err-time.was)

pub returns-then-time-self-clause-next : goal.returns-then-time-self-clause-next
returns-then-time-self-clause-next c =
    let v = c.args.self.now.window in
    sym (next_is v c.requires.edge c.position-began.ensures.is_window) ∙ sym c.next.ensures ∙ c.in_ok-time.was

pub returns-else-time-self-clause-none : goal.returns-else-time-self-clause-none
returns-else-time-self-clause-none c _ =
    let v = c.args.self.now.window in
    none_before (edge_of v) v.end c.in_ok-time.time (sym (next_is v c.requires.edge c.position-began.ensures.is_window) ∙ sym c.next.ensures ∙ c.in_ok-time.was)
    (omega (arith, c.if-time-self.false, c.requires.end))
