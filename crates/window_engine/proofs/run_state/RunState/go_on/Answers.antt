use Rattle.std.proofs.Common.{arith, ap, refl, subst, sym, min, ◌∙◌, ◌≡◌, ◌+◌, ◌≤◌, None, ℕ, List}
use Rattle.window_core.specs.Partition.{groups_of}
use Rattle.window_core.specs.Sheaves.{merged}
use Rattle.window_core.specs.Windows.{AreBelow}
use Rattle.window_engine.specs.declared.run_state.WriteFault.TheVariants.{Workers}
use Rattle.window_workers.specs.declared.fault.WorkersFault.TheVariants.{NoMemory}
use Rattle.window_engine.specs.declared.run_state.RunState.{RunState}
use Rattle.window_text.specs.declared.text.Text.{Text}
use Rattle.window_text.specs.Failures.{failures_after}
use Rattle.window_text.specs.PendingText.{text_pending}
use Rattle.window_text.specs.Parts.{IsReady, text_of}
use Rattle.window_text.specs.Text.{text_from}
use Rattle.window_engine.specs.RunStates.{IsBehind}
use Rattle.window_workers.specs.Edges.{reached_in}
use Rattle.window_engine.proofs.Called.{broken, failed_after, gone_on, stopped_after}
use Rattle.window_engine.proofs.Grouped.{groups_on}
use Rattle.window_engine.proofs.Unwritten.{all_committed}
use Rattle.window_engine.proofs.Whole.{below_later}
use Rattle.window_engine.proofs.Writing.{wrote_no_more}
use Rattle.window_engine.proofs.run_state.RunState.go_on.Goals as goal

pub returns-in_default-clause-ended : goal.returns-in_default-clause-ended
returns-in_default-clause-ended g c =
    let a = c.args in
    let w = c.requires.writing.writing in
    let at = g.S.Sink.contents a.sink.now in
    broken a.call.now.until a.call.now.began.value (record a.self.now { window = a.writing.now.window.value }) a.writing.now.written (g.S.Sink.contents a.call.now.known.value) at w a.call.now.workers.workers a.self.now at (Workers NoMemory) (g.S.Sink.failures a.call.now.known.value) (g.S.Sink.failures a.sink.now) (g.S.Sink.failures a.sink.now)
    (wrote_no_more a.call.now.until w.net a.self.now.position at w.behind.committed, tt) (λ is. absurd (cc)) c.requires.writing.failures_are refl refl refl

pub returns-in-Ok-put-clause-ended : goal.returns-in-Ok-put-clause-ended
returns-in-Ok-put-clause-ended g c =
    let a = c.args in
    let contents = g.S.Sink.contents in
    let failures = g.S.Sink.failures in
    let new = record a.self.now { window = c.finish.new.window; sheaf = c.finish.new.lines; position = a.self.now.position + c.len.result } in
    let text = ap (λ (t : Text). text_of t.formatters.items t.places.items) c.swap.ensures.y_after ∙ c.in-Ok.ensures.is in
    let fault = c.in-Err.ensures.fault in
    let took = c.in-Ok-put.ensures in
    rw c.engine_fault.ensures
    (stopped_after a.call.now.until a.call.now.began.value (record a.self.now { window = a.writing.now.window.value }) a.writing.now.written (contents a.call.now.known.value) (contents a.sink.now) c.requires.writing.writing a.call.now.workers.workers (text_of c.swap.new.y.formatters.items c.swap.new.y.places.items) c.len.result c.in-Ok-put.field-0 new (contents c.put.new.sink) c.in-Err.fault (failures a.call.now.known.value) (failures a.sink.now) (failures c.put.new.sink)
    text c.len.ensures refl took.ok took.count took.few fault c.requires.writing.failures_are (c.put.ensures.failures ∙ ap (λ r. failures_after r (failures a.sink.now)) c.in-Ok-put.is) refl refl)

pub returns-in-Err-put-clause-ended : goal.returns-in-Err-put-clause-ended
returns-in-Err-put-clause-ended g c =
    let a = c.args in
    let contents = g.S.Sink.contents in
    let failures = g.S.Sink.failures in
    let new = record a.self.now { window = c.finish.new.window; sheaf = c.finish.new.lines; position = a.self.now.position + c.len.result } in
    let text = ap (λ (t : Text). text_of t.formatters.items t.places.items) c.swap.ensures.y_after ∙ c.in-Ok.ensures.is in
    let broke = c.in-Err-put.ensures in
    failed_after a.call.now.until a.call.now.began.value (record a.self.now { window = a.writing.now.window.value }) a.writing.now.written (contents a.call.now.known.value) (contents a.sink.now) c.requires.writing.writing a.call.now.workers.workers (text_of c.swap.new.y.formatters.items c.swap.new.y.places.items) c.len.result c.in-Err-put.count new (contents c.put.new.sink) (failures a.call.now.known.value) (failures a.sink.now) (failures c.put.new.sink)
    text c.len.ensures refl broke.err broke.few_before c.requires.writing.failures_are (c.put.ensures.failures ∙ ap (λ r. failures_after r (failures a.sink.now)) c.in-Err-put.is) refl refl

pub returns-clause-some : goal.returns-clause-some
returns-clause-some g c time next =
    let more = c.in-Ok-finish.ensures.turned.some time next in
    let at = c.in-Ok-finish.ensures.turned.gone.position in
    let here = ap (λ (x : RunState). x.window.position) c.choose.ensures in
    omega (arith, more, at, here)

pub returns-clause-owing : goal.returns-clause-owing
returns-clause-owing g c =
    let a = c.args in
    let w = c.requires.writing.writing in
    let now = a.writing.now.window.value in
    let was = record a.self.now { window = now } in
    let contents = g.S.Sink.contents in
    let then = record a.self.now { window = c.finish.new.window; sheaf = c.finish.new.lines } in
    let ran = c.in-Ok-finish.ensures.turned in
    let stays = c.finish.ensures.stays in
    let upto = c.requires.bound in
    let gone = ran.gone in
    let lines = c.len.result in
    let whole = c.in-Ok.ensures in
    let behind : IsBehind (reached_in now) (record then { position = then.position + lines }) =
    record {
      edge = ran.edge;
      gone = gone;
      committed = all_committed w.net was w.behind (then.position + lines) (ap (λ n. then.position + n) c.len.ensures);
      few = c.position-turned.ensures.is_window.split.fits;
      end = w.behind.end ∙ sym stays.end;
      groups = subst (λ (l : List ℕ). groups_of l ≤ 64) (sym stays.entries) w.behind.groups;
    }
    in
    let early : AreBelow a.call.now.until (merged c.finish.new.lines).lines = below_later (min now.until a.plan.now.bound) a.call.now.until (merged c.finish.new.lines).lines (omega (arith, upto)) ran.early in
    let text : text_pending (record { text = c.swap.new.y; lines = lines; put = None }) ≡ text_from a.self.now.sheaf.first (merged a.self.now.sheaf).lines = ap (λ (t : Text). text_of t.formatters.items t.places.items) c.swap.ensures.y_after ∙ whole.is in
    let has = groups_on was then (merged c.finish.new.lines).lines w.has refl stays gone.is_run gone.position in
    record {
      owing = gone_on a.call.now.until a.call.now.began.value was a.writing.now.written (contents a.call.now.known.value) (contents a.sink.now) w (text_pending (record { text = c.swap.new.y; lines = lines; put = None })) lines then c.choose.new.self text c.len.ensures refl refl refl behind early has c.choose.ensures;
      ready = subst IsReady (sym c.swap.ensures.y_after) whole.ready;
      waits = refl;
      failures_are = c.requires.writing.failures_are;
    }
