use Rattle.std.proofs.Common.{ap, sym, ◌∙◌, List, ◌≡◌, ℕ}
use Rattle.std.proofs.lemmas.Result.{err_from_is_err_and}
use Rattle.window_core.specs.Group.{GroupValue}
use Rattle.window_core.specs.Window.{WindowValue, states_of}
use Rattle.window_core.specs.Windows.{all_done}
use Rattle.window_workers.specs.Laid.{HasFullGroup}
use Rattle.window_workers.proofs.Meant.{pieces_meant}
use Rattle.window_workers.proofs.Laying.{come_back, all_are_done}
use Rattle.window_workers.proofs.TooMany.{pieces_full}
use Rattle.window_workers.proofs.apart.run_apart.Goals as goal

pub put_groups-requires-clause-fired : goal.put_groups-requires-clause-fired
put_groups-requires-clause-fired g c =
    let lent_is = ap (λ (w : WindowValue). w.groups) c.take_groups.ensures.state ∙ sym c.take_groups.ensures.groups in
    let ends : c.take_groups.new.self.until ≡ c.end-end.result = ap (λ (w : WindowValue). w.until) c.take_groups.ensures.state ∙ sym c.end-end.ensures in
    let back = c.in_ok-groups.ensures.done in
    let fired = come_back c.end-end.result c.take_groups.result.items c.in_ok-pieces.pieces.items back.got c.in_ok-groups.groups.items c.in_ok-pieces.ensures back.done back.groups_are back.after in
    rw (lent_is, ends) fired

pub returns-clause-done : goal.returns-clause-done
returns-clause-done g c =
    let until_is = ap (λ (w : WindowValue). w.until) c.put_groups.ensures.state ∙ ap (λ (w : WindowValue). w.until) c.take_groups.ensures.state in
    let groups_are = ap (λ (w : WindowValue). w.groups) c.put_groups.ensures.state in
    let ends : c.put_groups.new.self.until ≡ c.end-end.result = until_is ∙ sym c.end-end.ensures in
    let back = c.in_ok-groups.ensures.done in
    let done = all_are_done c.end-end.result c.take_groups.result.items c.in_ok-pieces.pieces.items back.got c.in_ok-groups.groups.items c.in_ok-pieces.ensures back.done back.groups_are in
    record {
      inside = ap (λ (w : WindowValue). w.out) c.put_groups.ensures.state;
      until = until_is;
      position = ap (λ (w : WindowValue). w.position) c.put_groups.ensures.state ∙ ap (λ (w : WindowValue). w.position) c.take_groups.ensures.state;
      from = λ edge f. c.put_groups.ensures.from edge (c.take_groups.ensures.from edge f);
      done =
          ap (λ (e : ℕ). all_done e (states_of c.put_groups.new.self.groups)) ends
          ∙ ap (λ (gs : List GroupValue). all_done c.end-end.result (states_of gs)) groups_are
          ∙ done;
    }

pub returns-in_err-groups-clause-fault : goal.returns-in_err-groups-clause-fault
returns-in_err-groups-clause-fault g c =
    let w = c.args.window.now in
    let p = err_from_is_err_and c.from_residual-in_err-groups.result c.from_residual-in_err-groups.ensures.1 in
    rw (p.1, p.2) (pieces_meant c.args.job.now.workers (HasFullGroup w) c.in_err-groups.field-0.0 c.args.job.now.several
    (λ is. pieces_full w c.end-end.result c.take_groups.result.items c.in_ok-pieces.pieces.items c.take_groups.ensures.groups c.end-end.ensures c.in_ok-pieces.ensures (c.in_err-groups.ensures.full is)))
