use Rattle.std.proofs.Common.{ap, arith, ◌∙◌}
use Rattle.std.proofs.lemmas.Result.{err_from_is_err_and}
use Rattle.window_core.specs.Full.{HasTooMany}
use Rattle.window_core.specs.Window.{WindowValue}
use Rattle.window_workers.specs.Edges.{reached_in}
use Rattle.window_workers.specs.Laid.{HasFullGroup}
use Rattle.window_workers.proofs.Meant.{meant_more}
use Rattle.window_workers.proofs.TooMany.{group_full}
use Rattle.window_workers.proofs.several.SeveralHands.run_shared.Goals as goal

pub returns-in_err-run_apart-clause-ran : goal.returns-in_err-run_apart-clause-ran
returns-in_err-run_apart-clause-ran g c =
    let v = c.args.window.now in let w = c.limit.new.self in
    let p = err_from_is_err_and c.from_residual.result c.from_residual.ensures.1 in
    let state = c.limit.ensures.state in
    let stays = c.run_apart.ensures.stays in
    rw (p.1, p.2) record {
      ran = tt;
      stays = record { entries = stays.entries ∙ ap (λ (x : WindowValue). x.entries) state; ahead = stays.ahead ∙ ap (λ (x : WindowValue). x.ahead) state; end = stays.end ∙ ap (λ (x : WindowValue). x.end) state };
      fault =
          meant_more c.args.job.now.workers c.args.job.now.workers (HasFullGroup w) (HasTooMany (reached_in v)) c.in_err-run_apart.field-0.0 (omega arith)
          (λ full. group_full v w c.requires.edge c.position-began.ensures.is_window c.position-limited.ensures.is_window c.limit.ensures.from (ap (λ (x : WindowValue). x.position) state) full) c.in_err-run_apart.ensures.fault;
    }
