use Rattle.std.proofs.Common.{◌≡◌, ◌<◌, ◌≤◌, ℕ, Option, MatchOption, subst}
use Rattle.sessions.specs.RowLimit.{row_limit}
use Rattle.sessions.proofs.RowLimits.{few_rows, rows_faults}
use Rattle.sessions.proofs.row_limit.check_rows.Goals as goal

pub returns-clause-few : goal.returns-clause-few
returns-clause-few g c =
    let p = c.args.scenario.now in
    let from = c.args.row_steps.from in
    let every = c.args.row_steps.every in
    let is = subst (λ (o : Option ℕ). MatchOption o (p.end < row_limit p from every) (λ limit. (limit ≡ row_limit p from every) × (limit ≤ p.end))) c.in-Some.is c.row_limit.ensures in
    few_rows p from every c.in-Some.limit c.stop_at-stopped.result is.0 (c.stop_at-stopped.ensures.done p c.in_ok-counter.ensures.opened)

pub returns-clause-faults : goal.returns-clause-faults
returns-clause-faults g c =
    let p = c.args.scenario.now in
    let from = c.args.row_steps.from in
    let every = c.args.row_steps.every in
    let is = subst (λ (o : Option ℕ). MatchOption o (p.end < row_limit p from every) (λ limit. (limit ≡ row_limit p from every) × (limit ≤ p.end))) c.in-Some.is c.row_limit.ensures in
    rows_faults p from every c.in-Some.limit c.stop_at-stopped.result is.0 is.1 (c.stop_at-stopped.ensures.faults p c.in_ok-counter.ensures.opened)
