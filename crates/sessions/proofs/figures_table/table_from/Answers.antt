use Rattle.std.proofs.Common.{◌≡◌, Err, IfErr, sym, subst, rules}
use Rattle.sessions.specs.FiguresOutput.{IsRunFault}
use Rattle.sessions.proofs.Figured.{count_refused, table_there}
use Rattle.sessions.proofs.figures_table.table_from.Goals as goal

pub returns-in_err-count_reported-clause-faults : goal.returns-in_err-count_reported-clause-faults
returns-in_err-count_reported-clause-faults g c =
    let p = c.args.scenario.now in
    let fault = c.in_err-count_reported.field-0.0 in
    let is : c.from_residual-in_err-count_reported.result ≡ Err fault = search rules in
    subst (λ r. IfErr r (IsRunFault p)) (sym is) (count_refused p c.count_reported.new.counter.net fault (c.count_reported.ensures.come p c.in_ok-counter.ensures.opened) c.in_err-count_reported.ensures.faults)

pub run_text-requires : goal.run_text-requires
run_text-requires g c =
    let p = c.args.scenario.now in
    let counted = c.in_ok-count_reported.ensures.counted p c.in_ok-counter.ensures.opened in
    record { base = counted.base; of = counted.of }

pub returns-clause-table : goal.returns-clause-table
returns-clause-table g c =
    let p = c.args.scenario.now in
    table_there c.args.column.now p c.args.moment c.count_reported.new.counter.figures c.count_reported.new.counter.net c.in_ok-text.text.items (c.in_ok-count_reported.ensures.counted p c.in_ok-counter.ensures.opened) c.count_reported.ensures.fits c.in_ok-count_reported.ensures.ended c.in_ok-text.ensures
