use Rattle.std.proofs.Common.{◌<◌, arith}
use Rattle.node_core.specs.Row.{data_packet}
use Rattle.node_core.proofs.Runs.{run_last}
use Rattle.node_core.proofs.cells.run_but_last.Goals as goal

pub returns : goal.returns
returns c =
    let run = c.args.run in
    let some : 0 < run.count = omega (arith, c.if-run-eq0.false) in
    run_last (data_packet c.args.origin.flow c.args.mss) c.in_ok-cells.cells c.segment-last.result run.first c.args.mss run.count some c.in_ok-cells.ensures c.segment-last.ensures
