use Rattle.std.proofs.Common.{◌≡◌, ◌+◌, ◌-◌, ◌<◌, ◌++◌, ◌∷◌, [], List, length, map, ap, ◌∙◌, arith, length-append}
use Rattle.packet_chain.specs.Stamped.{Stamped}
use Rattle.reno_sender.specs.Sending.{spaced}
use Rattle.node_core.specs.Links.{packets_of}
use Rattle.node_core.specs.Row.{data_packet}
use Rattle.node_core.proofs.Runs.{number_fits, one_made}
use Rattle.node_core.proofs.cells.push_run.Goals as goal

pub loop-made-preserved : goal.loop-made-preserved
loop-made-preserved c =
    let kept = c.loop-made.invariant in
    let within : c.loop-made._made < c.args.count = c.loop-made-test.true in
    let f = data_packet c.args.origin.flow c.args.mss in
    let pushed : length c.push_back.new.self ≡ length (c.loop-made.cells ++ c.in_ok-cell.cell ∷ []) = ap length c.push_back.ensures in
    record {
      numbers = number_fits c.loop-made.number c.args.mss c.loop-made._made c.args.count _ within kept.numbers;
      longer = omega (arith, pushed, length-append c.loop-made.cells (c.in_ok-cell.cell ∷ []), kept.longer);
      whole = ap (λ (q : List Stamped). packets_of q ++ map f (spaced (c.loop-made.number + c.args.mss) c.args.mss (c.args.count - (c.loop-made._made + 1)))) c.push_back.ensures
          ∙ one_made f c.loop-made.cells c.in_ok-cell.cell c.loop-made.number c.args.mss c.loop-made._made c.args.count within (c.in_ok-cell.ensures ∙ c.segment.ensures)
          ∙ kept.whole;
    }
