use Rattle.std.proofs.Common.{map, refl, ap, arith}
use Rattle.reno_sender.specs.declared.fields.SenderFields.{SenderFields}
use Rattle.reno_sender.specs.PlanView.{sent_of}
use Rattle.node_core.specs.Row.{data_packet}
use Rattle.node_core.proofs.Runs.{few_in_cells, few_sent}
use Rattle.node_core.proofs.sender_node.send_behind.Goals as goal

pub commit_lent-requires : goal.commit_lent-requires
commit_lent-requires c = c.requires

pub returns-clause-sends : goal.returns-clause-sends
returns-clause-sends c =
    let plan = c.args.plan.now in
    let f = data_packet c.args.origin.flow plan.fields.mss in
    record {
      sent = c.in_ok-cells.ensures;
      timer_is = refl;
      time_is = ap (λ (s : SenderFields). s.deadline) c.as_fields.ensures.value;
      room_for = omega (arith, few_sent f plan, c.in_ok-reserve.ensures.ok, c.count.ensures.value);
      few = omega (arith, few_in_cells c.in_ok-cells.cells c.in_ok-cells.last (map f (sent_of plan)) c.in_ok-cells.ensures, few_sent f plan, c.count.ensures.well_made.few);
      in_cells = λ e. absurd (cc);
    }
