use Rattle.std.proofs.Common.{None, map, refl, ap, ◌∙◌, arith, append-nil}
use Rattle.reno_sender.specs.declared.fields.SenderFields.{SenderFields}
use Rattle.reno_sender.specs.PlanView.{sent_of}
use Rattle.node_core.specs.Links.{packets_of}
use Rattle.node_core.specs.Row.{data_packet}
use Rattle.node_core.proofs.Runs.{few_in_cells, few_sent, read_all, read_run}
use Rattle.node_core.proofs.sender_node.send_plan.Goals as goal

pub segments-requires-clause-mss : goal.segments-requires-clause-mss
segments-requires-clause-mss c = omega (arith, ap (λ (s : SenderFields). s.mss) c.as_fields.ensures.value, c.as_fields.ensures.well_made.sound.mss_most)

pub segments-requires-clause-numbers : goal.segments-requires-clause-numbers
segments-requires-clause-numbers c =
    let all = read_all c.args.plan.now c.as_fields.ensures.well_made c.as_fields.result.now.mss c.first.result c.count-2.result (ap (λ (s : SenderFields). s.mss) c.as_fields.ensures.value) c.first.ensures.value c.count-2.ensures.value in
    omega (arith, all)

pub segments-requires-clause-few : goal.segments-requires-clause-few
segments-requires-clause-few c = omega (arith, c.count-2.ensures.value, c.count-2.ensures.well_made.few)

pub commit_lent-requires : goal.commit_lent-requires
commit_lent-requires c = c.requires

pub returns-clause-sends : goal.returns-clause-sends
returns-clause-sends c =
    let plan = c.args.plan.now in
    let f = data_packet c.args.origin.flow plan.fields.mss in
    let cells = c.in_ok-cells.cells in
    let sent = append-nil (packets_of cells) ∙ c.in_ok-cells.ensures
    ∙ read_run c.args.origin.flow plan c.as_fields.result.now c.resent.result c.first.result c.count-2.result (λ n. n) c.as_fields.ensures.value c.resent.ensures.value c.first.ensures.value c.count-2.ensures.value in
    record {
      sent = sent;
      timer_is = refl;
      time_is = ap (λ (s : SenderFields). s.deadline) c.as_fields-2.ensures.value;
      room_for = omega (arith, few_sent f plan, c.in_ok-reserve.ensures.ok, c.count.ensures.value);
      few = omega (arith, few_in_cells cells None (map f (sent_of plan)) sent, few_sent f plan, c.count.ensures.well_made.few);
      in_cells = λ e. refl;
    }
