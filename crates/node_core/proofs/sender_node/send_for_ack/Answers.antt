use Rattle.std.proofs.Common.{◌≡◌, true, ◌+◌, ◌*◌, ◌<◌, ◌++◌, ℕ, length, map, refl, sym, ap, subst, ◌∙◌, arith}
use Rattle.std.specs.Prelude.{IfOk, option_to_list}
use Rattle.reno_sender.specs.declared.fields.SenderFields.{SenderFields}
use Rattle.reno_sender.specs.Sending.{Planned, spaced}
use Rattle.reno_sender.specs.Table.{acknowledged}
use Rattle.reno_sender.proofs.AckRuns.{run_mss, run_sent, run_ends, run_few}
use Rattle.node_core.specs.declared.timer.Timer.TheVariants.{Retransmission}
use Rattle.node_core.specs.Decided.{IsSent, OnSend}
use Rattle.node_core.specs.Links.{packets_of}
use Rattle.node_core.specs.Row.{data_packet}
use Rattle.node_core.proofs.Runs.{few_in_cells, few_run, flow_fits}
use Rattle.node_core.proofs.sender_node.send_for_ack.Goals as goal

pub run_but_last-requires-clause-numbers : goal.run_but_last-requires-clause-numbers
run_but_last-requires-clause-numbers c =
    let f = c.args.sender.now in
    let run = c.in-Some.run' in
    let sound = c.as_fields.ensures.sound in
    let ends = run_ends f c.args.number c.args.now run sound c.requires.moment c.requires.ack c.in-Some.ensures in
    subst (λ (s : SenderFields). run.first + run.count * s.mss < 9223372036854775808) (sym c.as_fields.ensures.value) (omega (arith, ends, flow_fits f sound))

pub returns-clause-sends : goal.returns-clause-sends
returns-clause-sends c =
    let f = c.args.sender.now in
    let run = c.in-Some.run' in
    let flow = c.args.origin.flow in
    let sound = c.as_fields.ensures.sound in
    let done = acknowledged f c.args.number c.args.now in
    let packets = map (data_packet flow done.fields.mss) done.sent in
    let all : packets ≡ map (data_packet flow f.mss) (spaced run.first f.mss run.count) =
    ap (λ (m : ℕ). map (data_packet flow m) done.sent) (run_mss f c.args.number c.args.now run sound c.requires.moment c.requires.ack c.in-Some.ensures)
    ∙ ap (map (data_packet flow f.mss)) (run_sent f c.args.number c.args.now run sound c.requires.moment c.requires.ack c.in-Some.ensures) in
    let sent : packets_of c.in_ok-cells.cells ++ option_to_list c.in_ok-cells.last ≡ packets =
    c.in_ok-cells.ensures ∙ ap (λ (s : SenderFields). map (data_packet flow s.mss) (spaced run.first s.mss run.count)) c.as_fields.ensures.value ∙ sym all in
    let many : length packets ≡ run.count = ap length all ∙ few_run (data_packet flow f.mss) run.first f.mss run.count in
    let few = run_few f c.args.number c.args.now run sound c.requires.moment c.requires.ack c.in-Some.ensures in
    record {
      sent = sent;
      timer_is = refl;
      time_is = c.deadline.ensures.value ∙ ap (λ (s : SenderFields). s.deadline) c.take_run.ensures;
      room_for = omega (arith, many, c.in_ok-reserve.ensures.ok);
      few = omega (arith, few_in_cells c.in_ok-cells.cells c.in_ok-cells.last packets sent, many, few);
      in_cells = λ e. absurd (cc);
    }

pub returns-in_default-clause-sends : goal.returns-in_default-clause-sends
returns-in_default-clause-sends c =
    subst (λ (p : Planned). IfOk c.send_behind.result (OnSend (IsSent true (map (data_packet c.args.origin.flow p.fields.mss) p.sent) Retransmission p.fields.deadline c.send_behind.new.acts.room)))
    c.on_ack-plan.ensures.planned c.send_behind.ensures.sends
