-- No receiver has more than all bytes of its flow.
use Rattle.std.proofs.Common.{◌≡◌, ◌*◌, ap, ◌∙◌, arith}
use Rattle.reno_receiver.specs.Received.{next_of}
use Rattle.table_run.specs.Flow.{next_at, received_next}
use Rattle.table_run.proofs.RunLaws.{sound_run}
use Rattle.figures.specs.Laws.{DeliveredIsOfTheFlow}

pub delivered_is_of_the_flow : DeliveredIsOfTheFlow
delivered_is_of_the_flow p n lines s is_scenario comes number flow its =
    let ends = (sound_run p n lines s is_scenario comes).sound.each_flow number flow its in
    let next : received_next s flow ≡ next_of ends.received = ap next_at ends.receiver_role in
    let all : ends.fields.segments * ends.fields.mss ≡ flow.segments * flow.mss = ap (λ m. ends.fields.segments * m) ends.its_mss ∙ ap (λ k. k * flow.mss) ends.its_segments in
    omega (arith, next, all, ends.next_sent, ends.sound.high_total)
