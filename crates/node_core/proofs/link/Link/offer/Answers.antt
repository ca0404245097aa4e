use Rattle.std.proofs.Common.{◌≡◌, ◌+◌, ◌≤◌, ◌++◌, ◌∷◌, List, length, sym, ap, subst, ◌∙◌, arith, length-append}
use Rattle.packet_chain.specs.Stamped.{Stamped}
use Rattle.port.specs.declared.acts.Act.{Act}
use Rattle.port.specs.Laws.{NothingWaitsWhereIdle}
use Rattle.port.specs.Port.{PortState, offered_one, offered_all, departed}
use Rattle.port.proofs.CodelLaws.{offerings_drop_nothing}
use Rattle.node_core.specs.Links.{packets_of}
use Rattle.node_core.proofs.Offers.{IsLeft, Fits, left_one, fits_one, few_acts, still_nothing, offered_counts_one}
use Rattle.node_core.proofs.link.Link.offer.Goals as goal

pub send-requires : goal.send-requires
send-requires c =
    let kept = c.loop-cell.invariant in
    let longer : length c.loop-cell.cells ≡ length (c.in-Some.cell ∷ c.pop_front.new.self) = ap length c.in-Some.ensures in
    let none = offerings_drop_nothing c.args.now c.loop-cell.self-inside.port c.in-Some.cell.0 kept.idle in
    record {
      moment = c.requires.moment;
      room = omega (arith, none, longer, kept.room);
      sent = omega (arith, kept.fits.sent_most);
      offered = omega (arith, kept.counted);
      chain = omega (arith, kept.fits.out_most);
    }

pub loop-cell-preserved : goal.loop-cell-preserved
loop-cell-preserved c =
    let kept = c.loop-cell.invariant in
    let now = c.args.now in
    let old = c.loop-cell.self-inside.port in
    let packet = c.in-Some.cell.0 in
    let step = offered_one now old packet in
    let all = offered_all now c.args.self.now.port (packets_of c.args.cells) in
    let last_out = c.args.out.now ++ departed all.departure in
    let last_acts = c.args.acts.now.acts ++ all.acts in
    let longer : length c.loop-cell.cells ≡ length (c.in-Some.cell ∷ c.pop_front.new.self) = ap length c.in-Some.ensures in
    let was : IsLeft now old c.loop-cell.out c.loop-cell.acts.acts (packet ∷ packets_of c.pop_front.new.self) all.port last_out last_acts =
    subst (λ (q : List Stamped). IsLeft now old c.loop-cell.out c.loop-cell.acts.acts (packets_of q) all.port last_out last_acts) c.in-Some.ensures kept.left in
    let one = left_one now old c.loop-cell.out c.loop-cell.acts.acts packet (packets_of c.pop_front.new.self) all.port last_out last_acts was in
    let few : length step.acts ≤ 1 = few_acts now old packet kept.idle in
    let acts : length c.send.new.acts.acts ≡ length c.loop-cell.acts.acts + length step.acts = ap length c.send.ensures.acts ∙ length-append c.loop-cell.acts.acts step.acts in
    record {
      left = subst (λ (p : PortState). IsLeft now p c.send.new.out c.send.new.acts.acts (packets_of c.pop_front.new.self) all.port last_out last_acts) (sym c.send.ensures.state)
          (subst (λ (o : List Stamped). IsLeft now step.port o c.send.new.acts.acts (packets_of c.pop_front.new.self) all.port last_out last_acts) (sym c.send.ensures.departed)
          (subst (λ (a : List Act). IsLeft now step.port (c.loop-cell.out ++ departed step.departure) a (packets_of c.pop_front.new.self) all.port last_out last_acts) (sym c.send.ensures.acts) one));
      idle = subst NothingWaitsWhereIdle (sym c.send.ensures.state) (still_nothing now old packet kept.idle);
      fits = subst (λ (p : PortState). Fits p (length c.send.new.out)) (sym c.send.ensures.state)
          (subst (λ (o : List Stamped). Fits step.port (length o)) (sym c.send.ensures.departed) (fits_one now old packet c.loop-cell.out kept.fits));
      room = omega (arith, longer, few, acts, c.send.ensures.places, kept.room);
      counted = omega (arith, longer, ap (λ (p : PortState). p.offered) c.send.ensures.state, offered_counts_one now old packet, kept.counted);
      same = kept.same;
    }
