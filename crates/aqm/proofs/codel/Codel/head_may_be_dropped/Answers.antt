use Rattle.std.proofs.Common.{◌≡◌, ◌∙◌, ◌-◌, sym, ap}
use Rattle.packet_chain.specs.Stamped.{bytes_of}
use Rattle.aqm.specs.Codel.{CodelState}
use Rattle.aqm.proofs.Foreseen.{is_late, head_is}
use Rattle.aqm.proofs.codel.Codel.head_may_be_dropped.Goals as goal

pub returns-in-Some : goal.returns-in-Some
returns-in-Some c =
    let same = ap (λ (s : CodelState). s.fifo.waiting) c.self.view_is in
    let waiting = sym same ∙ sym c.packets.ensures.rest ∙ c.in-Some.ensures.steps in
    let whole : c.bytes.result ≡ bytes_of c.args.self.now.fifo.waiting = c.bytes.ensures ∙ ap bytes_of same in
    c.is_above_target.ensures
    ∙ ap (λ b. is_late c.args.self.now c.args.now c.in-Some.entered (b - c.from.result)) whole
    ∙ ap (λ b. is_late c.args.self.now c.args.now c.in-Some.entered (bytes_of c.args.self.now.fifo.waiting - b)) (c.from.ensures ∙ c.get.ensures.value)
    ∙ sym (head_is c.args.self.now c.args.now (c.in-Some.packet, c.in-Some.entered) c.next.new.self c.requires.above waiting)
