use Rattle.std.proofs.Common.{◌≡◌, ◌∙◌, ◌+◌, ◌-◌, sym, ap, subst, length, arith, true, false}
use Rattle.packet_chain.specs.Stamped.{bytes_of}
use Rattle.sim_time.specs.ControlLaw.{gap_of}
use Rattle.aqm.specs.Codel.{CodelState}
use Rattle.aqm.proofs.Foreseen.{IsForeseen, is_late, first_foreseen, more_foreseen, stops_foreseen, all_foreseen, is_left}
use Rattle.aqm.proofs.codel.Codel.drops_due.Goals as goal
use Rattle.aqm.proofs.codel.Codel.drops_due.Goals.{then-now-due-via-then-now-due, then-now-due-via-else-now-due+then-not-is_above_target}

pub loop-packet-init : goal.loop-packet-init
loop-packet-init c = (
  tt,
  tt,
  first_foreseen c.args.self.now c.args.now _ _ _ _ c.requires.sound.count_most
      (c.into_iter-packet-iterator.ensures.into_iter_gives ∙ c.packets-packet-items.ensures.rest ∙ ap (λ (s : CodelState). s.fifo.waiting) c.self.view_is)
      (c.bytes-left.ensures ∙ ap (λ (s : CodelState). bytes_of s.fifo.waiting) c.self.view_is)
      (ap (λ (s : CodelState). s.drop_next) c.self.view_is)
      (ap (λ (s : CodelState). s.count) c.self.view_is),
)

pub overflow_sub-left : goal.overflow_sub-left
overflow_sub-left c =
    let here = subst (IsForeseen c.args.self.now c.args.now c.loop-packet.dropped c.loop-packet.left c.loop-packet.due c.loop-packet.count) c.in-Some.ensures.steps c.loop-packet.invariant.2 in
    let left = is_left _ _ _ _ _ _ _ _ here in
    omega arith

pub returns-then-now-due : goal.returns-then-now-due
returns-then-now-due c =
    let here = subst (IsForeseen c.args.self.now c.args.now c.loop-packet.dropped c.loop-packet.left c.loop-packet.due c.loop-packet.count) c.in-Some.ensures.steps c.loop-packet.invariant.2 in
    let size = c.from-left.ensures ∙ c.get.ensures.value in
    let early = ap (λ b. is_late c.args.self.now c.args.now c.in-Some.entered (c.loop-packet.left - b)) size in
    stops_foreseen _ _ _ _ _ _ _ _ c.requires.above here
    (elim c.then-now-due.branch [
      | then-now-due-via-then-now-due w ↦ λ e. w.if-now-due.true
      | then-now-due-via-else-now-due+then-not-is_above_target w ↦ λ e. let never : false ≡ true = sym w.if-not-is_above_target.true ∙ w.is_above_target.ensures ∙ early ∙ e in absurd (cc)
    ])

pub overflow_add-dropped : goal.overflow_add-dropped
overflow_add-dropped c =
    let within = c.loop-packet.invariant.2.within in
    let some = ap length c.in-Some.ensures.steps in
    let room = c.requires.sound.fifo.room in
    let most = c.requires.sound.fifo.most in
    record { fits = omega arith }

pub loop-packet-preserved : goal.loop-packet-preserved
loop-packet-preserved c =
    let here = subst (IsForeseen c.args.self.now c.args.now c.loop-packet.dropped c.loop-packet.left c.loop-packet.due c.loop-packet.count) c.in-Some.ensures.steps c.loop-packet.invariant.2 in
    let size = c.from-left.ensures ∙ c.get.ensures.value in
    let late = ap (λ b. is_late c.args.self.now c.args.now c.in-Some.entered (c.loop-packet.left - b)) (sym size) ∙ sym c.is_above_target.ensures ∙ c.if-not-is_above_target.false in
    let gap_is = c.gap-due.ensures.value ∙ ap (λ (s : CodelState). gap_of s.interval c.saturating_add-count.result) c.self.view_is in (
      tt,
      tt,
      subst (λ b. IsForeseen c.args.self.now c.args.now (c.loop-packet.dropped + 1) (c.loop-packet.left - b) (c.loop-packet.due + c.gap-due.result) c.saturating_add-count.result c.next.new.self) (sym size)
          (more_foreseen _ _ _ _ _ _ _ _ c.requires.above here c.if-now-due.false late _ _ c.saturating_add-count.ensures gap_is),
    )

pub returns : goal.returns
returns c = all_foreseen _ _ _ _ _ _ (subst (IsForeseen c.args.self.now c.args.now c.loop-packet.dropped c.loop-packet.left c.loop-packet.due c.loop-packet.count) c.in-None.ensures.steps.0 c.loop-packet.invariant.2)
