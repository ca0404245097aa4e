use Rattle.std.proofs.Common.{◌≡◌, ◌+◌, ◌++◌, ◌∙◌, sym, ap, ◌≤◌}
use Rattle.aqm.specs.Codel.{CodelState}
use Rattle.aqm.specs.Taken.{CodelTaken, codel_taken}
use Rattle.aqm.proofs.SoFar.{first_so_far, more_so_far, ended, ended_as}
use Rattle.aqm.proofs.codel.Codel.take_dropping.Goals as goal
use Rattle.aqm.proofs.codel.Codel.take_dropping.Goals.{then-loop-head-test+else-self-now, else-loop-head-test}

pub loop-head-init : goal.loop-head-init
loop-head-init c = (0, first_so_far _ _ _ _ _ _ c.requires.sound.count_most c.take_head-head.ensures.state c.take_head-head.ensures.cell c.take_head-head.ensures.ok)

pub loop-head-preserved : goal.loop-head-preserved
loop-head-preserved c =
    let at : c.self.inside.drop_next ≡ c.loop-head.self.drop_next = ap (λ (r : CodelState). r.drop_next) c.self.view_is in
    let come : c.loop-head.self.drop_next ≤ c.args.now = rw at at c.if-self-now.true in (
      c.loop-head.invariant.0 + 1,
      more_so_far _ _ _ _ _ _ _ _ c.loop-head.invariant.1 c.loop-head-test.true come _ _ _ _ c.drop_head-head.ensures.cell c.drop_head-head.ensures.ok c.drop_head-head.ensures.dropped c.drop_head-head.ensures.state,
    )

ended_here : (c : goal.After-self-1) → codel_taken c.args.self.now c.args.now ≡ ended_as c.args.self.now c.loop-head.invariant.0 c.loop-head.head.cell c.loop-head.self c.loop-head.head.ok
ended_here c =
    let at : c.self.inside.drop_next ≡ c.loop-head.self.drop_next = ap (λ (r : CodelState). r.drop_next) c.self.view_is in
    ended _ _ _ _ _ _ _ _ c.loop-head.invariant.1 c.requires.dropping
    (elim c.loop-head-test.branch [ then-loop-head-test+else-self-now w ↦ λ e. rw at at w.if-self-now.false | else-loop-head-test w ↦ λ e. absurd (cc) ])

pub returns-clause-given : goal.returns-clause-given
returns-clause-given c = ap (λ (t : CodelTaken). t.given) (sym (ended_here c))

pub returns-clause-dropped : goal.returns-clause-dropped
returns-clause-dropped c = c.loop-head.invariant.1.dropped ∙ ap (λ (t : CodelTaken). c.args.dropped.now ++ t.dropped) (sym (ended_here c))

pub returns-clause-state : goal.returns-clause-state
returns-clause-state c = ap (λ (q : CodelState). record q { dropping = c.loop-head.head.ok }) c.self-2.view_is ∙ ap (λ (t : CodelTaken). t.queue) (sym (ended_here c))
