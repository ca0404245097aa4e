use Rattle.std.proofs.Common.{◌≡◌, ◌∙◌, refl, sym, subst, arith}
use Rattle.table_run.specs.State.{State}
use Rattle.debugger.specs.Backwards.{NoneStops, FindsLast}
use Rattle.debugger.specs.Moves.{Passes, HasPosition, IsTooLong}
use Rattle.debugger.proofs.Walks.{has_earlier}
use Rattle.debugger.proofs.Backward.{nothing_yet, none_further, goes_there, goes_to_0}
use Rattle.debugger.proofs.backwards.stop_upto.Goals as goal

pub loop-last-init : goal.loop-last-init
loop-last-init c = record { same = refl; within = omega arith; none = nothing_yet c.args.checkpoints.now c.args.breaks.now c.args.upto }

pub search_before-requires-clause-on_run : goal.search_before-requires-clause-on_run
search_before-requires-clause-on_run c = subst (λ (s : State). Passes s c.args.present.now) (sym c.loop-last.invariant.same) c.requires.on_run

pub search_before-requires-clause-some : goal.search_before-requires-clause-some
search_before-requires-clause-some c = omega (arith, c.loop-last-test.true)

pub search_before-requires-clause-position : goal.search_before-requires-clause-position
search_before-requires-clause-position c =
    let far = c.requires.position in
    subst (λ (s : State). HasPosition s c.loop-last.last) (sym c.loop-last.invariant.same)
    (has_earlier c.args.checkpoints.now (record { state = far.0; position = c.args.upto }) c.loop-last.last far.1 c.loop-last.invariant.within)

pub returns-in-Some-clause-goes : goal.returns-in-Some-clause-goes
returns-in-Some-clause-goes c =
    let i = c.loop-last.invariant in
    let searched = subst (λ (s : State). FindsLast s c.args.breaks.now c.in-Ok.searched.from c.loop-last.last c.in-Ok.searched.found) i.same c.in-Ok.ensures.ok.last in
    goes_there c.args.checkpoints.now c.args.breaks.now c.in-Ok.searched.from c.loop-last.last c.args.upto c.in-Some.position
    (subst (FindsLast c.args.checkpoints.now c.args.breaks.now c.in-Ok.searched.from c.loop-last.last) c.in-Some.is searched) i.within i.none

pub returns-in-Some-clause-same : goal.returns-in-Some-clause-same
returns-in-Some-clause-same c = c.search_before.ensures.same ∙ c.loop-last.invariant.same

pub returns-in-Err-clause-full : goal.returns-in-Err-clause-full
returns-in-Err-clause-full c = λ e. subst IsTooLong c.loop-last.invariant.same (c.in-Err.ensures.full e)

pub returns-in-Err-clause-no_worker : goal.returns-in-Err-clause-no_worker
returns-in-Err-clause-no_worker c = c.in-Err.ensures.no_worker

pub returns-in-Err-clause-same : goal.returns-in-Err-clause-same
returns-in-Err-clause-same c = c.search_before.ensures.same ∙ c.loop-last.invariant.same

pub loop-last-preserved : goal.loop-last-preserved
loop-last-preserved c =
    let i = c.loop-last.invariant in
    let before = c.in-Ok.ensures.ok.before in
    let searched = subst (λ (s : State). FindsLast s c.args.breaks.now c.in-Ok.searched.from c.loop-last.last c.in-Ok.searched.found) i.same c.in-Ok.ensures.ok.last in
    record {
      same = c.search_before.ensures.same ∙ i.same;
      within = omega (arith, before, i.within);
      none = none_further c.args.checkpoints.now c.args.breaks.now c.in-Ok.searched.from c.loop-last.last c.args.upto
          (subst (FindsLast c.args.checkpoints.now c.args.breaks.now c.in-Ok.searched.from c.loop-last.last) c.in-None.is searched) i.none;
    }

pub loop-last-smaller : goal.loop-last-smaller
loop-last-smaller c = c.in-Ok.ensures.ok.before

pub returns-clause-goes : goal.returns-clause-goes
returns-clause-goes c =
    let zero : c.loop-last.last ≡ 0 = omega (arith, c.loop-last-test.false) in
    goes_to_0 c.args.checkpoints.now c.args.breaks.now c.args.upto (subst (λ p. NoneStops c.args.checkpoints.now c.args.breaks.now p c.args.upto) zero c.loop-last.invariant.none)

pub returns-clause-same : goal.returns-clause-same
returns-clause-same c = c.loop-last.invariant.same
