use Rattle.std.proofs.Common.{◌≡◌, ◌<◌, refl, sym, subst, ◌∙◌, IfOk, IfErr, OnErr, true≢false}
use Rattle.std.proofs.lemmas.Result.{IfOk-weaker}
use Rattle.table_run.specs.State.{State}
use Rattle.debugger.specs.declared.fault.MoveFault.{MoveFault}
use Rattle.debugger.specs.declared.fault.MoveFault.TheVariants.{CountFull, NoWorker}
use Rattle.debugger.specs.Moves.{Passes, RunsTo, RunGoesTo, IsTooLong}
use Rattle.breakpoints.specs.Breaks.{AsksUnshown}
use Rattle.debugger.specs.Aims.{LineHit}
use Rattle.debugger.specs.Debugging.{Debugging, HasMoved}
use Rattle.debugger.proofs.Aims.{by_lines}
use Rattle.debugger.proofs.Batches.{same_nodes}
use Rattle.debugger.proofs.Faults.{none_missing}
use Rattle.debugger.proofs.Kept.{value_kept, moves_kept, nodes_kept}
use Rattle.debugger.proofs.Shown.{ok_shown, err_shown}
use Rattle.debugger.proofs.moves.Debugger.run.Goals as goal

pub find-found-requires-clause-ready : goal.find-found-requires-clause-ready
find-found-requires-clause-ready g c = c.requires.ready

pub find-found-requires-clause-on_run : goal.find-found-requires-clause-on_run
find-found-requires-clause-on_run g c = c.self.invariant.moves.shown

pub find-found-requires-clause-nodes : goal.find-found-requires-clause-nodes
find-found-requires-clause-nodes g c = c.self.invariant.nodes ∙ sym (same_nodes c.self.inside.checkpoints c.self.inside.net c.self.invariant.moves.shown)

pub invariant_of-self : goal.invariant_of-self
invariant_of-self g c =
    record { moves = moves_kept c.self.inside _ c.find-found.ensures.same c.self.invariant; nodes = nodes_kept c.self.inside _ c.find-found.ensures.same c.self.invariant }

pub show-requires : goal.show-requires
show-requires g c = subst (λ (s : State). IfOk c.find-found.result (Passes s)) (sym c.find-found.ensures.same) c.find-found.ensures.on_run

pub returns-clause-moved : goal.returns-clause-moved
returns-clause-moved g c =
    subst (λ (d : Debugging). IfOk c.show.result (HasMoved d c.show.new.self)) (value_kept c.self.inside _ c.find-found.ensures.same _ c.self.view_is) c.show.ensures.moved

pub returns-clause-goes : goal.returns-clause-goes
returns-clause-goes g c =
    let start = c.self.inside.checkpoints in
    let breaks = c.self.inside.breaks in
    let from = c.self.inside.net.position in
    let none : AsksUnshown breaks → ⊥ = λ asked. true≢false (sym (c.asks_unshown.ensures.1 asked) ∙ c.if-asks_unshown.false) in
    let lines = ok_shown (RunsTo (LineHit breaks) start from) c.find-found.result c.show.result c.show.ensures.answer c.find-found.ensures.goes in
    let here = IfOk-weaker c.show.result (RunsTo (LineHit breaks) start from) (RunGoesTo start breaks from) (λ p. by_lines breaks none start from p) lines in
    subst (λ (d : Debugging). IfOk c.show.result (RunGoesTo d.start d.breaks d.shown.position)) c.self.view_is here

pub returns-clause-full : goal.returns-clause-full
returns-clause-full g c =
    let here = err_shown (λ (fault : MoveFault). fault ≡ CountFull → IsTooLong c.self.inside.checkpoints) c.find-found.result c.show.result c.show.ensures.answer c.find-found.ensures.full in
    subst (λ (d : Debugging). IfErr c.show.result (λ (fault : MoveFault). fault ≡ CountFull → IsTooLong d.start)) c.self.view_is here

pub returns-clause-several : goal.returns-clause-several
returns-clause-several g c =
    let here = err_shown (λ (fault : MoveFault). fault ≡ NoWorker → 1 < c.self.inside.window_settings.workers) c.find-found.result c.show.result c.show.ensures.answer c.find-found.ensures.several in
    subst (λ (d : Debugging). IfErr c.show.result (λ (fault : MoveFault). fault ≡ NoWorker → 1 < d.workers)) c.self.view_is here

pub returns-clause-err : goal.returns-clause-err
returns-clause-err g c =
    subst (λ (d : Debugging). OnErr c.show.result (c.show.new.self ≡ d)) (value_kept c.self.inside _ c.find-found.ensures.same _ c.self.view_is) c.show.ensures.err

-- by one worker, and where a stall is asked for
pub returns-then-is_alone-clause-moved : goal.returns-then-is_alone-clause-moved
returns-then-is_alone-clause-moved g c = c.run_singly.ensures.moved

pub returns-then-is_alone-clause-goes : goal.returns-then-is_alone-clause-goes
returns-then-is_alone-clause-goes g c = c.run_singly.ensures.goes

pub returns-then-is_alone-clause-full : goal.returns-then-is_alone-clause-full
returns-then-is_alone-clause-full g c = c.run_singly.ensures.full

pub returns-then-is_alone-clause-several : goal.returns-then-is_alone-clause-several
returns-then-is_alone-clause-several g c = none_missing c.args.self.now.workers c.run_singly.result c.run_singly.ensures.no_worker

pub returns-then-is_alone-clause-err : goal.returns-then-is_alone-clause-err
returns-then-is_alone-clause-err g c = c.run_singly.ensures.err

pub returns-then-asks_unshown-clause-moved : goal.returns-then-asks_unshown-clause-moved
returns-then-asks_unshown-clause-moved g c = c.run_singly-then-asks_unshown.ensures.moved

pub returns-then-asks_unshown-clause-goes : goal.returns-then-asks_unshown-clause-goes
returns-then-asks_unshown-clause-goes g c = c.run_singly-then-asks_unshown.ensures.goes

pub returns-then-asks_unshown-clause-full : goal.returns-then-asks_unshown-clause-full
returns-then-asks_unshown-clause-full g c = c.run_singly-then-asks_unshown.ensures.full

pub returns-then-asks_unshown-clause-several : goal.returns-then-asks_unshown-clause-several
returns-then-asks_unshown-clause-several g c = none_missing c.args.self.now.workers c.run_singly-then-asks_unshown.result c.run_singly-then-asks_unshown.ensures.no_worker

pub returns-then-asks_unshown-clause-err : goal.returns-then-asks_unshown-clause-err
returns-then-asks_unshown-clause-err g c = c.run_singly-then-asks_unshown.ensures.err

pub same-self : goal.same-self
same-self g c = refl

pub same-self-then-asks_unshown : goal.same-self-then-asks_unshown
same-self-then-asks_unshown g c = refl
