use Rattle.std.proofs.Common.{◌≡◌, ◌<◌, sym, subst, ◌∙◌, IfOk, IfErr, OnErr}
use Rattle.table_run.specs.State.{State}
use Rattle.debugger.specs.declared.fault.MoveFault.{MoveFault}
use Rattle.debugger.specs.declared.fault.MoveFault.TheVariants.{CountFull, NoWorker}
use Rattle.debugger.specs.Moves.{Passes, UntilGoesTo, IsTooLong}
use Rattle.debugger.specs.Debugging.{Debugging, HasMoved}
use Rattle.debugger.proofs.Batches.{same_nodes}
use Rattle.debugger.proofs.Kept.{value_kept, moves_kept, nodes_kept}
use Rattle.debugger.proofs.Shown.{ok_shown, err_shown}
use Rattle.debugger.proofs.moves.Debugger.goto_moment.Goals as goal

pub find_moment-found-requires-clause-ready : goal.find_moment-found-requires-clause-ready
find_moment-found-requires-clause-ready g c = c.requires.ready

pub find_moment-found-requires-clause-on_run : goal.find_moment-found-requires-clause-on_run
find_moment-found-requires-clause-on_run g c = c.self.invariant.moves.shown

pub find_moment-found-requires-clause-nodes : goal.find_moment-found-requires-clause-nodes
find_moment-found-requires-clause-nodes g c = c.self.invariant.nodes ∙ sym (same_nodes c.self.inside.checkpoints c.self.inside.net c.self.invariant.moves.shown)

pub invariant_of-self : goal.invariant_of-self
invariant_of-self g c =
    record { moves = moves_kept c.self.inside _ c.find_moment-found.ensures.same c.self.invariant; nodes = nodes_kept c.self.inside _ c.find_moment-found.ensures.same c.self.invariant }

pub show-requires : goal.show-requires
show-requires g c = subst (λ (s : State). IfOk c.find_moment-found.result (Passes s)) (sym c.find_moment-found.ensures.same) c.find_moment-found.ensures.on_run

pub returns-clause-moved : goal.returns-clause-moved
returns-clause-moved g c =
    subst (λ (d : Debugging). IfOk c.show.result (HasMoved d c.show.new.self)) (value_kept c.self.inside _ c.find_moment-found.ensures.same _ c.self.view_is) c.show.ensures.moved

pub returns-clause-goes : goal.returns-clause-goes
returns-clause-goes g c =
    let here = ok_shown (UntilGoesTo c.self.inside.checkpoints c.args.time 0) c.find_moment-found.result c.show.result c.show.ensures.answer c.find_moment-found.ensures.goes in
    subst (λ (d : Debugging). IfOk c.show.result (UntilGoesTo d.start c.args.time 0)) c.self.view_is here

pub returns-clause-full : goal.returns-clause-full
returns-clause-full g c =
    let here = err_shown (λ (fault : MoveFault). fault ≡ CountFull → IsTooLong c.self.inside.checkpoints) c.find_moment-found.result c.show.result c.show.ensures.answer c.find_moment-found.ensures.full in
    subst (λ (d : Debugging). IfErr c.show.result (λ (fault : MoveFault). fault ≡ CountFull → IsTooLong d.start)) c.self.view_is here

pub returns-clause-several : goal.returns-clause-several
returns-clause-several g c =
    let here = err_shown (λ (fault : MoveFault). fault ≡ NoWorker → 1 < c.self.inside.window_settings.workers) c.find_moment-found.result c.show.result c.show.ensures.answer c.find_moment-found.ensures.several in
    subst (λ (d : Debugging). IfErr c.show.result (λ (fault : MoveFault). fault ≡ NoWorker → 1 < d.workers)) c.self.view_is here

pub returns-clause-err : goal.returns-clause-err
returns-clause-err g c =
    subst (λ (d : Debugging). OnErr c.show.result (c.show.new.self ≡ d)) (value_kept c.self.inside _ c.find_moment-found.ensures.same _ c.self.view_is) c.show.ensures.err
