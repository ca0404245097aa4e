use Rattle.std.proofs.Common.{◌≡◌, ◌≢◌, sym, subst, IfOk, IfErr, OnErr}
use Rattle.table_run.specs.State.{State}
use Rattle.debugger.specs.declared.fault.MoveFault.{MoveFault}
use Rattle.debugger.specs.declared.fault.MoveFault.TheVariants.{CountFull, NoWorker}
use Rattle.debugger.specs.Moves.{Passes, RunGoesTo, IsTooLong}
use Rattle.debugger.specs.Debugging.{Debugging, HasMoved}
use Rattle.debugger.proofs.Kept.{value_kept, moves_kept, nodes_kept}
use Rattle.debugger.proofs.Shown.{ok_shown, err_shown}
use Rattle.debugger.proofs.moves.Debugger.run_singly.Goals as goal

pub net_at_stop-found-requires : goal.net_at_stop-found-requires
net_at_stop-found-requires c = c.self.invariant.moves.shown

pub invariant_of-self : goal.invariant_of-self
invariant_of-self c =
    record { moves = moves_kept c.self.inside _ c.net_at_stop-found.ensures.same c.self.invariant; nodes = nodes_kept c.self.inside _ c.net_at_stop-found.ensures.same c.self.invariant }

pub show-requires : goal.show-requires
show-requires c = subst (λ (s : State). IfOk c.net_at_stop-found.result (Passes s)) (sym c.net_at_stop-found.ensures.same) c.net_at_stop-found.ensures.on_run

pub returns-clause-moved : goal.returns-clause-moved
returns-clause-moved c =
    subst (λ (d : Debugging). IfOk c.show.result (HasMoved d c.show.new.self)) (value_kept c.self.inside _ c.net_at_stop-found.ensures.same _ c.self.view_is) c.show.ensures.moved

pub returns-clause-goes : goal.returns-clause-goes
returns-clause-goes c =
    let here = ok_shown (RunGoesTo c.self.inside.checkpoints c.self.inside.breaks c.self.inside.net.position) c.net_at_stop-found.result c.show.result c.show.ensures.answer c.net_at_stop-found.ensures.goes in
    subst (λ (d : Debugging). IfOk c.show.result (RunGoesTo d.start d.breaks d.shown.position)) c.self.view_is here

pub returns-clause-full : goal.returns-clause-full
returns-clause-full c =
    let here = err_shown (λ (fault : MoveFault). fault ≡ CountFull → IsTooLong c.self.inside.checkpoints) c.net_at_stop-found.result c.show.result c.show.ensures.answer c.net_at_stop-found.ensures.full in
    subst (λ (d : Debugging). IfErr c.show.result (λ (fault : MoveFault). fault ≡ CountFull → IsTooLong d.start)) c.self.view_is here

pub returns-clause-err : goal.returns-clause-err
returns-clause-err c =
    subst (λ (d : Debugging). OnErr c.show.result (c.show.new.self ≡ d)) (value_kept c.self.inside _ c.net_at_stop-found.ensures.same _ c.self.view_is) c.show.ensures.err

pub returns-clause-no_worker : goal.returns-clause-no_worker
returns-clause-no_worker c = err_shown (λ (fault : MoveFault). fault ≢ NoWorker) c.net_at_stop-found.result c.show.result c.show.ensures.answer c.net_at_stop-found.ensures.no_worker
