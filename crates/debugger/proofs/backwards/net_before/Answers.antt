use Rattle.std.proofs.Common.{◌≡◌, ◌≤◌, ◌-◌, ◌∙◌, IfOk, IfErr, sym, ap, subst, arith}
use Rattle.std.proofs.lemmas.Result.{IfOk-weaker}
use Rattle.table_run.specs.State.{State}
use Rattle.net_machine.specs.Run.{Reached}
use Rattle.debugger.specs.declared.fault.MoveFault.{MoveFault}
use Rattle.debugger.specs.declared.fault.MoveFault.TheVariants.{CountFull}
use Rattle.debugger.specs.Moves.{Passes, HasPosition, ReverseGoesTo, IsTooLong}
use Rattle.debugger.proofs.Walks.{has_earlier}
use Rattle.debugger.proofs.Backward.{goes_before, not_past}
use Rattle.debugger.proofs.backwards.net_before.Goals as goal

pub stop_upto-requires-clause-on_run : goal.stop_upto-requires-clause-on_run
stop_upto-requires-clause-on_run c = c.requires

pub stop_upto-requires-clause-position : goal.stop_upto-requires-clause-position
stop_upto-requires-clause-position c =
    let upto : c.saturating_sub-before.result ≤ c.args.present.now.position = omega (arith, c.saturating_sub-before.ensures, c.position.ensures.count) in
    has_earlier c.args.checkpoints.now c.args.present.now c.saturating_sub-before.result c.requires upto

pub net_at-requires-clause-on_run : goal.net_at-requires-clause-on_run
net_at-requires-clause-on_run c = subst (λ (s : State). Passes s c.args.present.now) (sym c.stop_upto.ensures.same) c.requires

pub net_at-requires-clause-position : goal.net_at-requires-clause-position
net_at-requires-clause-position c =
    let m = c.args.present.now.position in
    let before : c.saturating_sub-before.result ≡ m - 1 = c.saturating_sub-before.ensures ∙ ap (λ p. p - 1) c.position.ensures.count in
    let goes = goes_before c.args.checkpoints.now c.args.breaks.now m c.saturating_sub-before.result c.in-Ok.target before c.in-Ok.ensures.goes in
    subst (λ (s : State). HasPosition s c.in-Ok.target) (sym c.stop_upto.ensures.same)
    (has_earlier c.args.checkpoints.now c.args.present.now c.in-Ok.target c.requires (not_past c.args.checkpoints.now c.args.breaks.now m c.in-Ok.target goes))

pub returns-in-Ok-clause-on_run : goal.returns-in-Ok-clause-on_run
returns-in-Ok-clause-on_run c = subst (λ (s : State). IfOk c.net_at.result (Passes s)) c.stop_upto.ensures.same c.net_at.ensures.on_run

pub returns-in-Ok-clause-goes : goal.returns-in-Ok-clause-goes
returns-in-Ok-clause-goes c =
    let m = c.args.present.now.position in
    let before : c.saturating_sub-before.result ≡ m - 1 = c.saturating_sub-before.ensures ∙ ap (λ p. p - 1) c.position.ensures.count in
    let goes = goes_before c.args.checkpoints.now c.args.breaks.now m c.saturating_sub-before.result c.in-Ok.target before c.in-Ok.ensures.goes in
    IfOk-weaker c.net_at.result (λ (net : Reached). net.position ≡ c.in-Ok.target) (λ (net : Reached). ReverseGoesTo c.args.checkpoints.now c.args.breaks.now m net.position) (λ net e. subst (ReverseGoesTo c.args.checkpoints.now c.args.breaks.now m) (sym e) goes) c.net_at.ensures.goes

pub returns-in-Ok-clause-full : goal.returns-in-Ok-clause-full
returns-in-Ok-clause-full c = subst (λ (s : State). IfErr c.net_at.result (λ (fault : MoveFault). fault ≡ CountFull → IsTooLong s)) c.stop_upto.ensures.same c.net_at.ensures.full

pub returns-in-Ok-clause-no_worker : goal.returns-in-Ok-clause-no_worker
returns-in-Ok-clause-no_worker c = c.net_at.ensures.no_worker

pub returns-in-Ok-clause-same : goal.returns-in-Ok-clause-same
returns-in-Ok-clause-same c = c.net_at.ensures.same ∙ c.stop_upto.ensures.same

pub returns-in-Err-clause-full : goal.returns-in-Err-clause-full
returns-in-Err-clause-full c = c.in-Err.ensures.full

pub returns-in-Err-clause-no_worker : goal.returns-in-Err-clause-no_worker
returns-in-Err-clause-no_worker c = c.in-Err.ensures.no_worker

pub returns-in-Err-clause-same : goal.returns-in-Err-clause-same
returns-in-Err-clause-same c = c.stop_upto.ensures.same
