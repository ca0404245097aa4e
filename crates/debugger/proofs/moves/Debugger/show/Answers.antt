use Rattle.std.proofs.Common.{sym, ap, subst, refl, ◌∙◌, Some}
use Rattle.std.proofs.lemmas.Result.{IfOk-at_ok}
use Rattle.tournament.proofs.Maps.{same_some}
use Rattle.table_run.specs.State.{State}
use Rattle.net_machine.specs.Run.{Reached}
use Rattle.debugger.specs.Moves.{Passes}
use Rattle.debugger.specs.Debugging.{Debugging}
use Rattle.debugger.proofs.Shown.{ok_answers, err_answers}
use Rattle.debugger.proofs.moves.Debugger.show.Goals as goal

pub invariant_of-self : goal.invariant_of-self
invariant_of-self c =
    let come : Passes c.args.self.now.start c.in-Ok.net = IfOk-at_ok (Passes c.args.self.now.start) c.in-Ok.is c.requires in
    let here : Passes c.self.inside.checkpoints c.replace.new.dest = subst (Passes c.self.inside.checkpoints) (sym c.replace.ensures.after) (subst (λ (s : State). Passes s c.in-Ok.net) (sym (ap (λ (d : Debugging). d.start) c.self.view_is)) come) in
    record {
      moves = record { shown = here; left = λ was e. subst (Passes c.self.inside.checkpoints) (sym c.replace.ensures.value ∙ same_some c.replace.result was e) c.self.invariant.moves.shown };
      nodes = c.self.invariant.nodes;
    }

pub same-self : goal.same-self
same-self c = refl

pub returns-in-Ok-clause-moved : goal.returns-in-Ok-clause-moved
returns-in-Ok-clause-moved c =
    let come : Passes c.args.self.now.start c.in-Ok.net = IfOk-at_ok (Passes c.args.self.now.start) c.in-Ok.is c.requires in
    let here : Passes c.self.inside.checkpoints c.replace.new.dest = subst (Passes c.self.inside.checkpoints) (sym c.replace.ensures.after) (subst (λ (s : State). Passes s c.in-Ok.net) (sym (ap (λ (d : Debugging). d.start) c.self.view_is)) come) in
    let start = ap (λ (d : Debugging). d.start) c.self.view_is in
    let shown = c.replace.ensures.value ∙ ap (λ (d : Debugging). d.shown) c.self.view_is in
    let breaks = ap (λ (d : Debugging). d.breaks) c.self.view_is in
    let workers = ap (λ (d : Debugging). d.workers) c.self.view_is in
    record { after = (λ i. record { start = start i; shown = c.replace.new.dest; left = Some (shown i); breaks = breaks i; workers = workers i }); at = ap (λ (r : Reached). r.position) c.replace.ensures.after ∙ sym c.position-position.ensures.count; on_run = here }

pub returns-in-Ok-clause-answer : goal.returns-in-Ok-clause-answer
returns-in-Ok-clause-answer c = ok_answers c.args.found c.in-Ok.net c.position-position.result c.in-Ok.is c.position-position.ensures.count

pub returns-in-Err-clause-answer : goal.returns-in-Err-clause-answer
returns-in-Err-clause-answer c = err_answers c.args.found c.in-Err.fault c.in-Err.is

pub returns-in-Err-clause-err : goal.returns-in-Err-clause-err
returns-in-Err-clause-err c = refl
