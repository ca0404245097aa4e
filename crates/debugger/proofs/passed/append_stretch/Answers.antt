use Rattle.std.proofs.Common.{◌≡◌, ◌+◌, ◌++◌, ◌∙◌, OnOk, sym, subst, length, take_all, le_refl, arith}
use Rattle.std.specs.List.{concat}
use Rattle.table_run.specs.State.{State}
use Rattle.debugger.specs.Moves.{Passes, HasPosition}
use Rattle.debugger.specs.Passed.{stretch_texts}
use Rattle.debugger.proofs.Walks.{has_earlier}
use Rattle.debugger.proofs.passed.append_stretch.Goals as goal

pub net_at-requires-clause-on_run : goal.net_at-requires-clause-on_run
net_at-requires-clause-on_run c = c.requires.on_run

pub net_at-requires-clause-position : goal.net_at-requires-clause-position
net_at-requires-clause-position c =
    let far = c.requires.upto in
    has_earlier c.args.checkpoints.now (record { state = far.0; position = c.args.stretch.now.from + c.args.stretch.now.count }) c.args.stretch.now.from far.1 (omega arith)

pub run_stretch-requires-clause-on_run : goal.run_stretch-requires-clause-on_run
run_stretch-requires-clause-on_run c = subst (λ (s : State). Passes s c.in-Ok.net) (sym c.net_at.ensures.same) c.in-Ok.ensures.on_run

pub run_stretch-requires-clause-from : goal.run_stretch-requires-clause-from
run_stretch-requires-clause-from c = c.in-Ok.ensures.goes

pub run_stretch-requires-clause-upto : goal.run_stretch-requires-clause-upto
run_stretch-requires-clause-upto c = subst (λ (s : State). HasPosition s (c.args.stretch.now.from + c.args.stretch.now.count)) (sym c.net_at.ensures.same) c.requires.upto

pub returns-in-Ok-clause-ok : goal.returns-in-Ok-clause-ok
returns-in-Ok-clause-ok c =
    subst (λ (s : State). OnOk c.run_stretch.result (c.run_stretch.new.out.items ≡ c.args.out.now.items ++ concat (stretch_texts s c.args.stretch.now))) c.net_at.ensures.same c.run_stretch.ensures.ok

pub returns-in-Ok-clause-err : goal.returns-in-Ok-clause-err
returns-in-Ok-clause-err c = c.run_stretch.ensures.err

pub returns-in-Ok-clause-same : goal.returns-in-Ok-clause-same
returns-in-Ok-clause-same c = c.run_stretch.ensures.same ∙ c.net_at.ensures.same

pub returns-in-Err-clause-err : goal.returns-in-Err-clause-err
returns-in-Err-clause-err c = take_all (length c.args.out.now.items) c.args.out.now.items (le_refl (length c.args.out.now.items))

pub returns-in-Err-clause-same : goal.returns-in-Err-clause-same
returns-in-Err-clause-same c = c.net_at.ensures.same
