use Rattle.std.proofs.Common.{◌≡◌, ◌++◌, Ok, Err, subst, rules, ⊎_elim}
use Rattle.net_watch.specs.Watched.{goes_on}
use Rattle.debugger.specs.Drops.{past_drops}
use Rattle.debugger.proofs.DropsFound.{drops_none}
use Rattle.debugger.proofs.Found.{found_front, found_whole}
use Rattle.debugger.proofs.drops.run_for_drops.Goals as goal

pub returns-in-Ok-clause-err : goal.returns-in-Ok-clause-err
returns-in-Ok-clause-err c =
    let start = c.args.checkpoints.now in
    let of = c.args.of in
    let out = c.args.out.now.items in
    let new = c.reach_watched-ended.new in
    let name = c.in-Ok.ensures.watched.holds.0 in
    let found = c.in-Ok.ensures.watched.holds.2 start out c.requires.on_run (drops_none start of c.args.net.now.position out c.requires.from) in
    let front = found_front (past_drops start of new.net.position) out new.watch.out.now.items new.watch.refused (goes_on (Ok c.in-Ok.field-0)) found in
    search rules

pub returns-in-Ok-2-clause-ok : goal.returns-in-Ok-2-clause-ok
returns-in-Ok-2-clause-ok c =
    let start = c.args.checkpoints.now in
    let of = c.args.of in
    let out = c.args.out.now.items in
    let new = c.reach_watched-ended.new in
    let name = c.in-Ok-2.ensures.watched.holds.0 in
    let found = c.in-Ok-2.ensures.watched.holds.2 start out c.requires.on_run (drops_none start of c.args.net.now.position out c.requires.from) in
    let whole = found_whole (past_drops start of new.net.position) out new.watch.out.now.items new.watch.refused (goes_on (Ok c.in-Ok-2.field-0)) found c.if-drops.false in
    let there : new.net.position ≡ c.args.position =
    ⊎_elim (λ (x : ⊥). absurd x) (λ (at : new.net.position ≡ c.args.position). at) (c.in-Ok-2.ensures.reached whole.0) in
    let all = subst (λ p. new.watch.out.now.items ≡ out ++ past_drops start of p) there whole.1 in
    search rules

pub returns-in-Err-clause-err : goal.returns-in-Err-clause-err
returns-in-Err-clause-err c =
    let start = c.args.checkpoints.now in
    let of = c.args.of in
    let out = c.args.out.now.items in
    let new = c.reach_watched-ended.new in
    let name = c.in-Err.ensures.watched.holds.0 in
    let found = c.in-Err.ensures.watched.holds.2 start out c.requires.on_run (drops_none start of c.args.net.now.position out c.requires.from) in
    let front = found_front (past_drops start of new.net.position) out new.watch.out.now.items new.watch.refused (goes_on (Err c.in-Err.fault)) found in
    search rules
