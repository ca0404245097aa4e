use Rattle.std.proofs.Common.{◌≡◌, ◌+◌, ◌++◌, Ok, Err, le_refl, subst, arith, rules, ⊎_elim}
use Rattle.std.specs.List.{concat}
use Rattle.net_watch.specs.Watched.{goes_on}
use Rattle.debugger.specs.Passed.{ordered_texts, texts_between}
use Rattle.debugger.proofs.Between.{reported_none}
use Rattle.debugger.proofs.Found.{found_front, found_whole}
use Rattle.debugger.proofs.Walks.{has_earlier}
use Rattle.debugger.proofs.passed.run_stretch.Goals as goal

pub reach_watched-ended-requires-clause-position : goal.reach_watched-ended-requires-clause-position
reach_watched-ended-requires-clause-position c =
    let far = c.requires.upto in
    has_earlier c.args.checkpoints.now (record { state = far.0; position = c.args.stretch.now.from + c.args.stretch.now.count }) c.saturating_add-upto.result far.1
    (omega (arith, c.saturating_add-upto.ensures, c.position.ensures.count, c.requires.from))

pub returns-in-Ok-clause-err : goal.returns-in-Ok-clause-err
returns-in-Ok-clause-err c =
    let start = c.args.checkpoints.now in
    let order = c.args.stretch.now.order in
    let out = c.args.out.now.items in
    let m = c.args.net.now.position in
    let new = c.reach_watched-ended.new in
    let name = c.in-Ok.ensures.watched.holds.0 in
    let reported = c.in-Ok.ensures.watched.holds.3 start m out (le_refl m) c.requires.on_run (omega (arith, c.len-start.ensures)) (reported_none start order c.args.net.now out c.requires.on_run) in
    let front = found_front (concat (ordered_texts order (texts_between start m new.net.position))) out new.watch.out.now.items new.watch.refused (goes_on (Ok c.in-Ok.field-0)) reported in
    search rules

pub returns-in-Ok-2-clause-ok : goal.returns-in-Ok-2-clause-ok
returns-in-Ok-2-clause-ok c =
    let start = c.args.checkpoints.now in
    let order = c.args.stretch.now.order in
    let out = c.args.out.now.items in
    let m = c.args.net.now.position in
    let new = c.reach_watched-ended.new in
    let name = c.in-Ok-2.ensures.watched.holds.0 in
    let reported = c.in-Ok-2.ensures.watched.holds.3 start m out (le_refl m) c.requires.on_run (omega (arith, c.len-start.ensures)) (reported_none start order c.args.net.now out c.requires.on_run) in
    let whole = found_whole (concat (ordered_texts order (texts_between start m new.net.position))) out new.watch.out.now.items new.watch.refused (goes_on (Ok c.in-Ok-2.field-0)) reported c.if-texts.false in
    let few = c.position-count.ensures.is_run.position_fits in
    let there : new.net.position ≡ c.args.stretch.now.from + c.args.stretch.now.count =
    ⊎_elim (λ (x : ⊥). absurd x) (λ (at : new.net.position ≡ c.saturating_add-upto.result). omega (arith, at, c.saturating_add-upto.ensures, c.position.ensures.count, c.requires.from, few)) (c.in-Ok-2.ensures.reached whole.0) in
    let all =
    subst (λ p. new.watch.out.now.items ≡ out ++ concat (ordered_texts order (texts_between start c.args.stretch.now.from p))) there
    (subst (λ q. new.watch.out.now.items ≡ out ++ concat (ordered_texts order (texts_between start q new.net.position))) c.requires.from whole.1) in
    search rules

pub returns-in-Err-clause-err : goal.returns-in-Err-clause-err
returns-in-Err-clause-err c =
    let start = c.args.checkpoints.now in
    let order = c.args.stretch.now.order in
    let out = c.args.out.now.items in
    let m = c.args.net.now.position in
    let new = c.reach_watched-ended.new in
    let name = c.in-Err.ensures.watched.holds.0 in
    let reported = c.in-Err.ensures.watched.holds.3 start m out (le_refl m) c.requires.on_run (omega (arith, c.len-start.ensures)) (reported_none start order c.args.net.now out c.requires.on_run) in
    let front = found_front (concat (ordered_texts order (texts_between start m new.net.position))) out new.watch.out.now.items new.watch.refused (goes_on (Err c.in-Err.fault)) reported in
    search rules
