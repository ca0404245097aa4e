use Rattle.std.proofs.Common.{subst, rules}
use Rattle.table_run.specs.State.{State}
use Rattle.net_watch.specs.Watched.{Watched, goes_on}
use Rattle.net_watch.proofs.Alone.{first_alone, second_alone}
use Rattle.debugger.specs.Moves.{Passes}
use Rattle.debugger.proofs.Watched.{comes_up_to, too_long_where}
use Rattle.debugger.proofs.walk.reach_watched.Goals as goal

pub returns-clause-watched : goal.returns-clause-watched
returns-clause-watched g c =
    let r = c.run_by_two in
    let both = second_alone _ _ _ r.ensures.watched (λ b checkpoints. checkpoints.holds.0) in
    let watch = first_alone _ _ _ both.holds (λ b upto. upto.0) in
    let name = watch.0 in
    let watched : Watched g.W.Watch.has c.args.net.now c.args.watch.now r.new.net r.new.second.first.now (goes_on r.result) = record { runs = both.runs; holds = watch.1 } in
    search rules

pub returns-clause-reached : goal.returns-clause-reached
returns-clause-reached g c =
    let r = c.run_by_two in
    let here = subst (λ (s : State). Passes s r.new.net) r.ensures.watched.first_has.holds.1 r.ensures.first in
    let both = second_alone _ _ _ r.ensures.watched (λ b checkpoints. checkpoints.holds.0) in
    let name = (first_alone _ _ _ both.holds (λ b upto. upto.0)).0 in
    let reached = comes_up_to c.args.checkpoints.now (g.W.Watch.halts r.new.second.first.now r.new.net) c.args.net.now r.new.net c.args.target r.new.second.second.position r.result here c.requires.position both.holds.second_has.1 r.ensures.second.1 r.ensures.end in
    search rules

pub returns-clause-full : goal.returns-clause-full
returns-clause-full g c =
    let r = c.run_by_two in
    let here = subst (λ (s : State). Passes s r.new.net) r.ensures.watched.first_has.holds.1 r.ensures.first in
    too_long_where c.args.checkpoints.now _ c.args.net.now r.new.net r.result here r.ensures.end
