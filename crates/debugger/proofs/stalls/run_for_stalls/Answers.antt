use Rattle.std.proofs.Common.{Ok, Err, subst, rules}
use Rattle.table_run.specs.State.{State}
use Rattle.net_watch.specs.Watched.{goes_on}
use Rattle.net_watch.proofs.Alone.{second_alone}
use Rattle.debugger.specs.Moves.{Passes}
use Rattle.debugger.specs.Stalls.{stalls_upto, IsAllStalls}
use Rattle.debugger.proofs.Found.{found_front, found_whole}
use Rattle.debugger.proofs.StallsFound.{none_at_first, ends_there}
use Rattle.debugger.proofs.stalls.run_for_stalls.Goals as goal

pub returns-in-Ok-clause-err : goal.returns-in-Ok-clause-err
returns-in-Ok-clause-err c =
    let start = c.args.checkpoints.now in
    let out = c.args.out.now.items in
    let new = c.run_by_two-ended.new in
    let stalls = second_alone _ _ _ c.in-Ok.ensures.watched (λ b checkpoints. checkpoints.holds.0) in
    let name = stalls.holds.0 in
    let found = stalls.holds.1 start out c.requires.on_run (none_at_first start c.args.net.now.position out c.requires.from) in
    let front = found_front (stalls_upto start new.net.position) out new.second.out.now.items new.second.refused (goes_on (Ok c.in-Ok.field-0)) found in
    search rules

pub returns-in-Ok-2-clause-ok : goal.returns-in-Ok-2-clause-ok
returns-in-Ok-2-clause-ok c =
    let start = c.args.checkpoints.now in
    let out = c.args.out.now.items in
    let new = c.run_by_two-ended.new in
    let both = c.in-Ok-2.ensures.watched in
    let here = subst (λ (s : State). Passes s new.net) both.first_has.holds.1 c.in-Ok-2.ensures.first in
    let stalls = second_alone _ _ _ both (λ b checkpoints. checkpoints.holds.0) in
    let name = stalls.holds.0 in
    let found = stalls.holds.1 start out c.requires.on_run (none_at_first start c.args.net.now.position out c.requires.from) in
    let whole = found_whole (stalls_upto start new.net.position) out new.second.out.now.items new.second.refused (goes_on (Ok c.in-Ok-2.field-0)) found c.if-stalls.false in
    let ends = ends_there start c.args.net.now new.net c.in-Ok-2.field-0 here whole.0 c.in-Ok-2.ensures.end in
    let all : IsAllStalls start out new.second.out.now.items = record { end = new.net.position; ends = ends; found = whole.1 } in
    search rules

pub returns-clause-err : goal.returns-clause-err
returns-clause-err c =
    let start = c.args.checkpoints.now in
    let out = c.args.out.now.items in
    let new = c.run_by_two-ended.new in
    let stalls = second_alone _ _ _ c.in-Err.ensures.watched (λ b checkpoints. checkpoints.holds.0) in
    let name = stalls.holds.0 in
    let found = stalls.holds.1 start out c.requires.on_run (none_at_first start c.args.net.now.position out c.requires.from) in
    let front = found_front (stalls_upto start new.net.position) out new.second.out.now.items new.second.refused (goes_on (Err c.in-Err.fault)) found in
    search rules
