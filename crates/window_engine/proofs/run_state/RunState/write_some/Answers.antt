use Rattle.std.proofs.Common.{subst, sym, rules, List, ℕ, ◌<◌, ◌^◌}
use Rattle.window_core.specs.Full.{HasTooMany}
use Rattle.window_engine.specs.Singly.{HasGone}
use Rattle.window_engine.proofs.TooMany.{full_of, of_workers, workers_full}
use Rattle.window_engine.proofs.OneByOne.{broke_gone}
use Rattle.window_engine.proofs.Writing.{wrote_no_more}
use Rattle.window_engine.proofs.run_state.RunState.write_some.Goals as goal

pub returns-in-Err-clause-broke : goal.returns-in-Err-clause-broke
returns-in-Err-clause-broke g c = (wrote_no_more c.args.until c.args.single.now.net c.args.self.now.position (g.S.Sink.contents c.args.sink.now) c.requires.committed, of_workers 1 (HasTooMany c.args.single.now.net) c.in-Err.fault c.in-Err.ensures.fault)

pub returns-in-Err-put_all-clause-broke : goal.returns-in-Err-put_all-clause-broke
returns-in-Err-put_all-clause-broke g c =
    let contents = g.S.Sink.contents in
    let text = c.as_slice-text.result.now in
    let gone = subst (λ (t : List ℕ). HasGone c.args.until c.args.single.now.net c.run_some.new.net t) (sym c.as_slice-text.ensures) c.in-Ok.ensures.gone in
    let few : c.in-Err-put_all.count < 2 ^ 71 = search rules in
    broke_gone c.args.until c.args.single.now.net c.run_some.new.net text c.in-Err-put_all.count (contents c.args.sink.now) (contents c.put_all.new.sink) gone few c.position-self.result c.position-self.ensures.count c.in-Err-put_all.ensures.err

pub returns-in-Err-clause-full : goal.returns-in-Err-clause-full
returns-in-Err-clause-full g c is =
    workers_full c.args.single.now.net c.in-Err.fault (full_of 1 (HasTooMany c.args.single.now.net) c.in-Err.fault c.in-Err.ensures.fault) is
