use Rattle.std.proofs.Common.{true, false}
use Rattle.node_core.specs.TraceLine.{shown}
use Rattle.net_watch.proofs.Watching.{watched_next}
use Rattle.net_watch.proofs.one_loop.run_watched.Goals as goal

pub returns-then-not-see-clause-watched : goal.returns-then-not-see-clause-watched
returns-then-not-see-clause-watched g c =
    watched_next g.W.Watch.has c.args.net.now c.loop-watch.net c.run_due.new.self c.of-before.result.value c.args.watch.now c.loop-watch.watch c.see.new.self (shown c.run_due.new.line) c.in-Ok-true.field-0 c.see.result false
    c.loop-watch.invariant.so_far c.in-Ok-true.field-0-test c.in-Ok-true.ensures.ok c.of-before.ensures (c.see.ensures.has c.args.watch.now) c.if-not-see.true

pub loop-watch-preserved : goal.loop-watch-preserved
loop-watch-preserved g c = record {
  so_far =
      watched_next g.W.Watch.has c.args.net.now c.loop-watch.net c.run_due.new.self c.of-before.result.value c.args.watch.now c.loop-watch.watch c.see.new.self (shown c.run_due.new.line) c.in-Ok-true.field-0 c.see.result true
      c.loop-watch.invariant.so_far c.in-Ok-true.field-0-test c.in-Ok-true.ensures.ok c.of-before.ensures (c.see.ensures.has c.args.watch.now) c.if-not-see.false;
  fits = c.see.ensures.fits;
}
