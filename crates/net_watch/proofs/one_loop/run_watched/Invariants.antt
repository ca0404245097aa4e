use Rattle.std.proofs.Common.{◌-◌, true}
use Rattle.sim_time.specs.declared.limits.TheConstants.{MOST_EVENTS}
use Rattle.net_watch.specs.Watched.{Watched}
use Rattle.net_watch.proofs.one_loop.run_watched.Given as goal

abbrev pub invariant-loop-watch : goal.invariant-loop-watch
invariant-loop-watch g l = record {
  so_far : Watched g.W.Watch.has l.fn.net l.fn.watch l.net l.watch true;
  fits : g.W.Watch.fits l.watch l.net;
}

abbrev pub decreases-loop-watch : goal.decreases-loop-watch
decreases-loop-watch g l = MOST_EVENTS - l.net.position
