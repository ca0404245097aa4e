use Rattle.std.proofs.Common.{min, sym, subst}
use Rattle.net_machine.specs.Run.{Reached}
use Rattle.figures.specs.Figures.{AreOfRun, base_at, whole}
use Rattle.sessions.specs.FiguresOutput.{StandsAt}
use Rattle.sessions.proofs.Stepped.{stands_there}
use Rattle.sessions.proofs.counter.Counter.begin_at.Goals as goal

pub returns-clause-begun : goal.returns-clause-begun
returns-clause-begun g c = λ p opened.
    let mid = c.run_before.new.self.net in
    let net = c.restart.ensures.net in
    let of = c.in_ok-restart.ensures.begun p (whole p) (c.run_before.ensures.figures p (whole p) opened.of) in
    record {
      stands = subst (StandsAt p c.args.moment) (sym net) (stands_there p c.args.moment c.args.self.now.net mid opened.at c.run_before.ensures.early c.in_ok-run_before.ensures.held);
      of = subst (λ (r : Reached). AreOfRun p (base_at p (min c.args.moment p.end) r) c.restart.new.self.figures c.restart.new.self.net) (sym net) of;
    }
