use Rattle.sessions.proofs.counter.Counter.new.Goals as goal

pub returns-clause-some : goal.returns-clause-some
returns-clause-some g c = c.in_ok-figures.ensures.some c.args.scenario.now c.parts-parts.ensures.scenario c.in_ok-net.ensures.state
