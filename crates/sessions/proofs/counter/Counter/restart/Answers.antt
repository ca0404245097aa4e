use Rattle.std.proofs.Common.{◌≡◌, ◌∙◌, min, ap, subst, rules}
use Rattle.figures.specs.Figures.{AreOfRun, base_at}
use Rattle.sessions.proofs.Figured.{at_most_end, end_of_run, none_before}
use Rattle.sessions.proofs.counter.Counter.restart.Goals as goal

pub returns-clause-some : goal.returns-clause-some
returns-clause-some g c =
    let some = c.requires.some in
    let p = some.scenario in
    let mid = c.args.self.now.net in
    let least : c.min-since.result ≡ min c.args.moment mid.state.end = search rules in
    let end : mid.state.end ≡ p.end = end_of_run p mid (record { lines = some.of.lines; comes = some.of.comes }) in
    let is : c.min-since.result ≡ min c.args.moment p.end = least ∙ ap (min c.args.moment) end in
    c.in_ok-restart.ensures.some p some.base some.is_scenario (at_most_end c.min-since.result c.args.moment p.end is) (none_before c.min-since.result c.args.moment p.end mid.state is c.requires.held) some.of

pub returns-clause-begun : goal.returns-clause-begun
returns-clause-begun g c = λ p b of.
    let mid = c.args.self.now.net in
    let least : c.min-since.result ≡ min c.args.moment mid.state.end = search rules in
    let end : mid.state.end ≡ p.end = end_of_run p mid (record { lines = of.lines; comes = of.comes }) in
    let is : c.min-since.result ≡ min c.args.moment p.end = least ∙ ap (min c.args.moment) end in
    subst (λ since. AreOfRun p (base_at p since mid) c.restart.new.self mid) is (c.in_ok-restart.ensures.run p b (at_most_end c.min-since.result c.args.moment p.end is) of)
