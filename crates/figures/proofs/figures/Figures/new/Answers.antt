use Rattle.std.proofs.Common.{◌≡◌, [], refl, ap, arith}
use Rattle.net_machine.specs.Run.{Reached}
use Rattle.figures.specs.Figures.{whole}
use Rattle.figures.proofs.Along.{opened_run}
use Rattle.figures.proofs.figures.Figures.new.Goals as goal

pub returns-clause-run : goal.returns-clause-run
returns-clause-run c = λ p at. opened_run p c.args.net.now _ at (c.in_ok-figures.ensures c.args.net.now.position [] (λ node within. refl))

pub returns-clause-some : goal.returns-clause-some
returns-clause-some c = λ p is_scenario at.
    let of = returns-clause-run c p at in
    let first : c.in_ok-figures.figures.last ≡ 0 = (c.in_ok-figures.ensures c.args.net.now.position [] (λ node within. refl)).last in
    record {
      scenario = p;
      is_scenario = is_scenario;
      fits = (let none = ap (λ (r : Reached). r.position) at in omega (arith, none));
      base = whole p;
      of = of;
      in_order = λ k v is. omega (arith, first);
    }
