use Rattle.sessions.proofs.Figured.{counted_on, counted_there, has_come, where_ok}
use Rattle.sessions.proofs.counter.Counter.count_from.Goals as goal

pub returns-clause-counted : goal.returns-clause-counted
returns-clause-counted g c = where_ok c.run_to_end.result (λ p opened.
    let mid = c.begin_at.new.self in
    counted_on p c.args.moment mid.figures c.run_to_end.new.self.figures mid.net c.run_to_end.new.self.net (c.run_to_end.ensures.figures p)
    (counted_there p c.args.moment mid.figures mid.net (c.in_ok-begin_at.ensures.begun p opened)))

pub returns-clause-come : goal.returns-clause-come
returns-clause-come g c = λ p opened.
    let mid = c.begin_at.new.self in
    has_come p c.args.moment c.run_to_end.new.self.figures c.run_to_end.new.self.net
    (counted_on p c.args.moment mid.figures c.run_to_end.new.self.figures mid.net c.run_to_end.new.self.net (c.run_to_end.ensures.figures p)
    (counted_there p c.args.moment mid.figures mid.net (c.in_ok-begin_at.ensures.begun p opened)))
