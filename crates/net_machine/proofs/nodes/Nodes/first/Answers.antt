use Rattle.std.proofs.Common.{◌≡◌, ℕ, List, None, Option, subst, ◌∙◌, ap}
use Rattle.tournament.specs.Timed.{time_at, IsSoonest}
use Rattle.tournament.proofs.Timed.{led, none_led}
use Rattle.net_machine.specs.Nodes.{next_keys, next_times}
use Rattle.net_machine.proofs.nodes.Nodes.first.Goals as goal

pub returns-in-Some : goal.returns-in-Some
returns-in-Some c =
    let first = led (next_keys c.args.self.now) c.requires.in_place c.in-Some.place c.in-Some.time (subst (λ (times : List (Option ℕ)). IsSoonest times c.in-Some.place c.in-Some.time) (c.self.invariant ∙ ap next_times c.self.view_is) c.in-Some.ensures) in
    record { key = first.0; leads = first.1.0; at_time = first.1.1 }

pub returns-in-None : goal.returns-in-None
returns-in-None c = none_led (next_keys c.args.self.now) (subst (λ (times : List (Option ℕ)). (place : ℕ) → time_at times place ≡ None) (c.self.invariant ∙ ap next_times c.self.view_is) c.in-None.ensures)
