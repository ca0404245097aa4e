use Rattle.std.proofs.Common.{◌<◌, Some, None}
use Rattle.std.specs.Prelude.{MatchOption, IfSome}
use Rattle.tournament.specs.Replayed.{IsRisingMatch, IsReplayed}
use Rattle.tournament.specs.declared.matches.Climb.{Climb}
use Rattle.tournament.proofs.Rising.{risen_whole}
use Rattle.tournament.proofs.matches.matches_above.Goals as goal

pub returns-clause-won : goal.returns-clause-won
returns-clause-won c =
    let leaves = c.args.leaves.now in
    let winners = c.rise_up-root.new.winners in
    let all : IsReplayed leaves winners =
    elim c.rise_up-root.result as (λ r. MatchOption r (IsReplayed leaves winners) (λ (next : Climb). IsRisingMatch leaves winners next.at next.first next.moment) → IfSome r (λ (next : Climb). next.at < 2) → IsReplayed leaves winners) [
      | None ↦ λ done _. done
      | Some next ↦ λ rising root. risen_whole leaves winners next.at next.first next.moment root rising
    ] c.rise_up-root.ensures.rising c.rise_up-root.ensures.below in
    all.won
