use Rattle.std.proofs.Common.{◌≡◌, refl, set, subst, Option, Some, None}
use Rattle.std.specs.Option.{option_map}
use Rattle.sim_time.specs.declared.key.Key.{Key}
use Rattle.tournament.proofs.Maps.{not_some, same_some}
use Rattle.node_core.specs.declared.event.Event.{Event}
use Rattle.table_run.specs.State.{due}
use Rattle.window_law.specs.Groups.{GroupState, group_at, up_to, fire_on}
use Rattle.window_law.specs.Calls.{FiringKeepsItOpen, IsOpenFrom}
use Rattle.window_law.proofs.Calls.{opens, fire_keeps, limit_keeps, apart_keeps, unfired_stand}
use Rattle.window_law.proofs.EveryRun.{turn_gives_the_run, each_firing_is_of_the_run}
use Rattle.window_law.proofs.laws.each_call_keeps_the_window.Goals as goal

firing : FiringKeepsItOpen
firing x edge w m h g e = go (due (up_to w.until (group_at w.groups h))) refl e
  where
    go : (o : Option (Key × Event)) → due (up_to w.until (group_at w.groups h)) ≡ o → option_map (fire_on x.group h w.until (group_at w.groups h)) o ≡ Some g → IsOpenFrom x edge record { groups = set w.groups h g; until = w.until }
    go None is e = absurd (not_some e)
    go (Some entry) is e = subst (λ (y : GroupState). IsOpenFrom x edge record { groups = set w.groups h y; until = w.until }) (same_some _ g e) (fire_keeps x edge w m h entry is)

pub returns : goal.returns
returns c = record {
  opens = λ x s groups st. opens x s groups st;
  fires = firing;
  limits = λ x edge w m none moment. limit_keeps x edge w m none moment;
  comes_back = λ x edge w m back size each. apart_keeps x edge w m back size each;
  unfired = λ x edge w m none. unfired_stand x edge w m none;
  turns = turn_gives_the_run;
  of_the_run = each_firing_is_of_the_run;
}
