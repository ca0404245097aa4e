use Rattle.std.proofs.Common.{◌≡◌, ◌<◌, length, true, sym, subst, ◌∙◌, arith}
use Rattle.sim_time.specs.declared.limits.TheConstants.{MOST_EVENTS}
use Rattle.window_core.specs.Faults.{WindowIsDone, events_in}
use Rattle.window_core.specs.Full.{HasTooMany, initial_at}
use Rattle.window_core.specs.Window.{WindowValue, states_of, IsWindow, IsFrom}
use Rattle.window_core.specs.WindowOf.{window_of}
use Rattle.window_law.specs.Windows.{all_done, all_lines}
use Rattle.window_core.proofs.TooMany.{full_turn_has_too_many}
use Rattle.window_core.proofs.window.Window.ready.Goals as goal

pub returns-then-self-count-gt-MOST_EVENTS-clause-reported : goal.returns-then-self-count-gt-MOST_EVENTS-clause-reported
returns-then-self-count-gt-MOST_EVENTS-clause-reported c =
    let w = c.self.inside in
    let reported = c.reported-count.result in
    let v : WindowValue = window_of w in
    let v_is : v ≡ c.args.self.now = c.self.view_is in
    let is : IsWindow v = c.self.invariant.window in
    let all : all_done w.until (states_of w.group_table.groups) ≡ true = sym c.all_done.ensures ∙ c.if-not-all_done.false in
    let count : reported ≡ length (all_lines (states_of w.group_table.groups)) = c.reported-count.ensures.count in
    let more = c.if-self-count-gt-MOST_EVENTS.true in
    let many : MOST_EVENTS < events_in v = omega (arith, count, more) in (
      subst WindowIsDone v_is all,
      subst (λ (x : WindowValue). MOST_EVENTS < events_in x) v_is many,
      λ edge from. subst (λ (x : WindowValue). HasTooMany (initial_at edge x)) v_is (full_turn_has_too_many edge v (subst (IsFrom edge) (sym v_is) from) is.split.fits all many),
    )
