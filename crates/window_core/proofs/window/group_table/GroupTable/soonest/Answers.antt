use Rattle.std.proofs.Common.{◌≡◌, ℕ, List, false, cond, IfSome, Option, sym, ap, subst, ◌∙◌}
use Rattle.node_group.specs.Group.{GroupValue}
use Rattle.window_core.specs.GroupTables.{GroupTableValue, least_moment, nexts_of}
use Rattle.window_core.specs.Window.{states_of}
use Rattle.window_law.specs.Windows.{soonest}
use Rattle.window_core.proofs.GroupTables.{soonest_is}
use Rattle.window_core.proofs.window.group_table.GroupTable.soonest.Goals as goal
use Rattle.window_core.proofs.window.group_table.GroupTable.soonest.Goals.{in-Some, in-None}

pub returns-then-least-lt18446744073709551615 : goal.returns-then-least-lt18446744073709551615
returns-then-least-lt18446744073709551615 c =
    let w = c.self.inside in
    let out : w.out ≡ false = ap (λ (x : GroupTableValue). x.out) c.self.view_is ∙ c.requires in
    let in_is : w.group_states.items ≡ c.args.self.now.groups = ap (λ b. cond b w.lent.value.items w.group_states.items) (sym out) ∙ ap (λ (x : GroupTableValue). x.groups) c.self.view_is in
    let known = c.self.invariant.least in
    let nexts = c.self.invariant.nexts out in
    let least : c.match-self.least ≡ least_moment (nexts_of (states_of w.group_states.items)) = elim c.match-self.branch [
      | in-Some b ↦ b.least-is ∙ subst (λ (o : Option ℕ). IfSome o (λ n. n ≡ least_moment w.nexts.items)) b.in-Some.is known ∙ ap least_moment nexts
      | in-None b ↦ b.least-is ∙ b.least-least.ensures ∙ ap least_moment (b.deref.ensures.value ∙ nexts)
    ] in
    sym (soonest_is (states_of w.group_states.items) c.match-self.least least c.if-least-lt18446744073709551615.true) ∙ ap (λ (gs : List GroupValue). soonest (states_of gs)) in_is
