-- What a window's fields are after its calls.
use Rattle.std.proofs.Common.{◌≡◌, ℕ, List, set, Bool, false, ap, ◌∙◌}
use Rattle.window_core.specs.declared.window.Window.TheInside.{Inside}
use Rattle.node_group.specs.Group.{GroupValue}
use Rattle.window_core.specs.GroupTables.{GroupTableValue}
use Rattle.window_core.specs.Window.{WindowValue}
use Rattle.window_core.specs.WindowOf.{window_of}

-- a window with other groups, and another end
pub altered : (v w : WindowValue) → v ≡ w → (a b : ℕ) → a ≡ b → (gs hs : List GroupValue) → gs ≡ hs → record v { until = a; groups = gs } ≡ record w { until = b; groups = hs }
altered v w e a b until gs hs groups = λ i. record { entries = (e i).entries; links = (e i).links; ahead = (e i).ahead; end = (e i).end; until = until i; position = (e i).position; groups = groups i; out = (e i).out; taken = (e i).taken }

-- a window with other groups, in or out
pub moved_out : (v w : WindowValue) → v ≡ w → (gs hs : List GroupValue) → gs ≡ hs → (out : Bool) → record v { groups = gs; out = out } ≡ record w { groups = hs; out = out }
moved_out v w e gs hs groups out = λ i. record { entries = (e i).entries; links = (e i).links; ahead = (e i).ahead; end = (e i).end; until = (e i).until; position = (e i).position; groups = groups i; out = out; taken = (e i).taken }

module _ (w : Inside) (v : WindowValue) (view : window_of w ≡ v) where
  pub groups_are : w.group_table.groups ≡ v.groups
  groups_are = ap (λ (x : WindowValue). x.groups) view

  pub its_out : {out : Bool} → v.out ≡ out → w.group_table.out ≡ out
  its_out out = ap (λ (x : WindowValue). x.out) view ∙ out

  -- the window after events of a group
  pub fired_view : (r : GroupTableValue) (number : ℕ) (g : GroupValue) → r ≡ record w.group_table { groups = set w.group_table.groups number g } → v.out ≡ false → window_of record w { group_table = r } ≡ record v { groups = set v.groups number g; out = false }
  fired_view r number g e out = ap (λ (x : GroupTableValue). window_of record w { group_table = x }) e ∙ (λ i. record (view i) { groups = set (groups_are i) number g; out = its_out out i })
