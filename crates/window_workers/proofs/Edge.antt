-- What a window at its edge stands for.
use Rattle.std.proofs.Common.{◌≡◌, length, true, sym, ap, ◌∙◌}
use Rattle.table_run.specs.State.{State}
use Rattle.window_core.specs.Partition.{group_in}
use Rattle.window_core.specs.Standing.{Stands, joined}
use Rattle.window_core.specs.Window.{WindowValue, IsFrom, states_of, machine_of}
use Rattle.window_core.specs.Windows.{none_fired, setting_of}
use Rattle.window_law.proofs.Calls.{unfired_stand}
use Rattle.window_law.proofs.EveryRun.{same_end}
use Rattle.window_law.proofs.Joined.{joined_is_the_state}
use Rattle.window_workers.specs.Edges.{nodes_in, edge_of}

-- the groups hold the state at which the window opened, while none has fired
pub stands_at : (v : WindowValue) (edge : State) → IsFrom edge v → none_fired (states_of v.groups) ≡ true → Stands (group_in v.entries) edge (states_of v.groups)
stands_at v edge f none = unfired_stand (setting_of (group_in v.entries) f.scenario) edge (machine_of v) f.in_run.is_open none

-- and are it together
pub edge_is : (v : WindowValue) (edge : State) → IsFrom edge v → none_fired (states_of v.groups) ≡ true → edge_of v ≡ edge
edge_is v edge f none =
    let st = stands_at v edge f none in
    let ends : v.end ≡ edge.end = f.end_is ∙ sym (same_end f.scenario v.position f.before edge f.in_run.comes) in
    let many : nodes_in v ≡ length edge.parts = st.sizes 0 in
    ap (λ n. joined (group_in v.entries) n v.end (states_of v.groups)) many
    ∙ ap (λ e. joined (group_in v.entries) (length edge.parts) e (states_of v.groups)) ends
    ∙ joined_is_the_state (group_in v.entries) edge (states_of v.groups) st
