use Rattle.std.proofs.Common.{◌≡◌, []}
use Rattle.window_core.specs.Turning.{AreReady}
use Rattle.window_core.specs.GroupTables.{nexts_of}
use Rattle.window_core.specs.Window.{states_of, value_at}
use Rattle.window_core.proofs.HandedEach.{HandedFrom, left_over}
use Rattle.window_core.proofs.window.handing.hand_all.Given as goal

-- the groups before this one have handed over their outgoing messages
abbrev pub invariant-loop-from : goal.invariant-loop-from
invariant-loop-from l = (ready : AreReady l.partition l.links l.fn.group_states) → HandedFrom l.partition l.links l.fn.group_states ready l.group_states l.from × ((l.chain ≡ []) × (l.nexts ≡ nexts_of (states_of l.group_states)))

-- so too while this one does
abbrev pub invariant-loop : goal.invariant-loop
invariant-loop l = (ready : AreReady l.partition l.links l.fn.group_states) → HandedFrom l.partition l.links l.fn.group_states ready l.group_states l.from × ((l.chain ≡ []) × (l.nexts ≡ nexts_of (states_of l.group_states)))

abbrev pub decreases-loop : goal.decreases-loop
decreases-loop l = left_over (value_at l.group_states l.from).held
