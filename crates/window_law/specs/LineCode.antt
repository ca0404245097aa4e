-- How a line of the trace is stored.
use Rattle.std.specs.Prelude.{List, refl}
use Rattle.std.specs.Coded.{Coded, code_by, coded×, coded_list}
use Rattle.sim_time.specs.declared.key.Key.{Key}
use Rattle.sim_time.specs.Keys.{key_code}
use Rattle.port.specs.declared.acts.Act.{Act}
use Rattle.port.specs.contracts.acts.Act as act
use Rattle.node_core.specs.declared.event.Event.{Event}
use Rattle.node_core.specs.declared.line.After.{After}
use Rattle.node_core.specs.contracts.event.Event as event
use Rattle.node_core.specs.contracts.line.After as after
use Rattle.node_core.specs.TraceLine.{TraceLine}

abbrev pub line_code : Coded TraceLine
line_code =
    code_by (Key × (Event × (After × List Act))) (coded× key_code (coded× event.the_row.coded (coded× after.the_row.coded (coded_list act.the_row.coded)))) (λ l. (l.key, (l.event, (l.after, l.acts))))
    (λ t. record { key = t.0; event = t.1.0; after = t.1.1.0; acts = t.1.1.1 }) (λ _. refl)
