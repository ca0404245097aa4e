-- A line of the trace may go to another thread, and be shared: what it has for clauses alone owns nothing.
use denote.Param.Send.{IsSend, IsSync, part_keyless, sendable, view_send, view_sync}
use denote.Param.SendFields.{declared_send, declared_sync}
use Rattle.std.specs.contracts.snapshot.Snapshot as Snapshot
use Rattle.sim_time.proofs.key.Key.TheSendSync as key
use Rattle.reno_sender.specs.contracts.fields.SenderFields as SenderFields
use Rattle.port.proofs.acts.Acts.TheSendSync as acts
use Rattle.node_core.specs.contracts.shown.SenderShown as Shown
use Rattle.node_core.specs.contracts.shown.SenderShown.TheInside as Inside
use Rattle.node_core.specs.contracts.line.After as After
use Rattle.node_core.specs.contracts.line.Line as Line
use Rattle.node_core.proofs.event.Event.TheSendSync as event

all_send : IsSend (Snapshot.the_row SenderFields.the_row)
all_send = search sendable depth 20

all_sync : IsSync (Snapshot.the_row SenderFields.the_row)
all_sync = record { shared = λ d b o κ q. part_keyless (Snapshot.the_row SenderFields.the_row) all_send q d b o }

shown_send : IsSend Shown.the_row
shown_send = view_send _ _ _ _ _ (declared_send Inside.the_type (search sendable, (search sendable, (search sendable, (search sendable, (search sendable, (all_send, tt)))))))

shown_sync : IsSync Shown.the_row
shown_sync = view_sync _ _ _ _ _ (declared_sync Inside.the_type (search sendable, (search sendable, (search sendable, (search sendable, (search sendable, (all_sync, tt)))))))

after_send : IsSend After.the_row
after_send = search (sendable, shown_send) depth 30

after_sync : IsSync After.the_row
after_sync = search (sendable, shown_sync) depth 30

pub line_send : IsSend Line.the_row
line_send = declared_send Line.the_type (key.the_send, (event.the_send, (after_send, (acts.the_send, tt))))

pub line_sync : IsSync Line.the_row
line_sync = declared_sync Line.the_type (key.the_sync, (event.the_sync, (after_sync, (acts.the_sync, tt))))
