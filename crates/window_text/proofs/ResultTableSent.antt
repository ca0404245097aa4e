-- A result table, a ticket and a window's lines may go to another thread, and a result table may be shared.
use denote.Builtin.{unit}
use denote.Param.Send.{IsSend, IsSync, sendable, view_send, view_sync}
use denote.Param.SendFields.{declared_send, declared_sync}
use Rattle.std.proofs.Crossing as heap
use Rattle.std.proofs.alloc.Global.TheSendSync as global
use Rattle.std.specs.contracts.alloc.Global as Global
use Rattle.std.specs.contracts.impls.GlobalAllocator.TheImpl.{ghosts as heap_ghosts}
use Rattle.std.specs.contracts.option.Option as Option
use Rattle.std.specs.contracts.snapshot.Snapshot as Snapshot
use Rattle.atomic_table.proofs.owned.Table.TheSendSync as table
use Rattle.atomic_table.proofs.shared.Seat.TheSendSync as seat
use Rattle.atomic_table.specs.contracts.owned.Table as Table
use Rattle.line_merge.specs.contracts.sheaf.Sheaf as Sheaf
use Rattle.line_merge.specs.contracts.sheaf.Sheaf.TheInside as InsideSheaf
use Rattle.line_merge.specs.contracts.sheaf.lines.Lines as Lines
use Rattle.line_merge.specs.contracts.sheaf.lines.Lines.TheInside as InsideLines
use Rattle.node_core.proofs.Sent.{line_send}
use Rattle.window_text.proofs.formatter.TextFormatter.TheSendSync as formatter
use Rattle.window_text.specs.contracts.result_table.ResultTable as ResultTable
use Rattle.window_text.specs.contracts.result_table.ResultTable.TheInside as InsideResultTable
use Rattle.window_text.specs.contracts.result_table.ticket.Ticket as Ticket
use Rattle.window_text.specs.contracts.result_table.ticket.Ticket.TheInside as InsideTicket
use Rattle.window_text.specs.contracts.result_table.rule.ResultTableRule as ResultTableRule
use Rattle.window_text.specs.contracts.result_table.rule.ResultTableRuleTableRuleOptionTextFormatterUnitSnapshotSheaf.TheImpl.{ghosts as rule_ghosts}
use Rattle.window_text.specs.contracts.formatter.TextFormatter as TextFormatter

laid_send : IsSend (Option.the_row TextFormatter.the_row)
laid_send = search (sendable, formatter.the_send) depth 20

pub ticket_send : IsSend Ticket.the_row
ticket_send = view_send _ _ _ _ _ (declared_send InsideTicket.the_type (seat.the_send _ _ laid_send, tt))

places_send : IsSend (Table.the_row (Option.the_row TextFormatter.the_row) unit (Snapshot.the_row Sheaf.the_row) ResultTableRule.the_row Global.the_row rule_ghosts heap_ghosts)
places_send = table.the_send (Option.the_row TextFormatter.the_row) unit (Snapshot.the_row Sheaf.the_row) ResultTableRule.the_row Global.the_row rule_ghosts heap_ghosts laid_send global.the_send heap.frees

places_sync : IsSync (Table.the_row (Option.the_row TextFormatter.the_row) unit (Snapshot.the_row Sheaf.the_row) ResultTableRule.the_row Global.the_row rule_ghosts heap_ghosts)
places_sync = table.the_sync (Option.the_row TextFormatter.the_row) unit (Snapshot.the_row Sheaf.the_row) ResultTableRule.the_row Global.the_row rule_ghosts heap_ghosts laid_send global.the_send global.the_sync heap.frees

pub result_table_send : IsSend ResultTable.the_row
result_table_send = view_send _ _ _ _ _ (declared_send InsideResultTable.the_type (places_send, tt))

pub result_table_sync : IsSync ResultTable.the_row
result_table_sync = view_sync _ _ _ _ _ (declared_sync InsideResultTable.the_type (places_sync, tt))

lines_send : IsSend Lines.the_row
lines_send = view_send _ _ _ _ _ (declared_send InsideLines.the_type (heap.Vec-send _ line_send, (search sendable, tt)))

pub sheaf_send : IsSend Sheaf.the_row
sheaf_send = view_send _ _ _ _ _ (declared_send InsideSheaf.the_type (heap.Vec-send _ lines_send, (search sendable, (search sendable, tt))))
