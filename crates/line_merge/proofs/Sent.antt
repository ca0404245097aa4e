-- Threads may share the lines of a window.
use denote.Param.Send.{IsSync, sendable, view_sync}
use denote.Param.SendFields.{declared_sync}
use Rattle.std.proofs.Crossing as heap
use Rattle.node_core.proofs.Sent.{line_sync}
use Rattle.line_merge.specs.contracts.sheaf.Sheaf as Sheaf
use Rattle.line_merge.specs.contracts.sheaf.Sheaf.TheInside as InsideSheaf
use Rattle.line_merge.specs.contracts.sheaf.lines.Lines as Lines
use Rattle.line_merge.specs.contracts.sheaf.lines.Lines.TheInside as InsideLines

lines_sync : IsSync Lines.the_row
lines_sync = view_sync _ _ _ _ _ (declared_sync InsideLines.the_type (heap.Vec-sync _ line_sync, (search sendable, tt)))

pub sheaf_sync : IsSync Sheaf.the_row
sheaf_sync = view_sync _ _ _ _ _ (declared_sync InsideSheaf.the_type (heap.Vec-sync _ lines_sync, (search sendable, (search sendable, tt))))
