-- The lines that a batch's fields are.
use Rattle.std.specs.Prelude.{All}
use Rattle.line_merge.specs.declared.batch.Batch.TheInside.{Inside}
use Rattle.line_merge.specs.Batches.{BatchValue}
use Rattle.line_merge.specs.Merged.{IsSpot, lines_at_spots}

abbrev pub batch_of : Inside → BatchValue
batch_of b = record { first = b.sheaf.first; lines = lines_at_spots b.sheaf.lists b.order.items }

-- each spot is one of a line
abbrev pub IsBatch : Inside → Type 0
IsBatch b = All (IsSpot b.sheaf.lists) b.order.items
