-- the input so far is what the reader gave; no read has failed
use Rattle.std.proofs.Common.{◌≡◌, ◌<◌, ◌-◌, length}
use Rattle.std.specs.Io.KnownBytes.{Consumes}
use Rattle.sessions.proofs.input.read_input.Given as goal

abbrev pub invariant-loop-reader : goal.invariant-loop-reader
invariant-loop-reader g l =
    (0 < length l.room.items) × Consumes (g.R.Source.remaining l.fn.reader) (g.R.Source.remaining l.reader) l.input.items
    × (g.R.Source.failures l.reader ≡ g.R.Source.failures l.fn.reader) × (g.R.Source.typed l.reader ≡ g.R.Source.typed l.fn.reader)

abbrev pub decreases-loop-reader : goal.decreases-loop-reader
decreases-loop-reader g l = 16777217 - length l.input.items
