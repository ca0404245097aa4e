-- the bytes at the places so far were taken and counted; no put has failed
use Rattle.std.proofs.Common.{◌≡◌, ◌≤◌, ◌*◌, ◌^◌, length, take}
use Rattle.std.specs.Io.KnownBytes.{Appends}
use Rattle.window_text.specs.Parts.{text_of}
use Rattle.window_text.proofs.text.Text.put.Given as goal

abbrev pub invariant-loop-place : goal.invariant-loop-place
invariant-loop-place g l =
    Appends (g.S.Sink.contents l.fn.sink) (g.S.Sink.contents l.sink) (text_of l.self.formatters.items (take l.place-index l.self.places.items))
    × (l.done ≡ length (text_of l.self.formatters.items (take l.place-index l.self.places.items)))
    × (l.done ≤ l.place-index * 2 ^ 64)
    × (g.S.Sink.failures l.sink ≡ g.S.Sink.failures l.fn.sink)
