-- at the places so far is the text of the lines so far
use Rattle.std.proofs.Common.{◌≡◌, ◌≤◌, All, length, take}
use Rattle.line_merge.specs.Sheaves.{merged}
use Rattle.window_text.specs.Parts.{AreRight, IsInside, text_of}
use Rattle.window_text.specs.Text.{text_from}
use Rattle.window_text.proofs.text.Text.put_in_order.Given as goal

abbrev pub invariant-loop : goal.invariant-loop
invariant-loop l =
    AreRight l.sheaf l.self.formatters.items
    × All (IsInside l.self.formatters.items) l.self.places.items
    × (length l.self.places.items ≤ l.counter)
    × (l.at ≤ length (merged l.sheaf).lines)
    × (text_of l.self.formatters.items l.self.places.items ≡ text_from l.sheaf.first (take l.at (merged l.sheaf).lines))
