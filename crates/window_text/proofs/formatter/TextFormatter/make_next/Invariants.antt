use Rattle.window_text.specs.Parts.{IsRight}
use Rattle.window_text.proofs.formatter.TextFormatter.make_next.Given as goal

abbrev pub invariant-loop : goal.invariant-loop
invariant-loop l = IsRight l.sheaf l.self
