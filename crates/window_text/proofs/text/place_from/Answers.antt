use Rattle.std.proofs.Common.{subst}
use Rattle.window_text.specs.declared.formatter.TextFormatter.{TextFormatter}
use Rattle.window_text.specs.Parts.{HasText}
use Rattle.window_text.proofs.Parted.{is_place}
use Rattle.window_text.proofs.text.place_from.Goals as goal

pub returns-in-Some : goal.returns-in-Some
returns-in-Some c =
    let s = c.args.sheaf.now in
    let formatter = c.index-formatters-formatter.result in
    let is = c.in-Some.ensures in
    is_place s c.args.formatters.now c.args.at c.loop-formatter.formatter formatter c.in-Some.part c.loop-formatter-test.true
    (subst (λ (x : TextFormatter). HasText s x.text c.in-Some.part) c.index-formatters-formatter.is is.text) is.from is.some
