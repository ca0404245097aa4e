use Rattle.std.proofs.Common.{◌∙◌, List, refl, sym, ap, subst}
use Rattle.std.proofs.lemmas.Result.{MatchResult-weaker}
use Rattle.prompt_words.specs.declared.display.DisplayCommand.{DisplayCommand}
use Rattle.prompt_words.specs.declared.display.DisplayCommand.TheVariants.{All}
use Rattle.prompt_words.specs.Refusals.{answer_of}
use Rattle.prompt_words.specs.Displays.{display_listing, ObeysDisplays}
use Rattle.debug_session.specs.Readouts.{present}
use Rattle.debug_session.proofs.Displayed.{told}
use Rattle.debug_session.proofs.displaying.change_displays.Goals as goal

pub returns-in-All : goal.returns-in-All
returns-in-All c =
    let now = present c.args.debugger.now c.args.time in
    let items = c.args.displays.now.items in
    let said = c.say_displays in
    subst (λ (k : DisplayCommand). ObeysDisplays c.args.names.now now k items items (answer_of said.result said.new.self)) (sym c.in-All.is)
    (told c.args.names.now now All items said.result said.new.self (MatchResult-weaker said.result said.ensures (λ _ t. (refl, t ∙ ap (display_listing c.args.names.now now) c.as_slice.ensures.value)) (λ _ t. t)))

pub returns-in-Add : goal.returns-in-Add
returns-in-Add c =
    let set = c.set_display in
    subst (λ (k : DisplayCommand). ObeysDisplays c.args.names.now (present c.args.debugger.now c.args.time) k c.args.displays.now.items set.new.displays.items (answer_of set.result set.new.said)) (sym c.in-Add.is) set.ensures

pub returns-in-TakeAway : goal.returns-in-TakeAway
returns-in-TakeAway c =
    let now = present c.args.debugger.now c.args.time in
    let taken = c.undisplay in
    subst (λ (k : DisplayCommand). ObeysDisplays c.args.names.now now k c.args.displays.now.items taken.new.displays.items (answer_of taken.result taken.new.said)) (sym c.in-TakeAway.is) (taken.ensures now)
