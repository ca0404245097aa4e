use Rattle.std.proofs.Common.{◌∙◌, ◌++◌, ℕ, ap}
use Rattle.std.proofs.lemmas.Result.{MatchResult-weaker}
use Rattle.debugger.specs.Debugging.{Debugging}
use Rattle.breakpoints.specs.Seen.{read_left_in}
use Rattle.prompt_words.specs.Displays.{displays_from}
use Rattle.debug_session.specs.Readouts.{present}
use Rattle.debug_session.proofs.said.Said.say_behind.Goals as goal

pub returns-in-Ok-clause-told : goal.returns-in-Ok-clause-told
returns-in-Ok-clause-told c =
    let names = c.args.names.now in
    let items = c.args.displays.now in
    let before = c.args.before in
    let said = c.say_compared in
    MatchResult-weaker said.result said.ensures
    (λ _ t. t
    ∙ ap (λ (d : Debugging). c.args.self.now ++ displays_from names (λ what. read_left_in before what d.left) (present d c.in-Ok.time) 1 items) c.present_time.ensures.same
    ∙ ap (λ (t : ℕ). c.args.self.now ++ displays_from names (λ what. read_left_in before what c.args.debugger.now.left) (present c.args.debugger.now t) 1 items) c.in-Ok.ensures.ok)
    (λ _ t. t)
