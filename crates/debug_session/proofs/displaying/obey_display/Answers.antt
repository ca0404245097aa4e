use Rattle.std.proofs.Common.{ℕ, refl, ap, subst}
use Rattle.debugger.specs.Debugging.{Debugging}
use Rattle.prompt_words.specs.Refusals.{answer_of}
use Rattle.debug_session.specs.Answers.{session_state}
use Rattle.prompt_words.specs.Displays.{ObeysDisplays}
use Rattle.debug_session.specs.Readouts.{present}
use Rattle.debug_session.proofs.displaying.obey_display.Goals as goal

pub returns-in-Ok-clause-obeyed : goal.returns-in-Ok-clause-obeyed
returns-in-Ok-clause-obeyed c =
    let d = c.args.dialogue.now.debugger in
    let items = c.args.dialogue.now.displays.items in
    let names = c.args.naming.now.names in
    let changed = c.change_displays in
    let answer = answer_of changed.result changed.new.said in
    record {
      obeyed =
          subst (λ (t : ℕ). ObeysDisplays names (present d t) c.args.asked items changed.new.displays.items answer) c.in-Ok.ensures.ok
          (subst (λ (e : Debugging). ObeysDisplays names (present e c.in-Ok.time) c.args.asked items changed.new.displays.items answer) c.present_time.ensures.same changed.ensures);
      session_state = ap session_state c.present_time.ensures.same;
      memo = refl;
    }

pub returns-in-Ok-clause-start : goal.returns-in-Ok-clause-start
returns-in-Ok-clause-start c = ap (λ (d : Debugging). d.start) c.present_time.ensures.same

pub returns-in-Err-clause-obeyed : goal.returns-in-Err-clause-obeyed
returns-in-Err-clause-obeyed c = record { obeyed = (refl, tt); session_state = ap session_state c.present_time.ensures.same; memo = refl }

pub returns-in-Err-clause-start : goal.returns-in-Err-clause-start
returns-in-Err-clause-start c = ap (λ (d : Debugging). d.start) c.present_time.ensures.same
