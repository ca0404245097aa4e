use Rattle.std.proofs.Common.{◌∙◌, sym, codes}
use Rattle.clap.proofs.WalkLemmas.{first_value-rows}
use Rattle.clap.specs.Matches.{found_of}
use Rattle.command_line.proofs.words.asked_of.Goals as goal

pub returns-then-eq-clause-said : goal.returns-then-eq-clause-said
returns-then-eq-clause-said c = sym (c.new.ensures ∙ c.get_str.ensures ∙ first_value-rows (found_of c.args.options.now) (codes "code"))

pub returns-else-eq-clause-said : goal.returns-else-eq-clause-said
returns-else-eq-clause-said c =
    (c.task_of-task.ensures.sharing, c.task_of-task.ensures.counting, sym (c.new-file.ensures ∙ c.get_str-else-eq.ensures ∙ first_value-rows (found_of c.args.options.now) (codes "file")), sym c.wishes_of.ensures)
