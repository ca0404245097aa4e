use Rattle.std.proofs.Common.{subst, IfOk}
use Rattle.std.proofs.lemmas.Result.{IfOk-weaker}
use Rattle.command_line.specs.CommandLine.{IsBelow}
use Rattle.command_line.proofs.Commands.{with_rule_below}
use Rattle.command_line.proofs.words.with_arg.Goals as goal

pub returns : goal.returns
returns c shape rule below rule_is local =
    let old = subst (λ r. IfOk r (IsBelow shape)) c.in_ok-command.was below in
    IfOk-weaker _ _ _ (λ new adds. with_rule_below c.in_ok-command.field-0 c.args.arg new shape rule old rule_is local adds) c.arg.ensures
