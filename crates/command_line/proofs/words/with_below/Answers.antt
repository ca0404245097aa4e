use Rattle.std.proofs.Common.{◌≡◌, subst, IfOk}
use Rattle.std.proofs.lemmas.Result.{IfOk-weaker}
use Rattle.clap.specs.Simple.{app_of}
use Rattle.command_line.specs.CommandLine.{IsBelow}
use Rattle.command_line.proofs.Commands.{added}
use Rattle.command_line.proofs.words.with_below.Goals as goal

pub returns : goal.returns
returns c app shape above_is below_is =
    let above = subst (λ r. IfOk r (λ command. app_of command ≡ app)) c.in-Ok.is above_is in
    let below = subst (λ r. IfOk r (IsBelow shape)) c.in-Ok-below.is below_is in
    IfOk-weaker _ _ _ (λ command adds. added c.in-Ok.above c.in-Ok-below.below command app shape above below.is_shape below.no_globals adds) c.subcommand.ensures
