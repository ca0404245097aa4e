-- A command that gains a subcommand.
use Rattle.std.proofs.Common.{◌≡◌, ◌∙◌, ◌++◌, ◌∷◌, [], ◌||◌, ap, false}
use Rattle.clap.specs.Built.{AddsArg, AddsSubcommand}
use Rattle.clap.specs.Simple.{App, Shape, app_of, shape_of, with_subcommand}
use Rattle.clap.specs.Walk.{Rule, rule_of}
use Rattle.clap.specs.declared.builder.arg.Arg.{Arg}
use Rattle.clap.specs.declared.builder.command.Command.{Command}
use Rattle.clap.specs.declared.builder.command.Command.TheViews.{out-Command}
use Rattle.command_line.specs.CommandLine.{IsBelow}

-- what a parse reads of a command with one subcommand more
pub added : (old sub new : Command) (app : App) (shape : Shape) → app_of old ≡ app → shape_of sub ≡ shape → (out-Command sub).has_globals ≡ false → AddsSubcommand old sub new
    → app_of new ≡ with_subcommand app shape
added old sub new app shape old_is sub_is no_globals adds =
    adds.shape no_globals ∙ ap (λ a. with_subcommand a (shape_of sub)) old_is ∙ ap (with_subcommand app) sub_is

-- a subcommand that gained an argument
pub with_rule_below : (old : Command) (arg : Arg) (new : Command) (shape : Shape) (rule : Rule) → IsBelow shape old → rule_of arg ≡ rule → arg.global ≡ false → AddsArg old arg new → IsBelow (record shape { rules = shape.rules ++ rule ∷ [] }) new
with_rule_below old arg new shape rule below rule_is local adds = record {
  is_shape = ap (λ (a : App). a.top) (adds.shape local) ∙ ap (λ (s : Shape). record s { rules = s.rules ++ rule_of arg ∷ [] }) below.is_shape ∙ ap (λ (r : Rule). record shape { rules = shape.rules ++ r ∷ [] }) rule_is;
  no_globals = adds.globals ∙ ap (λ b. b || arg.global) below.no_globals ∙ local;
}

-- a subcommand before it has an argument
pub plain_below : (command : Command) (shape : Shape) → shape_of command ≡ shape → (out-Command command).has_globals ≡ false → IsBelow shape command
plain_below command shape is local = record { is_shape = is; no_globals = local }
