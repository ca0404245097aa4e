use Rattle.std.proofs.Common.{refl, inl, inr}
use Rattle.clap.proofs.OnLiterals.{clap_on_literals}
use Rattle.clap.specs.declared.error.kind.ErrorKind.TheVariants.{DisplayHelp, DisplayVersion}
use Rattle.command_line.specs.CommandLine.{WordsOfText}
use Rattle.command_line.proofs.words.help_and_version_are_asked_for.Goals as goal

text_words : WordsOfText
unfolding clap_on_literals
text_words = record {
  help = (DisplayHelp, refl, inl refl);
  asm_help = (DisplayHelp, refl, inl refl);
  dis_help = (DisplayHelp, refl, inl refl);
  run_help = (DisplayHelp, refl, inl refl);
  figures_help = (DisplayHelp, refl, inl refl);
  debug_help = (DisplayHelp, refl, inl refl);
  explain_help = (DisplayHelp, refl, inl refl);
  version = (DisplayVersion, refl, inr refl);
}

pub returns : goal.returns
returns c = text_words
