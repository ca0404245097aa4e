use Rattle.std.proofs.Common.{refl}
use Rattle.clap.proofs.OnLiterals.{clap_on_literals}
use Rattle.command_line.specs.CommandLine.{WordsOfSubcommands}
use Rattle.command_line.proofs.words.subcommands_are_asked_for.Goals as goal

subcommand_words : WordsOfSubcommands
unfolding clap_on_literals
subcommand_words = record {
  asm = record { faultless = refl; named = refl; given = (tt, tt, refl, refl) };
  dis = record { faultless = refl; named = refl; given = (tt, tt, refl, refl) };
  run = record { faultless = refl; named = refl; given = (record { workers = refl; groups = refl }, tt, refl, refl) };
  run_shared = record { faultless = refl; named = refl; given = (record { workers = refl; groups = refl }, tt, refl, refl) };
  debug = record { faultless = refl; named = refl; given = (record { workers = refl; groups = refl }, tt, refl, refl) };
  debug_shared = record { faultless = refl; named = refl; given = (record { workers = refl; groups = refl }, tt, refl, refl) };
  debug_file = record { faultless = refl; named = refl; given = (record { workers = refl; groups = refl }, tt, refl, refl) };
  debug_dash = record { faultless = refl; named = refl; given = (record { workers = refl; groups = refl }, tt, refl, refl) };
  debug_shown = record { faultless = refl; named = refl; given = (record { workers = refl; groups = refl }, tt, refl, refl) };
  asm_file = record { faultless = refl; named = refl; given = (tt, tt, refl, refl) };
  dis_file = record { faultless = refl; named = refl; given = (tt, tt, refl, refl) };
  run_file = record { faultless = refl; named = refl; given = (record { workers = refl; groups = refl }, tt, refl, refl) };
  run_dashes = record { faultless = refl; named = refl; given = (record { workers = refl; groups = refl }, tt, refl, refl) };
  run_reported = record { faultless = refl; named = refl; given = (record { workers = refl; groups = refl }, tt, refl, refl) };
  figures = record { faultless = refl; named = refl; given = (tt, record { from = refl; every = refl; series = refl; names = refl }, refl, refl) };
  figures_reported = record { faultless = refl; named = refl; given = (tt, record { from = refl; every = refl; series = refl; names = refl }, refl, refl) };
  figures_from = record { faultless = refl; named = refl; given = (tt, record { from = refl; every = refl; series = refl; names = refl }, refl, refl) };
  figures_by_time = record { faultless = refl; named = refl; given = (tt, record { from = refl; every = refl; series = refl; names = refl }, refl, refl) };
  asm_shown = record { faultless = refl; named = refl; given = (tt, tt, refl, refl) };
  explain = record { faultless = refl; named = refl; given = refl };
  explain_code = record { faultless = refl; named = refl; given = refl };
}

pub returns : goal.returns
returns c = subcommand_words
