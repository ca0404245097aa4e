use Rattle.std.proofs.Common.{◌≡◌, ◌∙◌, List, Err, sym, subst, map, rules}
use Rattle.clap.specs.Kinds.{FailsBy}
use Rattle.clap.specs.Matches.{found_of}
use Rattle.clap.specs.Simple.{app_of, subcommand_of}
use Rattle.clap.specs.Walk.{Row, Text, rows_of}
use Rattle.command_line.specs.CommandLine.{program, word_faults}
use Rattle.command_line.specs.Given.{AreOfSubcommand}
use Rattle.command_line.proofs.Naming.{parsed_faultless, parsed_faulty, parsed_rows, met_named, named_by, asked_for}
use Rattle.command_line.proofs.Options.{same_some}
use Rattle.command_line.proofs.words.read_words.Goals as goal

pub asked_of-requires : goal.asked_of-requires
asked_of-requires g c =
    let words = map g.S.AsStr.text c.args.words.now in
    let app = app_of c.in_ok-commands.field-0 in
    let faultless = parsed_faultless app words c.in_ok-commands.ensures c.in_ok-matches.ensures.kinds in
    let met = met_named c.in_ok-matches.matches c.in-Some.word.now (rows_of (found_of c.in-Some.options.now)) (subcommand_of program words)
    (parsed_rows app words c.in_ok-commands.ensures c.in_ok-matches.matches c.in_ok-matches.ensures.matches) c.in-Some.ensures.name c.in-Some.ensures.rows in
    let named = named_by words faultless in
    let same : named.0 ≡ (c.in-Some.word.now, rows_of (found_of c.in-Some.options.now)) = same_some _ _ (sym named.1 ∙ met) in
    subst (λ (n : Text × List Row). AreOfSubcommand n.0 n.1) same named.2

pub returns-in_err-matches-clause-faults : goal.returns-in_err-matches-clause-faults
returns-in_err-matches-clause-faults g c =
    let words = map g.S.AsStr.text c.args.words.now in
    let error = c.in_err-matches.field-0.0 in
    let is : c.from_residual-in_err-matches.result ≡ Err error = search rules in
    subst (FailsBy (word_faults words)) (sym is) (parsed_faulty (app_of c.in_ok-commands.field-0) words c.in_ok-commands.ensures error c.in_err-matches.ensures.kinds)

pub returns-clause-faults : goal.returns-clause-faults
returns-clause-faults g c = parsed_faultless (app_of c.in_ok-commands.field-0) (map g.S.AsStr.text c.args.words.now) c.in_ok-commands.ensures c.in_ok-matches.ensures.kinds

pub returns-clause-asked : goal.returns-clause-asked
returns-clause-asked g c =
    let words = map g.S.AsStr.text c.args.words.now in
    let app = app_of c.in_ok-commands.field-0 in
    let rows = rows_of (found_of c.in-Some.options.now) in
    let met = met_named c.in_ok-matches.matches c.in-Some.word.now rows (subcommand_of program words)
    (parsed_rows app words c.in_ok-commands.ensures c.in_ok-matches.matches c.in_ok-matches.ensures.matches) c.in-Some.ensures.name c.in-Some.ensures.rows in
    asked_for words (c.in-Some.word.now, rows) c.asked_of.result (parsed_faultless app words c.in_ok-commands.ensures c.in_ok-matches.ensures.kinds) met (c.asked_of.ensures.word, c.asked_of.ensures.said)
