use Rattle.std.proofs.Common.{◌≡◌, ◌∙◌, ℕ, List, Option, Some, None, sym, ap}
use Rattle.std.specs.Borrow.{Bor}
use Rattle.std.specs.Option.{option_map}
use Rattle.clap.proofs.WalkLemmas.{first_value-rows}
use Rattle.clap.specs.Matches.{found_of}
use Rattle.clap.specs.Walk.{first_of, rows_of}
use Rattle.command_line.specs.Wishes.{is_true}
use Rattle.command_line.proofs.words.is_set.Goals as goal

abbrev text_of : Option (Bor (List ℕ)) → Option (List ℕ)
text_of = option_map (λ w. w.now)

pub returns-in-Some : goal.returns-in-Some
returns-in-Some c =
    let found = found_of c.args.options.now in
    let is : first_of c.args.flag.now (rows_of found) ≡ Some c.in-Some.value.now = sym (first_value-rows found c.args.flag.now) ∙ sym c.get_str.ensures ∙ ap text_of c.in-Some.is in
    c.eq.ensures ∙ ap is_true (sym is)

pub returns-in-None : goal.returns-in-None
returns-in-None c =
    let found = found_of c.args.options.now in
    let is : first_of c.args.flag.now (rows_of found) ≡ None = sym (first_value-rows found c.args.flag.now) ∙ sym c.get_str.ensures ∙ ap text_of c.in-None.is in
    ap is_true (sym is)
