-- The subcommand that words without a fault name, with its options.
use mathlib.Core.Bool.{false≢true}
use Rattle.std.proofs.Common.{◌≡◌, ◌≢◌, inl, inr, ◌==◌, ℕ, Bool, true, false, not, ◌&&◌, List, [], codes, cond, is_some, refl, sym, ◌∙◌, ap, ap₂, subst, slice_index, Option, Some, None, IfSome}
use Rattle.std.specs.List.{list_any}
use Rattle.std.specs.Option.{option_map, option_map_or, option_and_then}
use Rattle.clap.specs.Facts.{explicit_source}
use Rattle.clap.specs.Faults.{fault_of, is_simple_and_free, level_fault, walk_fault, settle_fault, defaults_fault, check_fault, entered_fault}
use Rattle.clap.specs.Kinds.{Kinds, HasKind, or_else, check_kinds}
use Rattle.clap.specs.Matches.{subcommand_name_of}
use Rattle.clap.specs.Simple.{App, HasMatchesOf, Shape, argument_words, built, built_leaf, entered, inherited, marked_built, names_of, on_top, rows_at, subcommand_of, subcommand_rows_of, with_leaf_noted}
use Rattle.clap.specs.Takes.{is_given}
use Rattle.clap.specs.Walk.{Held, Names, Row, Text, finished, first_of, nothing_held, settled, stop_after, walk, walk_from}
use Rattle.clap.specs.declared.error.Error.{Error}
use Rattle.clap.specs.declared.parser.matches.ArgMatches.{ArgMatches}
use Rattle.clap.specs.declared.parser.matches.ArgMatches.TheViews.{out-ArgMatches}
use Rattle.command_line.specs.declared.subcommand.Counting.{Counting}
use Rattle.command_line.specs.declared.subcommand.Asked.{Asked}
use Rattle.command_line.specs.declared.subcommand.Asked.TheVariants.{Session, Explanation}
use Rattle.command_line.specs.declared.subcommand.Subcommand.TheVariants.{Asm, Dis, Run, Figures}
use Rattle.command_line.specs.declared.subcommand.Task.{Task}
use Rattle.command_line.specs.declared.subcommand.Task.TheVariants.{Scenario, Debug}
use Rattle.command_line.specs.CommandLine.{program, file_shape, figures_shape as moment_shape, code_shape, word_faults, option_text, number_of, Give, GiveCounting, GiveAll, AskFor, WordsAskForOne}
use Rattle.command_line.specs.Given.{AreOptions, AreOfSubcommand, AreOfAsked, IsSharing, IsCounting}
use Rattle.command_line.specs.Sharing.{SharingValue}
use Rattle.command_line.specs.Subcommand.{word_of, asked_word, sharing_of, counting_of}
use Rattle.command_line.specs.Wishes.{is_true, wishes_by, wishes_in}
use Rattle.command_line.specs.declared.subcommand.Wishes.{Wishes}
use Rattle.command_line.proofs.NoKinds.{some_kind, first, second}
use Rattle.command_line.proofs.Options.{some_none, same_some}
use Rattle.command_line.proofs.OptionRows.{shared_rules, shared_usable, shared_there, run_rules, run_usable, run_there}
use Rattle.command_line.proofs.OptionWalk.{shape_with, options_there}

fifth : (a b c d last : Kinds) → or_else a (or_else b (or_else c (or_else d last))) ≡ [] → last ≡ []
fifth a b c d last none =
    second d last (second c (or_else d last) (second b (or_else c (or_else d last)) (second a (or_else b (or_else c (or_else d last))) none)))

wants : (help wanted argument : Bool) → wanted ≡ true → check_kinds help wanted argument ≢ []
wants true wanted argument is none = some_kind _ _ none
wants false true argument is none = some_kind _ _ none
wants false false argument is none = false≢true is

-- a command that wants a subcommand and has none is faulty
is_wanted : (shape : Shape) (rows : List Row) → shape.subcommand_required ≡ true → check_fault shape rows false ≢ []
is_wanted shape rows required none =
    wants (shape.arg_required_else_help && not (list_any (λ r. explicit_source r.source) rows)) shape.subcommand_required
    (not (shape.subcommand_negates_reqs && false) && list_any (λ a. a.required && not (is_given a.id rows)) shape.rules) required none

-- a command that wants a subcommand and gives no fault entered one
entered_one : (shape : Shape) (names : Names) (held : Held) (words : List Text) (has : Bool) (below : Kinds) → shape.subcommand_required ≡ true → level_fault shape names held words has below ≡ [] → has ≡ true
entered_one shape names held words true below required none = refl
entered_one shape names held words false below required none =
    let end : Held = (walk shape.rules names held words).held in
    absurd (is_wanted shape (finished shape.rules end) required
    (fifth (walk_fault shape names (walk_from held) words) below (settle_fault shape.rules shape.args_override_self end) (defaults_fault (settled shape.rules end).rows shape.rules) (check_fault shape (finished shape.rules end) false) none))

-- where the words of a subcommand begin
abbrev stop_in : List Text → Option (Text × List Text)
stop_in words = stop_after (built program).top.rules (names_of (built program)) (argument_words (built program) words)

-- words without a fault enter a subcommand
enter : (words : List Text) → word_faults words ≡ [] → is_some (subcommand_of program words) ≡ true
enter words none =
    let given = argument_words (built program) words in
    entered_one (built program).top (names_of (built program)) nothing_held given (is_some (entered (built program) (stop_in words))) (entered_fault (built program) (stop_in words)) refl none

-- and those behind it have none
inside : (words : List Text) → word_faults words ≡ [] → entered_fault (built program) (stop_in words) ≡ []
inside words none =
    let given = argument_words (built program) words in
    let names = names_of (built program) in
    let shape = (built program).top in
    let below = entered_fault (built program) (stop_in words) in
    let end : Held = (walk shape.rules names nothing_held given).held in
    let last : Kinds = or_else (settle_fault shape.rules shape.args_override_self end)
    (or_else (defaults_fault (settled shape.rules end).rows shape.rules) (check_fault shape (finished shape.rules end) (is_some (entered (built program) (stop_in words))))) in
    first below last (second (walk_fault shape names (walk_from nothing_held) given) (or_else below last) none)

-- what a command has found, with the words behind it
abbrev found_at : List Text → Option Shape → Option (Text × List Row)
found_at rest = option_map (λ (s : Shape). rows_at s rest)

abbrev pub fault_at : List Text → Option Shape → Kinds
fault_at rest found = option_map_or (λ (s : Shape). level_fault s [] nothing_held rest false []) found []

-- what was found is a subcommand's
abbrev IsNamed : Option (Text × List Row) → Type 0
IsNamed found = (named : Text × List Row) × (found ≡ Some named) × AreOfSubcommand named.0 named.1

-- a subcommand as its parse has it
abbrev leaf : Shape → Shape
leaf shape = built_leaf (inherited (on_top with_leaf_noted (on_top marked_built program)).top shape)

abbrev asm_shape : Shape
asm_shape = leaf (file_shape (codes "asm"))

abbrev dis_shape : Shape
dis_shape = leaf (file_shape (codes "dis"))

abbrev figures_shape : Shape
figures_shape = leaf (moment_shape (codes "figures"))

abbrev explain_shape : Shape
explain_shape = leaf (code_shape (codes "explain"))

abbrev first_of_six : Bool → Bool → Bool → Bool → Bool → Bool → Option Shape
first_of_six asm dis run figures debug explain =
    cond asm (Some asm_shape) (cond dis (Some dis_shape) (cond run (Some (shape_with (codes "run") run_rules)) (cond figures (Some figures_shape) (cond debug (Some (shape_with (codes "debug") shared_rules)) (cond explain (Some explain_shape) None)))))

-- the first of six subcommands that passes a test
one_of_six : (asm dis run figures debug explain : Bool) (rest : List Text) → is_some (found_at rest (first_of_six asm dis run figures debug explain)) ≡ true → fault_at rest (first_of_six asm dis run figures debug explain) ≡ []
    → IsNamed (found_at rest (first_of_six asm dis run figures debug explain))
one_of_six true dis run figures debug explain rest found none = (rows_at asm_shape rest, refl, inr (inl refl))
one_of_six false true run figures debug explain rest found none = (rows_at dis_shape rest, refl, inr (inr (inl refl)))
one_of_six false false true figures debug explain rest found none =
    (rows_at (shape_with (codes "run") run_rules) rest, refl, inr (inr (inr (inr (inl (refl, options_there run_rules run_usable (codes "run") run_there rest none))))))
one_of_six false false false true debug explain rest found none = (rows_at figures_shape rest, refl, inr (inr (inr (inl refl))))
one_of_six false false false false true explain rest found none =
    (rows_at (shape_with (codes "debug") shared_rules) rest, refl, inr (inr (inr (inr (inr (refl, options_there shared_rules shared_usable (codes "debug") shared_there rest none))))))
one_of_six false false false false false true rest found none = (rows_at explain_shape rest, refl, inl refl)
one_of_six false false false false false false rest found none = absurd (false≢true found)

-- the subcommand that was entered is one of them
name_entered : (stop : Option (Text × List Text)) → is_some (entered (built program) stop) ≡ true → entered_fault (built program) stop ≡ [] → IsNamed (entered (built program) stop)
name_entered None found none = absurd (false≢true found)
name_entered (Some (word, rest)) found none = one_of_six _ _ _ _ _ _ rest found none

pub named_by : (words : List Text) → word_faults words ≡ [] → IsNamed (subcommand_of program words)
named_by words none = name_entered (stop_in words) (enter words none) (inside words none)

-- what a subcommand's word and options ask for
abbrev IsOf : Text → List Row → Asked → Type 0
IsOf word rows asked = (word ≡ asked_word asked) × AreOfAsked rows asked

sharing_there : (rows : List Row) → AreOptions rows → (sharing : SharingValue) × IsSharing rows sharing
sharing_there rows has = (record { workers = number_of has.workers; groups = has.groups }, record { workers = ap (option_map number_of) has.are_workers; groups = has.are_groups })

-- what figures the options ask for
abbrev counting_in : List Row → Counting
counting_in rows = record { from = first_of (codes "from") rows; every = first_of (codes "every") rows; series = is_true (first_of (codes "series") rows); names = is_true (first_of (codes "names") rows) }

counting_there : (rows : List Row) → IsCounting rows (counting_in rows)
counting_there rows = record { from = refl; every = refl; series = refl; names = refl }

asked_there : (word : Text) (rows : List Row) → AreOfSubcommand word rows → (asked : Asked) × IsOf word rows asked
asked_there word rows (inl explain) = (Explanation (first_of (codes "code") rows), (explain, refl))
asked_there word rows (inr (inl asm)) = (Session (Scenario Asm) (first_of (codes "file") rows) (wishes_in rows), (asm, (tt, tt, refl, refl)))
asked_there word rows (inr (inr (inl dis))) = (Session (Scenario Dis) (first_of (codes "file") rows) (wishes_in rows), (dis, (tt, tt, refl, refl)))
asked_there word rows (inr (inr (inr (inl figures)))) = (Session (Scenario (Figures (counting_in rows))) (first_of (codes "file") rows) (wishes_in rows), (figures, (tt, counting_there rows, refl, refl)))
asked_there word rows (inr (inr (inr (inr (inl run))))) = let shared = sharing_there rows run.1 in (Session (Scenario (Run shared.0)) (first_of (codes "file") rows) (wishes_in rows), (run.0, (shared.1, tt, refl, refl)))
asked_there word rows (inr (inr (inr (inr (inr debug))))) = let shared = sharing_there rows debug.1 in (Session (Debug shared.0) (first_of (codes "file") rows) (wishes_in rows), (debug.0, (shared.1, tt, refl, refl)))

-- what the word and options of the subcommand that faultless words name ask for
pub asked_for : (words : List Text) (named : Text × List Row) (asked : Asked) → word_faults words ≡ [] → subcommand_of program words ≡ Some named → IsOf named.0 named.1 asked → AskFor words asked
asked_for words named asked none is of = record {
  faultless = none;
  named = ap (option_map (λ (n : Text × List Row). n.0)) is ∙ ap Some of.0;
  given = all asked of.1;
}
  where
    text : (id : Text) → option_text id words ≡ first_of id named.1
    text id = ap (option_and_then (λ (n : Text × List Row). first_of id n.1)) is

    options : (o : Option SharingValue) → IfSome o (IsSharing named.1) → IfSome o (Give words)
    options None given = tt
    options (Some sharing) given = record { workers = ap (option_map number_of) (text (codes "workers")) ∙ given.workers; groups = text (codes "groups") ∙ given.groups }

    counting : (o : Option Counting) → IfSome o (IsCounting named.1) → IfSome o (GiveCounting words)
    counting None given = tt
    counting (Some c) given = record {
      from = text (codes "from") ∙ given.from;
      every = text (codes "every") ∙ given.every;
      series = ap is_true (text (codes "series")) ∙ given.series;
      names = ap is_true (text (codes "names")) ∙ given.names;
    }

    wishes : wishes_by (λ flag. option_text flag words) ≡ wishes_in named.1
    wishes = ap₂ (λ progress explain. record { progress = is_true progress; explain = is_true explain }) (text (codes "progress")) (text (codes "explain"))

    all : (asked : Asked) → AreOfAsked named.1 asked → GiveAll words asked
    all (Session task file wished) given = (options (sharing_of task) given.0, counting (counting_of task) given.1, text (codes "file") ∙ given.2, wishes ∙ given.3)
    all (Explanation code) given = text (codes "code") ∙ given

-- words that differ in their second letters are two
differ : (a b : List ℕ) → a ≡ b → (slice_index a 1 == slice_index a 1) ≡ true → (slice_index a 1 == slice_index b 1) ≡ false → ⊥
differ a b is same other = false≢true (sym other ∙ ap (λ w. slice_index a 1 == slice_index w 1) (sym is) ∙ same)

-- and so are words that differ in their first letters
differ_first : (a b : List ℕ) → a ≡ b → (slice_index a 0 == slice_index a 0) ≡ true → (slice_index a 0 == slice_index b 0) ≡ false → ⊥
differ_first a b is same other = false≢true (sym other ∙ ap (λ w. slice_index a 0 == slice_index w 0) (sym is) ∙ same)

-- options are given in one way
one_sharing : (words : List Text) (one other : SharingValue) → Give words one → Give words other → one ≡ other
one_sharing words one other gives gives_too =
    let workers : one.workers ≡ other.workers = same_some _ _ (sym gives.workers ∙ gives_too.workers) in
    let groups : one.groups ≡ other.groups = same_some _ _ (sym gives.groups ∙ gives_too.groups) in
    ap₂ (λ n text. record { workers = n; groups = text }) workers groups

-- and so is what figures are asked for
one_counting : (words : List Text) (one other : Counting) → GiveCounting words one → GiveCounting words other → one ≡ other
one_counting words one other gives gives_too =
    let words_are = ap₂ (λ (a b : Option Text). (a, b)) (sym gives.from ∙ gives_too.from) (sym gives.every ∙ gives_too.every) in
    let flags_are = ap₂ (λ (a b : Bool). (a, b)) (sym gives.series ∙ gives_too.series) (sym gives.names ∙ gives_too.names) in
    ap₂ (λ (w : Option Text × Option Text) (f : Bool × Bool). record { from = w.0; every = w.1; series = f.0; names = f.1 }) words_are flags_are

-- words name one subcommand, in one way
same_task : (words : List Text) (one other : Task) → word_of one ≡ word_of other → IfSome (sharing_of one) (Give words) × IfSome (counting_of one) (GiveCounting words)
    → IfSome (sharing_of other) (Give words) × IfSome (counting_of other) (GiveCounting words) → one ≡ other
same_task words (Scenario Asm) (Scenario Asm) is gives gives_too = refl
same_task words (Scenario Asm) (Scenario Dis) is gives gives_too = absurd (differ _ _ is refl refl)
same_task words (Scenario Asm) (Scenario (Run sharing)) is gives gives_too = absurd (differ _ _ is refl refl)
same_task words (Scenario Asm) (Scenario (Figures counting)) is gives gives_too = absurd (differ _ _ is refl refl)
same_task words (Scenario Asm) (Debug sharing) is gives gives_too = absurd (differ _ _ is refl refl)
same_task words (Scenario Dis) (Scenario Asm) is gives gives_too = absurd (differ _ _ is refl refl)
same_task words (Scenario Dis) (Scenario Dis) is gives gives_too = refl
same_task words (Scenario Dis) (Scenario (Run sharing)) is gives gives_too = absurd (differ _ _ is refl refl)
same_task words (Scenario Dis) (Scenario (Figures counting)) is gives gives_too = absurd (differ_first _ _ is refl refl)
same_task words (Scenario Dis) (Debug sharing) is gives gives_too = absurd (differ _ _ is refl refl)
same_task words (Scenario (Run sharing)) (Scenario Asm) is gives gives_too = absurd (differ _ _ is refl refl)
same_task words (Scenario (Run sharing)) (Scenario Dis) is gives gives_too = absurd (differ _ _ is refl refl)
same_task words (Scenario (Run one)) (Scenario (Run other)) is gives gives_too = ap (λ sharing. Scenario (Run sharing)) (one_sharing words one other gives.0 gives_too.0)
same_task words (Scenario (Run sharing)) (Scenario (Figures counting)) is gives gives_too = absurd (differ _ _ is refl refl)
same_task words (Scenario (Run sharing)) (Debug other) is gives gives_too = absurd (differ _ _ is refl refl)
same_task words (Scenario (Figures counting)) (Scenario Asm) is gives gives_too = absurd (differ _ _ is refl refl)
same_task words (Scenario (Figures counting)) (Scenario Dis) is gives gives_too = absurd (differ_first _ _ is refl refl)
same_task words (Scenario (Figures counting)) (Scenario (Run sharing)) is gives gives_too = absurd (differ _ _ is refl refl)
same_task words (Scenario (Figures counting)) (Scenario (Figures counting_too)) is gives gives_too = ap (λ (c : Counting). Scenario (Figures c)) (one_counting words counting counting_too gives.1 gives_too.1)
same_task words (Scenario (Figures counting)) (Debug sharing) is gives gives_too = absurd (differ _ _ is refl refl)
same_task words (Debug sharing) (Scenario Asm) is gives gives_too = absurd (differ _ _ is refl refl)
same_task words (Debug sharing) (Scenario Dis) is gives gives_too = absurd (differ _ _ is refl refl)
same_task words (Debug sharing) (Scenario (Run other)) is gives gives_too = absurd (differ _ _ is refl refl)
same_task words (Debug sharing) (Scenario (Figures counting)) is gives gives_too = absurd (differ _ _ is refl refl)
same_task words (Debug one) (Debug other) is gives gives_too = ap Debug (one_sharing words one other gives.0 gives_too.0)

-- the word of a task is not `explain`
not_explained : (task : Task) → word_of task ≡ codes "explain" → ⊥
not_explained (Scenario Asm) is = differ _ _ is refl refl
not_explained (Scenario Dis) is = differ _ _ is refl refl
not_explained (Scenario (Run sharing)) is = differ _ _ is refl refl
not_explained (Scenario (Figures counting)) is = differ _ _ is refl refl
not_explained (Debug sharing) is = differ _ _ is refl refl

same_asked : (words : List Text) (one other : Asked) → asked_word one ≡ asked_word other → GiveAll words one → GiveAll words other → one ≡ other
same_asked words (Session task file wishes) (Session task' file' wishes') is gives gives_too =
    ap₂ (λ (t : Task) (rest : Option Text × Wishes). Session t rest.0 rest.1) (same_task words task task' is (gives.0, gives.1) (gives_too.0, gives_too.1)) (ap₂ (λ (f : Option Text) (w : Wishes). (f, w)) (sym gives.2 ∙ gives_too.2) (sym gives.3 ∙ gives_too.3))
same_asked words (Session task file wishes) (Explanation code) is gives gives_too = absurd (not_explained task is)
same_asked words (Explanation code) (Session task file wishes) is gives gives_too = absurd (not_explained task (sym is))
same_asked words (Explanation code) (Explanation code') is gives gives_too = ap Explanation (sym gives ∙ gives_too)

pub words_ask_for_one : WordsAskForOne
words_ask_for_one words = record {
  some = λ none.
      let named = named_by words none in
      let asked = asked_there named.0.0 named.0.1 named.2 in (asked.0, asked_for words named.0 asked.0 none named.1 asked.1);
  only = λ one other asks asks_too. same_asked words one other (same_some (asked_word one) (asked_word other) (sym asks.named ∙ asks_too.named)) asks.given asks_too.given;
}

map_of_map : {A B C : Type 0} (f : B → C) (g : A → B) (o : Option A) → option_map f (option_map g o) ≡ option_map (λ a. f (g a)) o
map_of_map f g None = refl
map_of_map f g (Some a) = refl

-- the word and the rows of a subcommand that was met
pub met_named : (matches : ArgMatches) (word : Text) (rows : List Row) (found : Option (Text × List Row)) → subcommand_rows_of matches ≡ found → Some word ≡ subcommand_name_of matches
    → Some rows ≡ option_map (λ (p : Text × List Row). p.1) (subcommand_rows_of matches) → found ≡ Some (word, rows)
met_named matches word rows found is name their =
    go found (name ∙ sym (map_of_map (λ (named : Text × List Row). named.0) _ (out-ArgMatches matches).subcommand) ∙ ap (option_map (λ (named : Text × List Row). named.0)) is)
    (their ∙ ap (option_map (λ (named : Text × List Row). named.1)) is)
  where
    go : (o : Option (Text × List Row)) → Some word ≡ option_map (λ (p : Text × List Row). p.0) o → Some rows ≡ option_map (λ (p : Text × List Row). p.1) o → o ≡ Some (word, rows)
    go None name their = absurd (some_none word name)
    go (Some (w, rs)) name their = ap₂ (λ a b. Some (a, b)) (same_some w word (sym name)) (same_some rs rows (sym their))

-- what a parse by the program's command says of the words
module _ (app : App) (words : List (List ℕ)) (is : app ≡ program) where
  pub parsed_faultless : (is_simple_and_free app ≡ true → fault_of app words ≡ []) → word_faults words ≡ []
  parsed_faultless none = let P : App → Type 0 = λ a. is_simple_and_free a ≡ true → fault_of a words ≡ [] in subst P is none refl

  pub parsed_faulty : (error : Error) → (is_simple_and_free app ≡ true → HasKind (fault_of app words) error) → HasKind (word_faults words) error
  parsed_faulty error fails = let P : App → Type 0 = λ a. is_simple_and_free a ≡ true → HasKind (fault_of a words) error in subst P is fails refl

  pub parsed_rows : (matches : ArgMatches) → HasMatchesOf app words matches → subcommand_rows_of matches ≡ subcommand_of program words
  parsed_rows matches has = let P : App → Type 0 = λ a. HasMatchesOf a words matches in (subst P is has refl).1
