-- A request for a text is the one fault of its words.
use mathlib.Core.Bool.{false≢true}
use Rattle.std.proofs.Common.{◌≡◌, ◌⊎◌, inl, inr, ℕ, zero, suc, Bool, true, false, not, ◌&&◌, List, [], ◌∷◌, codes, cond, refl, sym, ◌∙◌, ap, subst, Option, Some, None, drop, length}
use Rattle.std.specs.Prelude.{slice_get, encode_utf8, find, min, ◌+◌, ◌||◌, nat_lt, ◌==◌, is_some}
use Rattle.std.specs.List.{AllByRecursion, list_any}
use Rattle.std.specs.Option.{option_map_or}
use Rattle.std.specs.Str.{bytes_eq, chars}
use Rattle.clap.specs.Facts.{explicit_source, parser_of_value, unwrap_or_range}
use Rattle.clap.specs.Faults.{values_fault, count_fault, repeat_fault, set_fault, action_fault, use_fault, settle_fault, react_fault, option_fault, long_fault, short_fault, bundle_step_fault, flags_fault, bundle_fault, flag_word_fault, other_fault, word_fault, positional_fault, stray_fault, step_fault, turn_fault, walk_fault, given_default_fault, defaults_fault, check_fault, level_fault, entered_fault}
use Rattle.clap.specs.Kinds.{Kinds, IsAmong, or_else, value_kinds, values_kinds, range_kinds, request_kinds, check_kinds}
use Rattle.clap.specs.Lexer.{long_of, short_of}
use Rattle.clap.specs.Matches.{count_text}
use Rattle.clap.specs.Simple.{Shape, argument_words, built, entered, label_of, names_of}
use Rattle.clap.specs.Takes.{is_given}
use Rattle.clap.specs.Values.{refused_kind}
use Rattle.clap.specs.ValueTests.{accepts}
use Rattle.clap.specs.Walk.{Held, Names, Row, Rule, Step, Text, Waiting, Walk, next, trailing, subcommand, value, nothing_held, walk, walk_from, walked, with_default, count_of, action_of, answers_to, arg_by_id, arg_by_index, arg_by_long, arg_by_short, attached_value, finished, has_row, is_empty, is_pending, most_values, reacted, settled, stop_after, subcommand_met, takes_several, takes_values, values_or_missing, word_met}
use Rattle.clap.specs.declared.builder.action.ArgAction.{ArgAction}
use Rattle.clap.specs.declared.builder.action.ArgAction.TheVariants.{Set, Append, SetTrue, SetFalse, Count, Help, HelpShort, HelpLong, Version}
use Rattle.clap.specs.declared.builder.value_parser.ValueParser.{ValueParser}
use Rattle.clap.specs.declared.error.kind.ErrorKind.{ErrorKind}
use Rattle.clap.specs.declared.error.kind.ErrorKind.TheVariants.{ArgumentConflict, DisplayHelp, DisplayVersion, InvalidSubcommand, TooManyValues, UnknownArgument}
use Rattle.command_line.specs.CommandLine.{program, word_faults, AskFor, IsRequest, AskForText, AreMistaken, WordsHaveOneAnswer}
use Rattle.command_line.specs.declared.subcommand.Asked.{Asked}
use Rattle.command_line.proofs.Naming.{fault_at, words_ask_for_one}
use Rattle.command_line.proofs.NoKinds.{some_kind}

unfoldable pub is_request : ErrorKind → Bool
is_request DisplayHelp = true
is_request DisplayVersion = true
is_request _ = false

pub asks : (kind : ErrorKind) → IsRequest kind → is_request kind ≡ true
unfolding is_request
asks kind request = elim request [ inl is ↦ ap is_request is | inr is ↦ ap is_request is ]

-- where a request is among the kinds, it is the only one
pub record IsClear (kinds : Kinds) : Type 0 where
  pub only : (kind : ErrorKind) → IsRequest kind → IsAmong kind kinds → kinds ≡ kind ∷ []

none_clear : IsClear []
none_clear = record { only = λ kind request among. absurd among }

one_clear : (kind : ErrorKind) → IsClear (kind ∷ [])
one_clear kind = record { only = λ asked request among. elim among [ inl same ↦ sym (ap (λ k. k ∷ []) same) | inr nothing ↦ absurd nothing ] }

-- two kinds, and neither is a request
two_clear : (first second : ErrorKind) → is_request first ≡ false → is_request second ≡ false → IsClear (first ∷ second ∷ [])
two_clear first second a b = record {
  only = λ asked request among. elim among [
    | inl same ↦ absurd (apart asked first request same a)
    | inr rest ↦ elim rest [ inl same ↦ absurd (apart asked second request same b) | inr nothing ↦ absurd nothing ]
  ];
}
  where
    apart : (asked other : ErrorKind) → IsRequest asked → asked ≡ other → is_request other ≡ false → ⊥
    apart asked other request same none = false≢true (sym none ∙ ap is_request (sym same) ∙ asks asked request)

or_clear : (a b : Kinds) → IsClear a → IsClear b → IsClear (or_else a b)
or_clear [] b first second = second
or_clear (kind ∷ kinds) b first second = first

if_clear : (test : Bool) (a b : Kinds) → IsClear a → IsClear b → IsClear (cond test a b)
if_clear true a b first second = first
if_clear false a b first second = second

where_clear : {A : Type 0} (f : A → Kinds) (o : Option A) → ((a : A) → IsClear (f a)) → IsClear (option_map_or f o [])
where_clear f None each = none_clear
where_clear f (Some a) each = each a

-- the values of an argument
value_clear : (ignore_case : Bool) (parser : ValueParser) (text : Text) → IsClear (value_kinds ignore_case parser text)
value_clear ignore_case parser text = if_clear (accepts ignore_case parser text) [] (refused_kind parser ∷ []) none_clear (one_clear (refused_kind parser))

values_clear : (ignore_case : Bool) (parser : ValueParser) (values : List Text) → IsClear (values_kinds ignore_case parser values)
values_clear ignore_case parser [] = none_clear
values_clear ignore_case parser (v ∷ vs) = or_clear _ _ (value_clear ignore_case parser v) (values_clear ignore_case parser vs)

range_clear : (least most n : ℕ) → IsClear (range_kinds least most n)
range_clear least most n =
    if_clear (nat_lt 0 least && (n == 0)) _ _ (one_clear _)
    (if_clear (least == most) _ _ (if_clear (least == n) _ _ none_clear (one_clear _))
    (if_clear (nat_lt n least) _ _ (one_clear _) (if_clear (nat_lt most n) _ _ (one_clear _) none_clear)))

request_clear : (action : ArgAction) → IsClear (request_kinds action)
request_clear Help = one_clear _
request_clear HelpShort = one_clear _
request_clear HelpLong = one_clear _
request_clear Version = one_clear _
request_clear _ = none_clear

count_clear : (a : Rule) (values : List Text) (rows : List Row) → IsClear (count_fault a values rows)
count_clear a [] rows = value_clear a.ignore_case (parser_of_value a.parser) (count_text (min (count_of a.id rows + 1) 255))
count_clear a (v ∷ vs) rows = values_clear a.ignore_case (parser_of_value a.parser) (v ∷ vs)

set_clear : (again : Bool) (a : Rule) (values : List Text) (rows : List Row) → IsClear (set_fault again a values rows)
set_clear again a values rows = or_clear (repeat_fault again a.id rows) (values_fault a values) (if_clear (has_row a.id rows && not again) (ArgumentConflict ∷ []) [] (one_clear ArgumentConflict) none_clear) (values_clear a.ignore_case (parser_of_value a.parser) values)

action_clear : (action : ArgAction) (again : Bool) (a : Rule) (values : List Text) (rows : List Row) → IsClear (action_fault action again a values rows)
action_clear Set again a values rows = set_clear again a values rows
action_clear SetTrue again a values rows = set_clear again a values rows
action_clear SetFalse again a values rows = set_clear again a values rows
action_clear Append again a values rows = values_clear a.ignore_case (parser_of_value a.parser) values
action_clear Count again a values rows = count_clear a values rows
action_clear Help again a values rows = request_clear Help
action_clear HelpShort again a values rows = request_clear HelpShort
action_clear HelpLong again a values rows = request_clear HelpLong
action_clear Version again a values rows = request_clear Version

use_clear : (again : Bool) (a : Rule) (values : List Text) (rows : List Row) → IsClear (use_fault again a values rows)
use_clear again a values rows = or_clear _ _ (range_clear (unwrap_or_range a.range).start_inclusive (most_values a) (length values)) (action_clear (action_of a) again a (values_or_missing a values) rows)

-- the words of one command
module _ (rules : List Rule) (again : Bool) where
  settle_clear : (h : Held) → IsClear (settle_fault rules again h)
  settle_clear h = where_clear (λ p. option_map_or (λ a. use_fault again a p.1 h.rows) (arg_by_id rules p.0) []) h.pending (λ p. where_clear (λ a. use_fault again a p.1 h.rows) (arg_by_id rules p.0) (λ a. use_clear again a p.1 h.rows))

  react_clear : (a : Rule) (values : List Text) (h : Held) → IsClear (react_fault rules again a values h)
  react_clear a values h = or_clear _ _ (settle_clear h) (use_clear again a values (settled rules h).rows)

  option_clear : (a : Rule) (text : Option Text) (h : Held) → IsClear (option_fault rules again a text h)
  option_clear a (Some v) h = react_clear a (v ∷ []) h
  option_clear a None h = settle_clear h

  long_clear : (rule : Option Rule) (text : Option Text) (h : Held) → IsClear (long_fault rules again rule text h)
  long_clear None text h = one_clear _
  long_clear (Some a) text h = if_clear (takes_values a) _ _ (option_clear a text h) (if_clear (is_some text) _ _ (one_clear TooManyValues) (react_clear a [] h))

  short_clear : (rule : Option Rule) (rest : Text) (h : Held) (then : Held → Kinds) → ((held : Held) → IsClear (then held)) → IsClear (short_fault rules again rule rest h then)
  short_clear None rest h then each = one_clear _
  short_clear (Some a) rest h then each = if_clear (takes_values a) _ _ (option_clear a (attached_value rest) h) (or_clear _ _ (react_clear a [] h) (each (reacted rules a [] h)))

  bundle_step_clear : (flag : Option ℕ) (flags : Text) (skip : ℕ) (h : Held) (then : Text → ℕ → Held → Kinds) → ((text : Text) (n : ℕ) (held : Held) → IsClear (then text n held)) → IsClear (bundle_step_fault rules again flag flags skip h then)
  bundle_step_clear None flags skip h then each = none_clear
  bundle_step_clear (Some x) flags zero h then each = short_clear (arg_by_short rules x) (drop (length (encode_utf8 x)) flags) h (then (drop (length (encode_utf8 x)) flags) 0) (each (drop (length (encode_utf8 x)) flags) 0)
  bundle_step_clear (Some x) flags (suc skip) h then each = each (drop (length (encode_utf8 x)) flags) skip h

  flags_clear : (k : ℕ) (flags : Text) (skip : ℕ) (h : Held) → IsClear (flags_fault rules again k flags skip h)
  unfolding flags_fault
  flags_clear zero flags skip h = none_clear
  flags_clear (suc k) flags skip h = bundle_step_clear (slice_get (chars flags) 0) flags skip h (flags_fault rules again k) (flags_clear k)

  flag_word_clear : (long : Option (Text × Option Text)) (word : Text) (h : Held) → IsClear (flag_word_fault rules again long word h)
  flag_word_clear (Some p) word h = long_clear (arg_by_long rules p.0) p.1 h
  flag_word_clear None word h = where_clear (λ flags. bundle_fault rules again flags h) (short_of word) (λ flags. flags_clear (length flags) flags h.skip (record h { skip = 0 }))

-- a command with no subcommand `help`
module _ (s : Shape) (off : s.disable_help_subcommand ≡ true) where
  help_clear : (is_help disabled : Bool) (kinds : Kinds) → disabled ≡ true → IsClear (cond (is_help && not disabled) kinds [])
  help_clear true true kinds is = none_clear
  help_clear true false kinds is = absurd (false≢true is)
  help_clear false disabled kinds is = none_clear

  other_clear : (named : Option Text) (word : Text) (h : Held) → IsClear (other_fault s named word h)
  other_clear (Some name) word h = help_clear (bytes_eq name (codes "help")) s.disable_help_subcommand (DisplayHelp ∷ InvalidSubcommand ∷ []) off
  other_clear None word h = if_clear (bytes_eq word (45 ∷ 45 ∷ [])) _ _ none_clear (flag_word_clear s.rules s.args_override_self (long_of word) word h)

  word_clear : (names : Names) (is_trailing : Bool) (waiting : Waiting) (word : Text) (h : Held) → IsClear (word_fault s names is_trailing waiting word h)
  word_clear names is_trailing waiting word h = if_clear is_trailing _ _ none_clear (other_clear (subcommand_met names waiting word) word h)

  positional_clear : (a : Rule) (h : Held) → IsClear (positional_fault s.rules s.args_override_self a h)
  positional_clear a h = if_clear (is_pending a h.pending && takes_several a) _ _ none_clear (settle_clear s.rules s.args_override_self h)

  stray_clear : IsClear (stray_fault s)
  unfolding is_request
  stray_clear = if_clear s.is_leaf _ _ (one_clear UnknownArgument) (two_clear UnknownArgument InvalidSubcommand refl refl)

  step_clear : (position : ℕ) (h : Held) (step : Step) → IsClear (step_fault s position h step)
  step_clear position h value = given (arg_by_index s.rules position)
    where
      given : (rule : Option Rule) → IsClear (option_map_or (λ a. positional_fault s.rules s.args_override_self a h) rule (stray_fault s))
      given None = stray_clear
      given (Some a) = positional_clear a h
  step_clear position h (next waiting) = none_clear
  step_clear position h (trailing n) = none_clear
  step_clear position h (subcommand name) = none_clear

  turn_clear : (names : Names) (w : Walk) (word : Text) → IsClear (turn_fault s names w word)
  turn_clear names w word =
      let met = word_met s.rules names w.is_trailing w.waiting w.position word w.held in
      if_clear (is_some w.stopped) _ _ none_clear (or_clear _ _ (word_clear names w.is_trailing w.waiting word w.held) (step_clear w.position met.0 met.1))

  walk_clear : (names : Names) (w : Walk) (words : List Text) → IsClear (walk_fault s names w words)
  unfolding walk_fault
  walk_clear names w [] = none_clear
  walk_clear names w (word ∷ rest) = or_clear _ _ (turn_clear names w word) (walk_clear names (walked s.rules names w word) rest)

  given_default_clear : (a : Rule) (values : List Text) → IsClear (given_default_fault a values)
  given_default_clear a values = or_clear _ _ (request_clear (action_of a)) (values_clear a.ignore_case (parser_of_value a.parser) values)

  defaults_clear : (rows : List Row) (rules : List Rule) → IsClear (defaults_fault rows rules)
  unfolding defaults_fault
  defaults_clear rows [] = none_clear
  defaults_clear rows (a ∷ rest) = or_clear _ _ (if_clear (has_row a.id rows || is_empty a.defaults) _ _ none_clear (given_default_clear a a.defaults)) (defaults_clear (with_default rows a) rest)

  check_clear : (rows : List Row) (has_subcommand : Bool) → IsClear (check_fault s rows has_subcommand)
  check_clear rows has_subcommand =
      of_tests (not has_subcommand && (s.arg_required_else_help && not (list_any (λ r. explicit_source r.source) rows))) (not has_subcommand && s.subcommand_required)
      (not (s.subcommand_negates_reqs && has_subcommand) && list_any (λ a. a.required && not (is_given a.id rows)) s.rules)
    where
      of_tests : (help wanted argument : Bool) → IsClear (check_kinds help wanted argument)
      of_tests true wanted argument = one_clear _
      of_tests false true argument = one_clear _
      of_tests false false true = one_clear _
      of_tests false false false = none_clear

  level_clear : (names : Names) (h : Held) (words : List Text) (has_subcommand : Bool) (below : Kinds) → IsClear below → IsClear (level_fault s names h words has_subcommand below)
  level_clear names h words has_subcommand below under =
      let end : Held = (walk s.rules names h words).held in
      or_clear _ _ (walk_clear names (walk_from h) words)
      (or_clear below _ under (or_clear _ _ (settle_clear s.rules s.args_override_self end) (or_clear _ _ (defaults_clear (settled s.rules end).rows s.rules) (check_clear (finished s.rules end) has_subcommand))))

found_clear : (test : Shape → Bool) (rest : List Text) (shapes : List Shape) → AllByRecursion (λ (s : Shape). s.disable_help_subcommand ≡ true) shapes → IsClear (fault_at rest (find test shapes))
found_clear test rest [] all = none_clear
found_clear test rest (s ∷ others) all = go (test s) (found_clear test rest others all.1)
  where
    go : (b : Bool) → IsClear (fault_at rest (find test others)) → IsClear (fault_at rest (cond b (Some s) (find test others)))
    go true later = level_clear s all.0 [] nothing_held rest false [] none_clear
    go false later = later

-- no subcommand of the program has a subcommand `help`
entered_clear : (stop : Option (Text × List Text)) → IsClear (entered_fault (built program) stop)
entered_clear stop =
    let test : Text → Shape → Bool = λ word s. answers_to word (label_of s) in
    where_clear (λ p. fault_at p.1 (find (test p.0) (built program).subs)) stop (λ p. found_clear (test p.0) p.1 (built program).subs (refl, (refl, (refl, (refl, (refl, (refl, tt)))))))

-- where the words ask for a text, that is all that `clap` finds in them
pub words_clear : (words : List Text) → IsClear (word_faults words)
words_clear words =
    let given = argument_words (built program) words in
    let stop = stop_after (built program).top.rules (names_of (built program)) given in
    level_clear (built program).top refl (names_of (built program)) nothing_held given (is_some (entered (built program) stop)) (entered_fault (built program) stop) (entered_clear stop)

request_or_not : (kind : ErrorKind) → IsRequest kind ⊎ ¬ IsRequest kind
unfolding is_request
request_or_not DisplayHelp = inl (inl refl)
request_or_not DisplayVersion = inl (inr refl)
request_or_not _ = inr (λ request. false≢true (asks _ request))

-- a request is among the kinds, or none is
request_among : (kinds : Kinds) → ((kind : ErrorKind) × IsRequest kind × IsAmong kind kinds) ⊎ ((kind : ErrorKind) → IsRequest kind → ¬ IsAmong kind kinds)
request_among [] = inr (λ kind request among. among)
request_among (first ∷ kinds) = elim (request_or_not first) [
  | inl request ↦ inl (first, request, inl refl)
  | inr other ↦ elim (request_among kinds) [
    | inl found ↦ inl (found.0, found.1, inr found.2)
    | inr none ↦ inr (λ kind request among. elim among [ inl same ↦ other (subst IsRequest same request) | inr rest ↦ none kind request rest ])
  ]
]

pub words_have_one_answer : WordsHaveOneAnswer
words_have_one_answer words = record {
  some = by (word_faults words) refl;
  not_mistaken = λ asked asks_for mistaken. mistaken.faulty asks_for.faultless;
  not_shown = λ asked asks_for shown. some_kind shown.0 [] (sym shown.1 ∙ asks_for.faultless);
  no_request = λ mistaken shown. mistaken.no_request shown.0 shown.2 (subst (IsAmong shown.0) (sym shown.1) (inl refl));
}
  where
    by : (kinds : Kinds) → word_faults words ≡ kinds → ((asked : Asked) × AskFor words asked) ⊎ (AreMistaken words ⊎ AskForText words)
    by [] is = inl ((words_ask_for_one words).some is)
    by (first ∷ kinds) is = elim (request_among (first ∷ kinds)) [
      | inl found ↦ inr (inr (found.0, (words_clear words).only found.0 found.1 (subst (IsAmong found.0) (sym is) found.2), found.1))
      | inr none ↦ inr (inl (record {
        faulty = λ empty. some_kind first kinds (sym is ∙ empty);
        no_request = λ kind request among. none kind request (subst (IsAmong kind) is among);
      }))
    ]
