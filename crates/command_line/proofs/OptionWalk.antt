-- A walk over words without a fault keeps the options' rows filled.
use Rattle.std.proofs.Common.{◌≡◌, ◌∙◌, ℕ, zero, suc, Bool, true, false, not, ◌&&◌, List, [], ◌∷◌, Option, None, Some, IfSome, is_some, if◌then◌else◌, ap, drop, length, fold, encode_utf8, slice_get}
use Rattle.std.specs.Option.{option_and_then, option_map, option_map_or}
use Rattle.std.specs.Str.{bytes_eq, chars}
use Rattle.clap.specs.Faults.{bundle_fault, bundle_step_fault, check_fault, defaults_fault, flag_word_fault, flags_fault, level_fault, long_fault, option_fault, positional_fault, react_fault, settle_fault, short_fault, step_fault, stray_fault, turn_fault, use_fault, walk_fault, word_fault}
use Rattle.clap.specs.Kinds.{Kinds, or_else}
use Rattle.clap.specs.Lexer.{long_of, short_of}
use Rattle.clap.specs.Simple.{Shape, built_leaf, inherited, marked_built, on_top, rows_at, with_leaf_noted}
use Rattle.clap.specs.Values.{read_as}
use Rattle.clap.specs.Walk.{Held, Outcome, Row, Rule, Step, Text, Waiting, Walk, idle, option, positional, next, trailing, subcommand, value, done, waits, plain, refused, after_flag, after_step, arg_by_id, arg_by_index, arg_by_long, arg_by_short, attached_value, bundle, bundle_met, bundle_step, finished, flag_met, has_long, has_short, is_pending, long_met, long_or_other, nothing_held, option_met, option_word, plain_word, pushed, reacted, row_text, settled, settled_rows, short_met, short_or_plain, takes_several, takes_values, to_positional, used_by_id, walk, walk_from, walked, walked_from, word_met}
use Rattle.clap.specs.declared.builder.value_parser.ValueParser.TheVariants.{Unsigned}
use Rattle.clap.specs.declared.error.kind.ErrorKind.TheVariants.{TooManyValues}
use Rattle.clap.proofs.ValueTestLemmas.{accepts-Accepts}
use Rattle.command_line.specs.CommandLine.{program, sharing_shape}
use Rattle.command_line.specs.Given.{AreOptions}
use Rattle.command_line.proofs.NoKinds.{some_kind, first, second}
use Rattle.command_line.proofs.OptionRows.{Fine, Has, Usable, AreUsable, AreThere, workers, groups}

abbrev FineHeld : Held → Type 0
FineHeld h = Fine h.rows

-- the options that filled rows give
options_of : (rows : List Row) → Has workers rows × Has groups rows → AreOptions rows
options_of rows has =
    let one = has.0 in
    let other = has.1 in
    record {
      workers = one.2.value;
      groups = other.2.value;
      are_workers = ap (option_and_then (λ (r : Row). slice_get r.values 0)) one.1 ∙ one.2.is_first;
      are_read = ap (option_and_then row_text) one.1 ∙ ap (λ how. option_map (read_as how) (slice_get one.0.values 0)) one.2.reads ∙ ap (option_map (λ (t : Text). t)) one.2.is_first;
      are_groups = ap (option_and_then (λ (r : Row). slice_get r.values 0)) other.1 ∙ other.2.is_first;
      few = accepts-Accepts false (Unsigned 1 64) one.2.value one.2.taken;
    }

-- a subcommand with these rules, as its parse has it
abbrev pub shape_with : Text → List Rule → Shape
shape_with name rules = record (built_leaf (inherited (on_top with_leaf_noted (on_top marked_built program)).top (sharing_shape name))) { rules = rules }

module _ (rules : List Rule) (found_usable : AreUsable rules) where
  settle_fine : (h : Held) → settle_fault rules false h ≡ [] → FineHeld h → FineHeld (settled rules h)
  settle_fine h none fine = go h.pending none
    where
      with_rule : (found : Option Rule) (values : List Text) → IfSome found Usable → option_map_or (λ a. use_fault false a values h.rows) found [] ≡ []
          → Fine (used_by_id found values h.rows)
      with_rule None values usable none = fine
      with_rule (Some a) values usable none = usable values h.rows none fine

      go : (p : Option (Text × List Text)) → option_map_or (λ q. option_map_or (λ a. use_fault false a q.1 h.rows) (arg_by_id rules q.0) []) p [] ≡ [] → Fine (settled_rows rules p h.rows)
      go None none = fine
      go (Some p) none = with_rule (arg_by_id rules p.0) p.1 (found_usable (λ a. bytes_eq a.id p.0)) none

  react_fine : (a : Rule) (values : List Text) (h : Held) → Usable a → react_fault rules false a values h ≡ [] → FineHeld h → FineHeld (reacted rules a values h)
  react_fine a values h usable none fine =
      usable values (settled rules h).rows (second (settle_fault rules false h) (use_fault false a values (settled rules h).rows) none)
      (settle_fine h (first (settle_fault rules false h) (use_fault false a values (settled rules h).rows) none) fine)

  option_fine : (a : Rule) (v : Option Text) (h : Held) → Usable a → option_fault rules false a v h ≡ [] → FineHeld h → FineHeld (option_met rules a v h).0
  option_fine a (Some v) h usable none fine = react_fine a (v ∷ []) h usable none fine
  option_fine a None h usable none fine = settle_fine h none fine

  long_fine : (found : Option Rule) (v : Option Text) (h : Held) → IfSome found Usable → long_fault rules false found v h ≡ [] → FineHeld h → FineHeld (long_met rules found v h).0
  long_fine None v h usable none fine = absurd (some_kind _ _ none)
  long_fine (Some a) v h usable none fine = go (takes_values a) v none
    where
      go : (b : Bool) (v : Option Text) → (if b then option_fault rules false a v h else (if is_some v then TooManyValues ∷ [] else react_fault rules false a [] h)) ≡ []
          → FineHeld (if b then option_met rules a v h else flag_met rules a v h).0
      go true v none = option_fine a v h usable none fine
      go false (Some v) none = absurd (some_kind _ _ none)
      go false None none = react_fine a [] h usable none fine

  -- one flag of a bundle
  short_fine : (found : Option Rule) (rest : Text) (h : Held) (next_fault : Held → Kinds) (next_met : Held → Held × Outcome) → IfSome found Usable
      → ((g : Held) → next_fault g ≡ [] → FineHeld g → FineHeld (next_met g).0) → short_fault rules false found rest h next_fault ≡ [] → FineHeld h → FineHeld (short_met rules found rest h next_met).0
  short_fine None rest h next_fault next_met usable on none fine = absurd (some_kind _ _ none)
  short_fine (Some a) rest h next_fault next_met usable on none fine = go (takes_values a) none
    where
      go : (b : Bool) → (if b then option_fault rules false a (attached_value rest) h else or_else (react_fault rules false a [] h) (next_fault (reacted rules a [] h))) ≡ []
          → FineHeld (if b then option_met rules a (attached_value rest) h else next_met (reacted rules a [] h)).0
      go true none = option_fine a (attached_value rest) h usable none fine
      go false none =
          on (reacted rules a [] h) (second (react_fault rules false a [] h) (next_fault (reacted rules a [] h)) none)
          (react_fine a [] h usable (first (react_fault rules false a [] h) (next_fault (reacted rules a [] h)) none) fine)

  flags_fine : (k : ℕ) (flags : Text) (skip : ℕ) (so_far : Outcome) (h : Held) → flags_fault rules false k flags skip h ≡ [] → FineHeld h → FineHeld (bundle_met rules k flags skip so_far h).0
  unfolding flags_fault bundle_met
  flags_fine zero flags skip so_far h none fine = fine
  flags_fine (suc k) flags skip so_far h none fine = go (slice_get (chars flags) 0) skip none (flags_fine k)
    where
      go : (o : Option ℕ) (skip : ℕ) → bundle_step_fault rules false o flags skip h (flags_fault rules false k) ≡ []
          → ((flags : Text) (skip : ℕ) (so_far : Outcome) (g : Held) → flags_fault rules false k flags skip g ≡ [] → FineHeld g → FineHeld (bundle_met rules k flags skip so_far g).0)
          → FineHeld (bundle_step rules o flags skip so_far h (bundle_met rules k)).0
      go None skip none rest_fine = fine
      go (Some x) zero none rest_fine =
          let rest = drop (length (encode_utf8 x)) flags in
          short_fine (arg_by_short rules x) rest h (flags_fault rules false k rest 0) (bundle_met rules k rest 0 done) (found_usable (λ a. not (is_some a.index) && has_short a x)) (rest_fine rest 0 done) none fine
      go (Some x) (suc skip) none rest_fine = rest_fine (drop (length (encode_utf8 x)) flags) skip so_far h none fine

  -- a word that is no flag is kept for later
  plain_fine : (waiting : Waiting) (word : Text) (h : Held) → FineHeld h → FineHeld (plain_word rules waiting word h).0
  plain_fine idle word h fine = fine
  plain_fine positional word h fine = fine
  plain_fine (option id) word h fine = go (arg_by_id rules id)
    where
      go : (found : Option Rule) → FineHeld (option_word found id word h).0
      go None = fine
      go (Some a) = fine

  after_fine : (waiting : Waiting) (word : Text) (h : Held) (outcome : Outcome) → FineHeld h → FineHeld (after_flag rules waiting word h outcome).0
  after_fine waiting word h done fine = fine
  after_fine waiting word h (waits id) fine = fine
  after_fine waiting word h plain fine = plain_fine waiting word h fine
  after_fine waiting word h refused fine = plain_fine waiting word h fine

  -- any word but `--`
  flag_fine : (long : Option (Text × Option Text)) (waiting : Waiting) (word : Text) (h : Held) → flag_word_fault rules false long word h ≡ [] → FineHeld h → FineHeld (long_or_other rules waiting word long h).0
  flag_fine (Some p) waiting word h none fine =
      after_fine waiting word (long_met rules (arg_by_long rules p.0) p.1 h).0 (long_met rules (arg_by_long rules p.0) p.1 h).1 (long_fine (arg_by_long rules p.0) p.1 h (found_usable (λ a. not (is_some a.index) && has_long a p.0)) none fine)
  flag_fine None waiting word h none fine = go (short_of word) none
    where
      go : (short : Option Text) → option_map_or (λ flags. bundle_fault rules false flags h) short [] ≡ [] → FineHeld (short_or_plain rules waiting word short h).0
      go None none = plain_fine waiting word h fine
      go (Some flags) none =
          after_fine waiting word (bundle rules flags h).0 (bundle rules flags h).1 (flags_fine (length flags) flags h.skip plain (record h { skip = 0 }) none fine)

  module _ (name : Text) where
    met_fine : (is_trailing : Bool) (waiting : Waiting) (position : ℕ) (word : Text) (h : Held) → word_fault (shape_with name rules) [] is_trailing waiting word h ≡ [] → FineHeld h
        → FineHeld (word_met rules [] is_trailing waiting position word h).0
    met_fine true waiting position word h none fine = fine
    met_fine false waiting position word h none fine = go waiting none
      where
        dashes : (waiting : Waiting) (b : Bool) → (if b then [] else flag_word_fault rules false (long_of word) word h) ≡ [] → FineHeld (if b then (h, trailing position) else long_or_other rules waiting word (long_of word) h).0
        dashes waiting true none = fine
        dashes waiting false none = flag_fine (long_of word) waiting word h none fine

        go : (waiting : Waiting) → word_fault (shape_with name rules) [] false waiting word h ≡ [] → FineHeld (word_met rules [] false waiting position word h).0
        go idle none = dashes idle (bytes_eq word (45 ∷ 45 ∷ [])) none
        go positional none = dashes positional (bytes_eq word (45 ∷ 45 ∷ [])) none
        go (option id) none = dashes (option id) (bytes_eq word (45 ∷ 45 ∷ [])) none

    step_fine : (w : Walk) (word : Text) (h : Held) (step : Step) → step_fault (shape_with name rules) w.position h step ≡ [] → FineHeld h → FineHeld (after_step rules word w h step).held
    step_fine w word h (next waiting) none fine = fine
    step_fine w word h (trailing position) none fine = fine
    step_fine w word h (subcommand met) none fine = fine
    step_fine w word h value none fine = go (arg_by_index rules w.position) none
      where
        held : (a : Rule) (stays : Bool) → (if stays then [] else settle_fault rules false h) ≡ [] → FineHeld (pushed a.id word (if stays then h else settled rules h))
        held a true none = fine
        held a false none = settle_fine h none fine

        go : (found : Option Rule) → option_map_or (λ a. positional_fault rules false a h) found (stray_fault (shape_with name rules)) ≡ [] → FineHeld (to_positional rules found word w h).held
        go None none = fine
        go (Some a) none = held a (is_pending a h.pending && takes_several a) none

    walked_fine : (w : Walk) (word : Text) → turn_fault (shape_with name rules) [] w word ≡ [] → FineHeld w.held → FineHeld (walked rules [] w word).held
    unfolding walked
    walked_fine w word none fine = go w.stopped none
      where
        met : Held × Step
        met = word_met rules [] w.is_trailing w.waiting w.position word w.held

        go : (stopped : Option (Text × List Text))
            → (if is_some stopped then [] else or_else (word_fault (shape_with name rules) [] w.is_trailing w.waiting word w.held) (step_fault (shape_with name rules) w.position met.0 met.1)) ≡ []
            → FineHeld (walked_from rules [] stopped w word).held
        go (Some p) none = fine
        go None none =
            step_fine w word met.0 met.1
            (second (word_fault (shape_with name rules) [] w.is_trailing w.waiting word w.held) (step_fault (shape_with name rules) w.position met.0 met.1) none)
            (met_fine w.is_trailing w.waiting w.position word w.held (first (word_fault (shape_with name rules) [] w.is_trailing w.waiting word w.held) (step_fault (shape_with name rules) w.position met.0 met.1) none) fine)

    words_fine : (words : List Text) (w : Walk) → walk_fault (shape_with name rules) [] w words ≡ [] → FineHeld w.held → FineHeld (fold (walked rules []) w words).held
    unfolding walk_fault
    words_fine [] w none fine = fine
    words_fine (word ∷ words) w none fine =
        words_fine words (walked rules [] w word) (second (turn_fault (shape_with name rules) [] w word) (walk_fault (shape_with name rules) [] (walked rules [] w word) words) none)
        (walked_fine w word (first (turn_fault (shape_with name rules) [] w word) (walk_fault (shape_with name rules) [] (walked rules [] w word) words) none) fine)

    -- words behind the subcommand that have no fault give both options
    pub options_there : AreThere rules → (words : List Text) → level_fault (shape_with name rules) [] nothing_held words false [] ≡ [] → AreOptions (rows_at (shape_with name rules) words).1
    options_there there words none =
        let end : Held = (walk rules [] nothing_held words).held in
        let later : Kinds = or_else (settle_fault rules false end) (or_else (defaults_fault (settled rules end).rows rules) (check_fault (shape_with name rules) (finished rules end) false)) in
        let walked_well : walk_fault (shape_with name rules) [] (walk_from nothing_held) words ≡ [] = first (walk_fault (shape_with name rules) [] (walk_from nothing_held) words) later none in
        let settled_well : settle_fault rules false end ≡ [] =
        first (settle_fault rules false end) (or_else (defaults_fault (settled rules end).rows rules) (check_fault (shape_with name rules) (finished rules end) false)) (second (walk_fault (shape_with name rules) [] (walk_from nothing_held) words) later none) in
        let at_end : FineHeld end = words_fine words (walk_from nothing_held) walked_well (record { workers_held = tt; groups_held = tt }) in
        options_of (finished rules end) (there (settled rules end).rows (settle_fine end settled_well at_end))
