-- What a parse without a fault has found of an option: one value, which its parser takes.
use mathlib.Core.Bool.{false≢true}
use Rattle.std.proofs.Common.{◌≡◌, ◌∙◌, Bool, true, false, not, cond, ◌&&◌, ◌||◌, if◌then◌else◌, List, [], ◌∷◌, ◌++◌, length, None, Some, IfSome, refl, sym, ap, subst, find, fold, codes}
use Rattle.std.proofs.lemmas.List.{append-nil}
use Rattle.std.specs.List.{slice_get}
use Rattle.std.specs.Str.{bytes_eq}
use Rattle.clap.specs.Facts.{parser_of_value, unwrap_or_range}
use Rattle.clap.specs.Faults.{use_fault, values_fault, set_fault, repeat_fault}
use Rattle.clap.specs.Kinds.{Kinds, range_kinds, value_kinds, values_kinds}
use Rattle.clap.specs.Simple.{filled, help_rule, with_index}
use Rattle.clap.specs.ValueTests.{accepts}
use Rattle.clap.specs.Values.{refused_kind}
use Rattle.clap.specs.Walk.{Row, Rule, Text, at_row, has_row, more_values, most_values, reading_by, used, with_default, with_values, without}
use Rattle.clap.specs.declared.error.kind.ErrorKind.TheVariants.{ArgumentConflict, DisplayHelp}
use Rattle.clap.specs.declared.parser.matches.ValueSource.{ValueSource}
use Rattle.clap.specs.declared.parser.matches.ValueSource.TheVariants.{CommandLine, DefaultValue}
use Rattle.command_line.specs.CommandLine.{workers_rule, groups_rule, file_rule, progress_rule, explain_rule}
use Rattle.command_line.proofs.NoKinds.{some_kind, first, second}
use Rattle.command_line.proofs.Options.{some_none}

-- the rules of a subcommand that is shared out, as its parse has them
abbrev pub workers : Rule
workers = filled workers_rule

abbrev pub groups : Rule
groups = filled groups_rule

abbrev pub help : Rule
help = filled help_rule

abbrev pub file : Rule
file = with_index 1 (filled file_rule)

abbrev pub progress : Rule
progress = filled progress_rule

abbrev pub explain : Rule
explain = filled explain_rule

-- the rules of a subcommand that takes the options, a file and a flag, and of one that takes two flags
abbrev pub shared_rules : List Rule
shared_rules = workers ∷ groups ∷ file ∷ explain ∷ help ∷ []

abbrev pub run_rules : List Rule
run_rules = workers ∷ groups ∷ file ∷ progress ∷ explain ∷ help ∷ []

-- the row has a first value, which the rule's parser takes, and is read as the parser says
pub record IsFilled (a : Rule) (r : Row) : Type 0 where
  pub value : Text
  pub is_first : slice_get r.values 0 ≡ Some value
  pub reads : r.reading ≡ reading_by a
  pub taken : accepts a.ignore_case (parser_of_value a.parser) value ≡ true

abbrev is_of : Rule → Row → Bool
is_of a r = bytes_eq r.id a.id

-- a rule's row, where there is one, is filled
abbrev pub Holds : Rule → List Row → Type 0
Holds a rows = IfSome (find (is_of a) rows) (IsFilled a)

-- and there is one
abbrev pub Has : Rule → List Row → Type 0
Has a rows = (r : Row) × (find (is_of a) rows ≡ Some r) × IsFilled a r

-- both options' rows are so
pub record Fine (rows : List Row) : Type 0 where
  pub workers_held : Holds workers rows
  pub groups_held : Holds groups rows

-- a last row more
holds_more : (a : Rule) (rows : List Row) (new : Row) → Holds a rows → Holds a (new ∷ []) → Holds a (rows ++ new ∷ [])
holds_more a [] new old last = last
holds_more a (r ∷ rs) new old last = go (is_of a r) old (λ rest. holds_more a rs new rest last)
  where
    go : (b : Bool) → IfSome (cond b (Some r) (find (is_of a) rs)) (IsFilled a) → (Holds a rs → Holds a (rs ++ new ∷ [])) → IfSome (cond b (Some r) (find (is_of a) (rs ++ new ∷ []))) (IsFilled a)
    go true old more = old
    go false old more = more old

has_more : (a : Rule) (rows : List Row) (new : Row) → Has a rows → Has a (rows ++ new ∷ [])
has_more a [] new has = absurd (some_none has.0 (sym has.1))
has_more a (r ∷ rs) new has = go (is_of a r) has (has_more a rs new)
  where
    go : (b : Bool) → ((x : Row) × (cond b (Some r) (find (is_of a) rs) ≡ Some x) × IsFilled a x) → (Has a rs → Has a (rs ++ new ∷ []))
        → (x : Row) × (cond b (Some r) (find (is_of a) (rs ++ new ∷ [])) ≡ Some x) × IsFilled a x
    go true has more = has
    go false has more = more has

-- an id that has no row
row_missing : (id : Text) (change : Row → List Row) (missing rows : List Row) → has_row id rows ≡ false → at_row id change missing rows ≡ rows ++ missing
row_missing id change missing [] none = refl
row_missing id change missing (r ∷ rs) none = go (bytes_eq r.id id) none (row_missing id change missing rs)
  where
    go : (b : Bool) → (b || has_row id rs) ≡ false → (has_row id rs ≡ false → at_row id change missing rs ≡ rs ++ missing) → cond b (change r ++ rs) (r ∷ at_row id change missing rs) ≡ r ∷ (rs ++ missing)
    go true none rest = absurd (false≢true (sym none))
    go false none rest = ap (λ l. r ∷ l) (rest none)

-- a rule of one value, a first use of which has this fault or none
value_taken : (a : Rule) (v : Text) (vs : List Text) → values_fault a (v ∷ vs) ≡ [] → accepts a.ignore_case (parser_of_value a.parser) v ≡ true
value_taken a v vs none = go (accepts a.ignore_case (parser_of_value a.parser) v) (first (value_kinds a.ignore_case (parser_of_value a.parser) v) (values_kinds a.ignore_case (parser_of_value a.parser) vs) none)
  where
    go : (b : Bool) → (if b then [] else refused_kind (parser_of_value a.parser) ∷ []) ≡ [] → b ≡ true
    go true none = refl
    go false none = absurd (some_kind _ _ none)

never_before : (a : Rule) (rows : List Row) → repeat_fault false a.id rows ≡ [] → has_row a.id rows ≡ false
never_before a rows none = go (has_row a.id rows) none
  where
    go : (b : Bool) → (if b && not false then ArgumentConflict ∷ [] else []) ≡ [] → b ≡ false
    go true none = absurd (some_kind _ _ none)
    go false none = refl

-- the row that a first use makes
abbrev row_for : Rule → ValueSource → List Text → Row
row_for a source values = record { id = a.id; values = values; count = None; source = Some source; reading = reading_by a }

used_once : (a : Rule) (source : ValueSource) (values : List Text) (rows : List Row) → has_row a.id rows ≡ false
    → with_values a.id (reading_by a) source values (without a.id rows) ≡ rows ++ row_for a source values ∷ []
used_once a source values rows none =
    let same : without a.id rows ≡ rows = row_missing a.id (λ _. []) [] rows none ∙ append-nil rows in
    ap (with_values a.id (reading_by a) source values) same ∙ row_missing a.id (more_values source values) (row_for a source values ∷ []) rows none

fills : (a : Rule) (source : ValueSource) (v : Text) (vs : List Text) → accepts a.ignore_case (parser_of_value a.parser) v ≡ true → IsFilled a (row_for a source (v ∷ vs))
fills a source v vs taken = record { value = v; is_first = refl; reads = refl; taken = taken }

-- a use without a fault keeps both options' rows filled
abbrev pub Usable : Rule → Type 0
Usable a = (values : List Text) (rows : List Row) → use_fault false a values rows ≡ [] → Fine rows → Fine (used a values rows)

-- one that takes a value, or has one without it, and whose row is filled where it is that of an option
value_usable : (a : Rule) (v : Text) (vs : List Text) (rows : List Row) → used a (v ∷ vs) rows ≡ with_values a.id (reading_by a) CommandLine (v ∷ vs) (without a.id rows)
    → (accepts a.ignore_case (parser_of_value a.parser) v ≡ true → Holds workers (row_for a CommandLine (v ∷ vs) ∷ []) × Holds groups (row_for a CommandLine (v ∷ vs) ∷ [])) → set_fault false a (v ∷ vs) rows ≡ [] → Fine rows
    → Fine (used a (v ∷ vs) rows)
value_usable a v vs rows is held none fine =
    let new : has_row a.id rows ≡ false = never_before a rows (first (repeat_fault false a.id rows) (values_fault a (v ∷ vs)) none) in
    let both = held (value_taken a v vs (second (repeat_fault false a.id rows) (values_fault a (v ∷ vs)) none)) in
    subst Fine (sym (is ∙ used_once a CommandLine (v ∷ vs) rows new))
    (record { workers_held = holds_more workers rows (row_for a CommandLine (v ∷ vs)) fine.workers_held both.0; groups_held = holds_more groups rows (row_for a CommandLine (v ∷ vs)) fine.groups_held both.1 })

workers_usable : Usable workers
workers_usable [] rows none fine = absurd (some_kind _ _ none)
workers_usable (v ∷ vs) rows none fine = value_usable workers v vs rows refl (λ taken. (fills workers CommandLine v vs taken, tt)) (second _ (set_fault false workers (v ∷ vs) rows) none) fine

groups_usable : Usable groups
groups_usable [] rows none fine = absurd (some_kind _ _ none)
groups_usable (v ∷ vs) rows none fine = value_usable groups v vs rows refl (λ taken. (tt, fills groups CommandLine v vs taken)) (second _ (set_fault false groups (v ∷ vs) rows) none) fine

file_usable : Usable file
file_usable [] rows none fine = absurd (some_kind _ _ none)
file_usable (v ∷ vs) rows none fine = value_usable file v vs rows refl (λ taken. (tt, tt)) (second _ (set_fault false file (v ∷ vs) rows) none) fine

-- a flag has a value without one
none_given : Rule → Kinds
none_given a = range_kinds (unwrap_or_range a.range).start_inclusive (most_values a) (length {A = Text} [])

progress_usable : Usable progress
unfolding none_given
progress_usable [] rows none fine = value_usable progress (codes "true") [] rows refl (λ taken. (tt, tt)) (second (none_given progress) (set_fault false progress (codes "true" ∷ []) rows) none) fine
progress_usable (v ∷ vs) rows none fine = value_usable progress v vs rows refl (λ taken. (tt, tt)) (second _ (set_fault false progress (v ∷ vs) rows) none) fine

explain_usable : Usable explain
unfolding none_given
explain_usable [] rows none fine = value_usable explain (codes "true") [] rows refl (λ taken. (tt, tt)) (second (none_given explain) (set_fault false explain (codes "true" ∷ []) rows) none) fine
explain_usable (v ∷ vs) rows none fine = value_usable explain v vs rows refl (λ taken. (tt, tt)) (second _ (set_fault false explain (v ∷ vs) rows) none) fine

help_usable : Usable help
help_usable values rows none fine = absurd (some_kind _ _ (second _ (DisplayHelp ∷ []) none))

-- each rule that a search finds is usable
abbrev pub AreUsable : List Rule → Type 0
AreUsable rules = (test : Rule → Bool) → IfSome (find test rules) Usable

pub shared_usable : AreUsable shared_rules
shared_usable test = go (test workers) (test groups) (test file) (test explain) (test help)
  where
    go : (a b c d e : Bool) → IfSome (cond a (Some workers) (cond b (Some groups) (cond c (Some file) (cond d (Some explain) (cond e (Some help) None))))) Usable
    go true b c d e = workers_usable
    go false true c d e = groups_usable
    go false false true d e = file_usable
    go false false false true e = explain_usable
    go false false false false true = help_usable
    go false false false false false = tt

pub run_usable : AreUsable run_rules
run_usable test = go (test workers) (test groups) (test file) (test progress) (test explain) (test help)
  where
    go : (a b c d e f : Bool) → IfSome (cond a (Some workers) (cond b (Some groups) (cond c (Some file) (cond d (Some progress) (cond e (Some explain) (cond f (Some help) None)))))) Usable
    go true b c d e f = workers_usable
    go false true c d e f = groups_usable
    go false false true d e f = file_usable
    go false false false true e f = progress_usable
    go false false false false true f = explain_usable
    go false false false false false true = help_usable
    go false false false false false false = tt

-- a row that is found is the one of its rule
found_row : (a : Rule) (rows : List Row) → has_row a.id rows ≡ true → Holds a rows → Has a rows
found_row a [] has holds = absurd (false≢true has)
found_row a (r ∷ rs) has holds = go (is_of a r) has holds (found_row a rs)
  where
    go : (b : Bool) → (b || has_row a.id rs) ≡ true → IfSome (cond b (Some r) (find (is_of a) rs)) (IsFilled a) → (has_row a.id rs ≡ true → Holds a rs → Has a rs)
        → (x : Row) × (cond b (Some r) (find (is_of a) rs) ≡ Some x) × IsFilled a x
    go true has holds rest = (r, refl, holds)
    go false has holds rest = rest has holds

new_row : (a : Rule) (rows : List Row) (new : Row) → has_row a.id rows ≡ false → bytes_eq new.id a.id ≡ true → IsFilled a new → Has a (rows ++ new ∷ [])
new_row a [] new none is full = (new, ap (λ b. cond b (Some new) None) is, full)
new_row a (r ∷ rs) new none is full = go (is_of a r) none (λ rest. new_row a rs new rest is full)
  where
    go : (b : Bool) → (b || has_row a.id rs) ≡ false → (has_row a.id rs ≡ false → Has a (rs ++ new ∷ [])) → (x : Row) × (cond b (Some r) (find (is_of a) (rs ++ new ∷ [])) ≡ Some x) × IsFilled a x
    go true none rest = absurd (false≢true (sym none))
    go false none rest = rest none

-- after the words each option has a row, if only of its default
default_workers : (rows : List Row) → Fine rows → Has workers (with_default rows workers) × Holds groups (with_default rows workers)
default_workers rows fine = go (has_row workers.id rows) refl
  where
    new : Row
    new = row_for workers DefaultValue (codes "1" ∷ [])

    go : (b : Bool) → has_row workers.id rows ≡ b → Has workers (if b then rows else with_values workers.id (reading_by workers) DefaultValue (codes "1" ∷ []) rows) × Holds groups (if b then rows else with_values workers.id (reading_by workers) DefaultValue (codes "1" ∷ []) rows)
    go true is = (found_row workers rows is fine.workers_held, fine.groups_held)
    go false is =
        let P : List Row → Type 0 = λ l. Has workers l × Holds groups l in
        subst P (sym (row_missing workers.id (more_values DefaultValue (codes "1" ∷ [])) (new ∷ []) rows is))
        (new_row workers rows new is refl (fills workers DefaultValue (codes "1") [] refl), holds_more groups rows new fine.groups_held tt)

default_groups : (rows : List Row) → Has workers rows → Holds groups rows → Has workers (with_default rows groups) × Has groups (with_default rows groups)
default_groups rows has holds = go (has_row groups.id rows) refl
  where
    new : Row
    new = row_for groups DefaultValue (codes "one" ∷ [])

    go : (b : Bool) → has_row groups.id rows ≡ b → Has workers (if b then rows else with_values groups.id (reading_by groups) DefaultValue (codes "one" ∷ []) rows) × Has groups (if b then rows else with_values groups.id (reading_by groups) DefaultValue (codes "one" ∷ []) rows)
    go true is = (has, found_row groups rows is holds)
    go false is =
        let P : List Row → Type 0 = λ l. Has workers l × Has groups l in
        subst P (sym (row_missing groups.id (more_values DefaultValue (codes "one" ∷ [])) (new ∷ []) rows is))
        (has_more workers rows new has, new_row groups rows new is refl (fills groups DefaultValue (codes "one") [] refl))

-- what has no default leaves the rows
no_default : (b : Bool) (rows : List Row) → (if b then rows else rows) ≡ rows
no_default true rows = refl
no_default false rows = refl

default_help : (rows : List Row) → with_default rows help ≡ rows
default_help rows = no_default (has_row help.id rows) rows

default_file : (rows : List Row) → with_default rows file ≡ rows
default_file rows = no_default (has_row file.id rows) rows

-- both options have their rows after the defaults of these rules
abbrev pub AreThere : List Rule → Type 0
AreThere rules = (rows : List Row) → Fine rows → Has workers (fold with_default rows rules) × Has groups (fold with_default rows rules)

-- and they have after the first two
both_first : (rows : List Row) → Fine rows → Has workers (with_default (with_default rows workers) groups) × Has groups (with_default (with_default rows workers) groups)
both_first rows fine = let first = default_workers rows fine in default_groups (with_default rows workers) first.0 first.1

abbrev Both : List Row → Type 0
Both rows = Has workers rows × Has groups rows

-- a flag that was not used has a row of its default
flag_default : (a : Rule) (rows : List Row) → Both rows → Both (if has_row a.id rows then rows else with_values a.id (reading_by a) DefaultValue (codes "false" ∷ []) rows)
flag_default a rows both = go (has_row a.id rows) refl
  where
    new : Row
    new = row_for a DefaultValue (codes "false" ∷ [])

    go : (b : Bool) → has_row a.id rows ≡ b → Both (if b then rows else with_values a.id (reading_by a) DefaultValue (codes "false" ∷ []) rows)
    go true is = both
    go false is = subst Both (sym (row_missing a.id (more_values DefaultValue (codes "false" ∷ [])) (new ∷ []) rows is)) (has_more workers rows new both.0, has_more groups rows new both.1)

pub shared_there : AreThere shared_rules
shared_there rows fine =
    let two : List Row = with_default (with_default rows workers) groups in
    let three : List Row = with_default two file in
    subst Both (sym (default_help (with_default three explain))) (flag_default explain three (subst Both (sym (default_file two)) (both_first rows fine)))

pub run_there : AreThere run_rules
run_there rows fine =
    let two : List Row = with_default (with_default rows workers) groups in
    let three : List Row = with_default two file in
    let four : List Row = with_default three progress in
    subst Both (sym (default_help (with_default four explain))) (flag_default explain four (flag_default progress three (subst Both (sym (default_file two)) (both_first rows fine))))
