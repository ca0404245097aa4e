-- Where the threads of a window lay down what they made of its text.
use Rattle.std.specs.Prelude.{◌≡◌, ◌≢◌, ℕ, ◌<◌, ◌∷◌, ◌⊎◌, length, slice_index, Option, IfSome, refl}
use Rattle.std.specs.Coded.{Coded, code_by, coded×}
use mathlib.Core.Option as opt
use lib.ListN.{get_elem?}
use Rattle.atomic_table.specs.Seated.{TableId, table_id_coded}
use Rattle.atomic_table.specs.Table.{Me, State, Step}
use Rattle.line_merge.specs.SheafCode.{sheaf_code}
use Rattle.line_merge.specs.Sheaves.{SheafValue}
use Rattle.window_text.specs.declared.formatter.TextFormatter.{TextFormatter}
use Rattle.window_text.specs.Parts.{IsRight}

-- which result table it is, and the lines of which text is made
pub record ResultTableState : Type 0 where
  pub table : TableId
  pub sheaf : SheafValue

abbrev pub result_table_code : Coded ResultTableState
result_table_code = code_by (TableId × SheafValue) (coded× table_id_coded sheaf_code) (λ d. (d.table, d.sheaf)) (λ t. record { table = t.0; sheaf = t.1 }) (λ _. refl)

-- a clause sees of a ticket which result table it is of
abbrev pub TicketState : Type 0
TicketState = TableId

-- the ticket is of this result table
abbrev pub IsTicketOf : ResultTableState → TicketState → Type 0
IsTicketOf result_table ticket = ticket ≡ result_table.table

-- a result table as its steps see it: the words of its places, and what lies there
abbrev pub Places : Type 0
Places = State (Option TextFormatter) Unit

-- what lies at the place is there, and is right where it is something
abbrev pub LiesRight : SheafValue → opt.Option (opt.Option (Option TextFormatter)) → Type 0
LiesRight sheaf home = (x : Option TextFormatter) × (home ≡ opt.some (opt.some x)) × IfSome x (IsRight sheaf)

-- between any two steps: what lies at a place is right, unless its word is 1: then a thread has taken the place. It is 0 before, and more where something was laid down
pub record IsResultTable (sheaf : SheafValue) (s : Places) : Type 0 where
  pub long : length s.words ≡ length s.homes
  pub right : (i : ℕ) → i < length s.homes → (slice_index s.words i ≡ 1) ⊎ LiesRight sheaf (get_elem? s.homes i)

-- a ticket as its steps see it: the places that it has taken
abbrev pub Passing : Type 0
Passing = Me (Option TextFormatter) Unit

-- where the word was 0, the ticket has taken the place
abbrev pub place_taken : Step (Option TextFormatter) → Passing → ℕ → Passing → Type 0
place_taken st m found n = (found ≡ 0 → (x : Option TextFormatter) × (n ≡ (m.0, (st.word, x) ∷ m.1))) × (found ≢ 0 → n ≡ m)
