-- What is displayed after each move: values of flows and links, each with what it was before.
use Rattle.std.specs.Prelude.{◌≡◌, ◌<◌, ◌≤◌, ◌+◌, ◌⊎◌, ◌==◌, ℕ, Bool, true, false, if◌then◌else◌, List, [], ◌∷◌, ◌++◌, length, slice_index_or, Contains, codes, decimal, Ok, Err}
use Rattle.std.specs.List.{remove, flat_map}
use Rattle.std.specs.Str.{bytes_eq}
use Rattle.flow_waits.specs.declared.names.ScenarioNames.{ScenarioNames}
use Rattle.flow_waits.specs.Names.{named}
use Rattle.breakpoints.specs.declared.values.Owner.{Owner}
use Rattle.breakpoints.specs.declared.values.Owner.TheVariants as owner
use Rattle.breakpoints.specs.declared.values.Reading.{Reading}
use Rattle.breakpoints.specs.declared.values.Reading.TheVariants.{Number, Phase as InPhase, Nothing}
use Rattle.breakpoints.specs.declared.values.Value.{Value}
use Rattle.breakpoints.specs.declared.values.Value.TheVariants.{Cwnd, Flight, Ssthresh, Una, Nxt, Rto, Dups, Phase, Next, Queue, Wait, Count}
use Rattle.breakpoints.specs.declared.values.ValueOf.{ValueOf}
use Rattle.breakpoints.specs.Values.{owner_of}
use Rattle.prompt_words.specs.declared.display.DisplayCommand.{DisplayCommand}
use Rattle.prompt_words.specs.declared.display.DisplayCommand.TheVariants.{All, Add, TakeAway}
use Rattle.prompt_words.specs.declared.display.DisplayItem.{DisplayItem}
use Rattle.prompt_words.specs.declared.display.DisplayItem.TheVariants.{Flow, Link, One}
use Rattle.prompt_words.specs.declared.refusal.Refusal.{Refusal}
use Rattle.prompt_words.specs.declared.refusal.Refusal.TheVariants.{B4, B5, M}
use Rattle.prompt_words.specs.Refusals.{Answer}
use Rattle.prompt_words.specs.Numbered.{IsNumber, HasNumber}
use Rattle.prompt_words.specs.ValueNames.{phase_word, value_name, value_unit}
use Rattle.prompt_words.specs.ValueTexts.{reading_text}

-- a value and whose it is, as it is typed behind `display`
abbrev pub of_named : ScenarioNames → Owner → ℕ → List ℕ
of_named names owner.Link of = named (codes " ") names.links of
of_named names other of = named (codes " ") names.flows of

abbrev pub readable_text : ScenarioNames → ValueOf → List ℕ
readable_text names what = value_name what.value ++ of_named names (owner_of what.value) what.of

abbrev pub is_same_reading : Reading → Reading → Bool
is_same_reading (Number m) (Number n) = m == n
is_same_reading (InPhase p) (InPhase q) = bytes_eq (phase_word p) (phase_word q)
is_same_reading Nothing Nothing = true
is_same_reading was now = false

-- what was read before, where that is another
abbrev pub reading_before : List ℕ → Reading → Reading → List ℕ
reading_before unit was now = if is_same_reading was now then [] else codes " (was " ++ (reading_text unit was ++ codes ")")

-- what is read of each value
abbrev pub Reads : Type 0
Reads = ValueOf → Reading

-- a value
abbrev pub value_shown : Reads → Reads → ValueOf → List ℕ
value_shown was now what = codes " = " ++ (reading_text (value_unit what.value) (now what) ++ reading_before (value_unit what.value) (was what) (now what))

-- a value of a number with its name behind a mark
abbrev pub one_shown : Reads → Reads → List ℕ → ℕ → Value → List ℕ
one_shown was now mark of value = mark ++ (value_name value ++ value_shown was now (record { value = value; of = of }))

-- all of a flow, and of a link: the first value, and the others
abbrev pub more_of_flow : List Value
more_of_flow = Flight ∷ Ssthresh ∷ Una ∷ Nxt ∷ Rto ∷ Dups ∷ Phase ∷ Next ∷ []

abbrev pub more_of_link : List Value
more_of_link = Wait ∷ Count ∷ []

abbrev pub all_shown : Reads → Reads → ℕ → Value → List Value → List ℕ
all_shown was now of first more = one_shown was now (codes ": ") of first ++ flat_map (one_shown was now (codes ", ") of) more

-- what is displayed, as it is typed behind `display`
abbrev pub item_text : ScenarioNames → DisplayItem → List ℕ
item_text names (Flow flow) = named (codes "flow ") names.flows flow
item_text names (Link link) = named (codes "link ") names.links link
item_text names (One what) = readable_text names what

abbrev pub item_shown : Reads → Reads → DisplayItem → List ℕ
item_shown was now (Flow flow) = all_shown was now flow Cwnd more_of_flow
item_shown was now (Link link) = all_shown was now link Queue more_of_link
item_shown was now (One what) = value_shown was now what

-- a display's line: its number, what it is, and the values
abbrev pub display_line : ScenarioNames → Reads → Reads → ℕ → DisplayItem → List ℕ
display_line names was now i item = codes "display " ++ (decimal i ++ (codes ": " ++ (item_text names item ++ (item_shown was now item ++ codes "\n"))))

-- a line for each, from a number on
abbrev pub displays_from : ScenarioNames → Reads → Reads → ℕ → List DisplayItem → List ℕ
displays_from names was now i [] = []
displays_from names was now i (item ∷ items) = display_line names was now i item ++ displays_from names was now (i + 1) items

abbrev pub undisplayed_line : ScenarioNames → ℕ → DisplayItem → List ℕ
undisplayed_line names i item = codes "undisplayed " ++ (decimal i ++ (codes ": " ++ (item_text names item ++ codes "\n")))

-- present values alone
abbrev pub present_line : ScenarioNames → Reads → ℕ → DisplayItem → List ℕ
present_line names now i item = display_line names now now i item

abbrev pub display_listing : ScenarioNames → Reads → List DisplayItem → List ℕ
display_listing names now [] = codes "no display\n"
display_listing names now (item ∷ items) = displays_from names now now 1 (item ∷ items)

-- a display that is not set yet joins the others, as the last of them
pub record JoinsDisplays (names : ScenarioNames) (now : Reads) (item : DisplayItem) (old new : List DisplayItem) (out : List ℕ) : Type 0 where
  pub fresh : ¬ Contains old item
  pub few : length old < 64
  pub joined : new ≡ old ++ item ∷ []
  pub reported : out ≡ present_line names now (length old + 1) item

-- something is displayed: what is displayed already keeps its number
abbrev pub SetsDisplay : ScenarioNames → Reads → DisplayItem → List DisplayItem → List DisplayItem → List ℕ → Type 0
SetsDisplay names now item old new out = ((i : ℕ) × IsNumber old item i × (new ≡ old) × (out ≡ present_line names now i item)) ⊎ JoinsDisplays names now item old new out

-- the display of a number is taken away, and the later ones move up
pub record Undisplays (names : ScenarioNames) (i : ℕ) (old new : List DisplayItem) (out : List ℕ) : Type 0 where
  pub index : ℕ
  pub item : DisplayItem
  pub number : i ≡ index + 1
  pub within : index < length old
  pub there : slice_index_or old index item ≡ item
  pub left : new ≡ remove old index
  pub reported : out ≡ undisplayed_line names i item

-- a command on displays is done, where these values are read
abbrev pub DoesDisplay : ScenarioNames → Reads → DisplayCommand → List DisplayItem → List DisplayItem → List ℕ → Type 0
DoesDisplay names now All old new out = (new ≡ old) × (out ≡ display_listing names now old)
DoesDisplay names now (Add item) old new out = SetsDisplay names now item old new out
DoesDisplay names now (TakeAway i) old new out = Undisplays names i old new out

-- why a command on displays is refused: there may be no memory for any, there are as many displays as there may be, or none has the number
abbrev pub DisplayIsRefused : Refusal → DisplayCommand → List DisplayItem → Type 0
DisplayIsRefused M asked old = Unit {0}
DisplayIsRefused B4 (Add item) old = ¬ Contains old item × (64 ≤ length old)
DisplayIsRefused B5 (TakeAway i) old = ¬ HasNumber old i
DisplayIsRefused refusal asked old = ⊥

-- it is done, or refused, and then nothing changes
abbrev pub ObeysDisplays : ScenarioNames → Reads → DisplayCommand → List DisplayItem → List DisplayItem → Answer → Type 0
ObeysDisplays names now asked old new (Ok out) = DoesDisplay names now asked old new out
ObeysDisplays names now asked old new (Err refusal) = (new ≡ old) × DisplayIsRefused refusal asked old
