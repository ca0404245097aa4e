-- The names of the values that a breakpoint can have a condition on, and of what they are compared with.
use Rattle.std.specs.Prelude.{ℕ, Bool, true, false, not, ◌&&◌, if◌then◌else◌, List, [], ◌∷◌, codes, Option, None, Some}
use Rattle.std.specs.Str.{bytes_eq}
use Rattle.breakpoints.specs.declared.values.Owner.{Owner}
use Rattle.breakpoints.specs.declared.values.Owner.TheVariants as owner
use Rattle.breakpoints.specs.declared.values.Phase.{Phase}
use Rattle.breakpoints.specs.declared.values.Phase.TheVariants.{SlowStart, CongestionAvoidance, FastRecovery}
use Rattle.breakpoints.specs.declared.values.Value.{Value}
use Rattle.breakpoints.specs.declared.values.Value.TheVariants.{Cwnd, Flight, Ssthresh, Una, Nxt, Rto, Dups, Phase as PhaseValue, Next, Queue, Wait, Count, Time}
use Rattle.breakpoints.specs.Values.{owner_of}
use Rattle.prompt_words.specs.Grammar.{Word, number_below}
use Rattle.prompt_words.specs.Times.{moment_in}

-- all values, by their indices
unfoldable pub all_values : List Value
all_values = Cwnd ∷ Flight ∷ Ssthresh ∷ Una ∷ Nxt ∷ Rto ∷ Dups ∷ PhaseValue ∷ Next ∷ Queue ∷ Wait ∷ Count ∷ Time ∷ []

abbrev pub value_name : Value → List ℕ
value_name Cwnd = codes "cwnd"
value_name Flight = codes "flight"
value_name Ssthresh = codes "ssthresh"
value_name Una = codes "una"
value_name Nxt = codes "nxt"
value_name Rto = codes "rto"
value_name Dups = codes "dups"
value_name PhaseValue = codes "phase"
value_name Next = codes "next"
value_name Queue = codes "queue"
value_name Wait = codes "wait"
value_name Count = codes "count"
value_name Time = codes "time"

-- the first of these values that a word names, and of all
abbrev pub value_among : List Value → Word → Option Value
value_among [] word = None
value_among (value ∷ values) word = if bytes_eq word (value_name value) then Some value else value_among values word

abbrev pub value_named : Word → Option Value
value_named word = value_among all_values word

-- a value is a time: it has a unit
abbrev pub is_time : Value → Bool
is_time Rto = true
is_time Wait = true
is_time Time = true
is_time value = false

abbrev pub value_unit : Value → List ℕ
value_unit value = if is_time value then codes "ns" else []

abbrev pub is_phase : Value → Bool
is_phase PhaseValue = true
is_phase value = false

-- a breakpoint can ask that a value changes: one of a flow, but for its phase
abbrev pub is_of_flow : Owner → Bool
is_of_flow owner.Flow = true
is_of_flow other = false

abbrev pub may_change : Value → Bool
may_change value = is_of_flow (owner_of value) && not (is_phase value)

-- the word of a phase
abbrev pub phase_word : Phase → List ℕ
phase_word SlowStart = codes "ss"
phase_word CongestionAvoidance = codes "ca"
phase_word FastRecovery = codes "fr"

abbrev pub phase_named : Word → Option Phase
phase_named word =
    if bytes_eq word (codes "ss") then Some SlowStart
    else (if bytes_eq word (codes "ca") then Some CongestionAvoidance
    else (if bytes_eq word (codes "fr") then Some FastRecovery
    else None))

-- what it is compared with: a time, or a number of at most 10^15
abbrev pub bound_named : Value → Word → Option ℕ
bound_named value word = if is_time value then moment_in word else number_below 1000000000000001 word
