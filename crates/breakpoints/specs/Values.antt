-- Values of flows and of links, and what is asked of them after an event.
use Rattle.std.specs.Prelude.{◌≡◌, ◌<◌, ◌≤◌, ℕ, Bool, true, false, ◌||◌, nat_lt, if◌then◌else◌, replicate, slice_index_or, slice_set, Option, None, Some, IfSome, is_some}
use Rattle.reno_sender.specs.declared.fields.SenderFields.{SenderFields}
use Rattle.reno_sender.specs.Fields.{flight_size}
use Rattle.node_core.specs.declared.line.After.{After}
use Rattle.node_core.specs.declared.line.After.TheVariants.{AtSender, AtReceiver, AtRouter}
use Rattle.node_core.specs.Row.{after_of}
use Rattle.node_core.specs.TraceLine.{TraceLine}
use Rattle.table_run.specs.State.{State, part_at}
use Rattle.breakpoints.specs.declared.values.Value.{Value}
use Rattle.breakpoints.specs.declared.values.Value.TheVariants.{Cwnd, Flight, Ssthresh, Una, Nxt, Rto, Dups, Phase as PhaseValue, Next, Queue, Wait, Count, Time}
use Rattle.breakpoints.specs.declared.values.Owner.{Owner}
use Rattle.breakpoints.specs.declared.values.Owner.TheVariants as owner
use Rattle.breakpoints.specs.declared.values.Phase.{Phase}
use Rattle.breakpoints.specs.declared.values.Phase.TheVariants.{SlowStart, CongestionAvoidance, FastRecovery}
use Rattle.breakpoints.specs.declared.values.Reading.{Reading}
use Rattle.breakpoints.specs.declared.values.Reading.TheVariants.{Number, Phase as InPhase, Nothing}
use Rattle.breakpoints.specs.declared.values.Sign.TheVariants.{Less, AtMost, Greater, AtLeast, Equal}
use Rattle.breakpoints.specs.declared.values.Sign.{Sign}
use Rattle.breakpoints.specs.declared.values.Bound.{Bound}
use Rattle.breakpoints.specs.declared.values.Test.{Test}
use Rattle.breakpoints.specs.declared.values.Test.TheVariants.{Within, Is}
use Rattle.breakpoints.specs.declared.values.Asked.{Asked}
use Rattle.breakpoints.specs.declared.values.Values.{Values}
use Rattle.breakpoints.specs.declared.values.ValueCondition.{ValueCondition}
use Rattle.breakpoints.specs.declared.values.ValueCondition.TheVariants.{Is as IsSo, Change}

-- a value's place among all values
abbrev pub index_of : Value → ℕ
index_of Cwnd = 0
index_of Flight = 1
index_of Ssthresh = 2
index_of Una = 3
index_of Nxt = 4
index_of Rto = 5
index_of Dups = 6
index_of PhaseValue = 7
index_of Next = 8
index_of Queue = 9
index_of Wait = 10
index_of Count = 11
index_of Time = 12

-- what it is of
abbrev pub owner_of : Value → Owner
owner_of Queue = owner.Link
owner_of Wait = owner.Link
owner_of Count = owner.Link
owner_of Time = owner.Nothing
owner_of value = owner.Flow

-- a sender keeps it, and the text of its lines leaves it out
abbrev pub is_kept : Value → Bool
is_kept Rto = true
is_kept Dups = true
is_kept value = false

-- a receiver has it
abbrev pub is_next : Value → Bool
is_next Next = true
is_next value = false

-- a number is on that side of another
abbrev pub Compares : Sign → ℕ → ℕ → Type 0
Compares Less value number = value < number
Compares AtMost value number = value ≤ number
Compares Greater value number = number < value
Compares AtLeast value number = number ≤ value
Compares Equal value number = value ≡ number

abbrev pub CompareIs : Bound → ℕ → Type 0
CompareIs bound value = Compares bound.sign value bound.number

-- what is asked holds of what is read
abbrev pub HoldsOf : Reading → Test → Type 0
HoldsOf (Number value) (Within bound) = CompareIs bound value
HoldsOf (InPhase phase) (Is other) = phase ≡ other
HoldsOf reading test = ⊥

-- a number, where there is one
abbrev pub number_or_nothing : Option ℕ → Reading
number_or_nothing None = Nothing
number_or_nothing (Some number) = Number number

-- fast recovery; else slow start where cwnd is below ssthresh; else congestion avoidance
abbrev pub phase_of : SenderFields → Phase
phase_of f = if f.recovery then FastRecovery else (if nat_lt f.cwnd f.ssthresh then SlowStart else CongestionAvoidance)

-- a value of a sender
abbrev pub sender_value : Value → SenderFields → Reading
sender_value Cwnd f = Number f.cwnd
sender_value Flight f = Number (flight_size f)
sender_value Ssthresh f = Number f.ssthresh
sender_value Una f = Number f.una
sender_value Nxt f = Number f.nxt
sender_value Rto f = Number f.rto
sender_value Dups f = Number f.dups
sender_value PhaseValue f = InPhase (phase_of f)
sender_value Next f = Nothing
sender_value Queue f = Nothing
sender_value Wait f = Nothing
sender_value Count f = Nothing
sender_value Time f = Nothing

-- and of the receiver that waits for a byte
abbrev pub receiver_value : Value → ℕ → Reading
receiver_value value next = if is_next value then Number next else Nothing

-- a value of what a line shows of its node
abbrev pub value_after : Value → After → Reading
value_after value (AtSender fields) = sender_value value fields
value_after value (AtReceiver next) = receiver_value value next
value_after value AtRouter = Nothing

-- the sender that a line shows
abbrev pub sender_after : After → Option SenderFields
sender_after (AtSender fields) = Some fields
sender_after (AtReceiver next) = None
sender_after AtRouter = None

-- nothing is asked of any value
abbrev pub no_values : Values
no_values = record { asked = replicate 13 None; change = None }

-- one condition more, in the place of another on the same value
abbrev pub asking_value : Values → ValueCondition → Values
asking_value v (IsSo value asked) = record v { asked = slice_set v.asked (index_of value) (Some asked) }
asking_value v (Change asked) = record v { change = Some asked }

-- what is asked of a value
abbrev pub asked_of : Values → Value → Option Asked
asked_of v value = slice_index_or v.asked (index_of value) None

-- a value of what a line shows is as asked
abbrev pub IsMet : Values → After → Value → Type 0
IsMet v after value = IfSome (asked_of v value) (λ asked. HoldsOf (value_after value after) asked.test)

-- where its windows or its phase are asked for, the line shows a sender, of which that holds
pub record MeetsWindows (v : Values) (after : After) : Type 0 where
  pub cwnd : IsMet v after Cwnd
  pub flight : IsMet v after Flight
  pub ssthresh : IsMet v after Ssthresh
  pub phase : IsMet v after PhaseValue

-- the same of a sender's bytes, and of a receiver's
pub record MeetsBytes (v : Values) (after : After) : Type 0 where
  pub una : IsMet v after Una
  pub nxt : IsMet v after Nxt
  pub next : IsMet v after Next

-- the same of what a sender keeps and the text of its lines leaves out
pub record MeetsKept (v : Values) (after : After) : Type 0 where
  pub rto : IsMet v after Rto
  pub dups : IsMet v after Dups

-- something of that is asked for
abbrev pub asks_kept : Values → Bool
asks_kept v = is_some (asked_of v Rto) || is_some (asked_of v Dups)

-- what a line shows of a node of a state
abbrev pub after_at : State → ℕ → After
after_at s node = after_of (part_at s node).role

-- each condition on a value that a line shows holds of it
pub record MeetsValues (v : Values) (line : TraceLine) : Type 0 where
  pub windows : MeetsWindows v line.after
  pub bytes : MeetsBytes v line.after
  pub time : IfSome (asked_of v Time) (λ asked. HoldsOf (Number line.key.time) asked.test)
