-- What a receiver knows, and what it answers: a rule over the set of byte numbers received
-- (RFC 5681 section 4.2).
use Rattle.std.specs.Prelude.{◌≡◌, ℕ, ◌+◌, ◌*◌, ◌%◌, ◌≤◌, Bool, ◌&&◌, not, ◌==◌, nat_lt, nat_le, if◌then◌else◌, IsTrue, List, map as each, filter, find, Option, Some, None, is_none, unwrap_or, refl}
use Rattle.std.specs.List.{range_with_len, list_all}
use Rattle.std.specs.Ordering.{nat_cmp}
use Rattle.std.specs.FinSet.{FinSet, code as set_code}
use Rattle.std.specs.FinMap as map
use Rattle.std.specs.Coded.{Coded, code_by, coded×, coded_ℕ, coded_option}
use Rattle.reno_receiver.specs.declared.reply.Reply.{Reply}
use Rattle.reno_receiver.specs.declared.reply.Reply.TheVariants.{AckNow, Wait}

-- the bytes of a segment; how long an answer may be delayed, in nanoseconds; the set of byte
-- numbers received, which is a map with nothing at each of them; when a delayed answer is due, if
-- one is
pub record ReceiverState : Type 0 where
  pub mss : ℕ
  pub delack : ℕ
  pub received : FinSet nat_cmp
  pub timer : Option ℕ

-- a state is stored as its four parts
abbrev pub receiver_code : Coded ReceiverState
receiver_code =
    code_by (ℕ × (ℕ × (FinSet nat_cmp × Option ℕ))) (coded× coded_ℕ (coded× coded_ℕ (coded× (set_code coded_ℕ) (coded_option coded_ℕ)))) (λ st. (st.mss, (st.delack, (st.received, st.timer))))
    (λ p. record { mss = p.0; delack = p.1.0; received = p.1.1.0; timer = p.1.1.1 }) (λ _. refl)

-- nothing is received, and no answer is due
abbrev pub initial_receiver : ℕ → ℕ → ReceiverState
initial_receiver mss delack = record { mss = mss; delack = delack; received = map.empty; timer = None }

-- the segment of this number has come
abbrev pub is_received : ReceiverState → ℕ → Bool
is_received st seq = map.contains_key st.received seq

abbrev pub IsReceived : ReceiverState → ℕ → Type 0
IsReceived st seq = IsTrue (is_received st seq)

-- the first n multiples of mss, from 0 on
abbrev pub multiples : ℕ → ℕ → List ℕ
multiples mss n = each (λ k. k * mss) (range_with_len 0 n)

-- the first multiple of mss that is not received: of one more than are received, one is not
abbrev pub next_of : ReceiverState → ℕ
next_of st = unwrap_or (find (λ n. not (is_received st n)) (multiples st.mss (map.len st.received + 1))) 0

-- the numbers received above the next one, rising
abbrev pub held_of : ReceiverState → List ℕ
held_of st = filter (nat_lt (next_of st)) (map.keys st.received)

-- the answer may wait: the segment is the next one, nothing above it has come, answers are
-- delayed, and none is due yet
abbrev pub may_wait : ReceiverState → ℕ → Bool
may_wait st seq = (seq == next_of st) && (list_all (λ x. nat_le x seq) (map.keys st.received) && (nat_lt 0 st.delack && is_none st.timer))

-- the state with one more number received
abbrev pub gaining : ReceiverState → ℕ → ReceiverState
gaining st seq = record st { received = map.insert st.received seq tt }

-- what an event leaves, and what it is answered with
pub record Answered : Type 0 where
  pub state : ReceiverState
  pub reply : Reply

-- a segment comes: its number joins the set, and the answer waits or acknowledges the new next
-- number; no answer is due after an acknowledgement
abbrev pub data_came : ReceiverState → ℕ → ℕ → Answered
data_came st seq now = record {
  state = record (gaining st seq) { timer = if may_wait st seq then Some (now + st.delack) else None };
  reply = if may_wait st seq then Wait (now + st.delack) else AckNow (next_of (gaining st seq));
}

-- a delayed answer is due: it acknowledges the next number
abbrev pub timer_came : ReceiverState → Answered
timer_came st = record { state = record st { timer = None }; reply = AckNow (next_of st) }

-- the ranges of a receiver's numbers
pub record IsWellFormed (st : ReceiverState) : Type 0 where
  pub mss_least : 1 ≤ st.mss
  pub mss_greatest : st.mss ≤ 9000
  pub delack_greatest : st.delack ≤ 500000000
  pub multiple : (seq : ℕ) → IsReceived st seq → seq % st.mss ≡ 0
  pub greatest : (seq : ℕ) → IsReceived st seq → seq ≤ 9000000000000
