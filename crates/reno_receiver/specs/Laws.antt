-- What every receiver keeps, whatever comes and in whatever order.
use Rattle.std.specs.Prelude.{◌≡◌, ℕ, ◌+◌, ◌%◌, ◌<◌, ◌≤◌, ◌↔◌, ◌⊎◌, Some, None}
use Rattle.sim_time.specs.Moment.{IsMoment}
use Rattle.reno_receiver.specs.declared.reply.Reply.TheVariants.{AckNow, Wait}
use Rattle.reno_receiver.specs.Received.{ReceiverState, Answered, initial_receiver, next_of, data_came, timer_came, IsReceived, IsWellFormed}
use Rattle.reno_receiver.specs.LeastMissing.{IsLeastMissing}

-- the next number is the least that is missing, and no higher than a bound that nothing received reaches
pub record NextHolds (st : ReceiverState) : Type 0 where
  pub least : IsLeastMissing st (next_of st)
  pub bounded : (h : ℕ) → h % st.mss ≡ 0 → ((x : ℕ) → IsReceived st x → x < h) → next_of st ≤ h

-- a new receiver waits for byte 0
pub record InitialHolds (mss delack : ℕ) : Type 0 where
  pub well_formed : IsWellFormed (initial_receiver mss delack)
  pub next_is : next_of (initial_receiver mss delack) ≡ 0
  pub empty : (x : ℕ) → IsReceived (initial_receiver mss delack) x → ⊥

-- what a segment leaves of the state before it
pub record DataKeeps (st : ReceiverState) (seq now : ℕ) (a : Answered) : Type 0 where
  pub well_formed : IsWellFormed a.state
  pub mss_stays : a.state.mss ≡ st.mss
  pub delack_stays : a.state.delack ≡ st.delack
  pub members : (x : ℕ) → IsReceived a.state x ↔ ((x ≡ seq) ⊎ IsReceived st x)
  pub next_rises : next_of st ≤ next_of a.state
  pub next_multiple : next_of a.state % st.mss ≡ 0
  pub acknowledged : (n : ℕ) → a.reply ≡ AckNow n → (n ≡ next_of a.state) × (a.state.timer ≡ None)
  pub waits : (d : ℕ) → a.reply ≡ Wait d → (d ≡ now + st.delack) × (0 < st.delack) × (a.state.timer ≡ Some d)

-- what a delayed answer leaves
pub record TimerKeeps (st : ReceiverState) (a : Answered) : Type 0 where
  pub well_formed : IsWellFormed a.state
  pub mss_stays : a.state.mss ≡ st.mss
  pub delack_stays : a.state.delack ≡ st.delack
  pub received_stays : a.state.received ≡ st.received
  pub next_stays : next_of a.state ≡ next_of st
  pub timer_off : a.state.timer ≡ None
  pub acknowledged : a.reply ≡ AckNow (next_of st)

abbrev pub NextLaw : Type 0
NextLaw = (st : ReceiverState) → IsWellFormed st → NextHolds st

abbrev pub InitialLaw : Type 0
InitialLaw = (mss delack : ℕ) → 1 ≤ mss → mss ≤ 9000 → delack ≤ 500000000 → InitialHolds mss delack

abbrev pub DataLaw : Type 0
DataLaw =
    (st : ReceiverState) (seq now : ℕ) → IsWellFormed st → seq % st.mss ≡ 0 → seq ≤ 9000000000000 → IsMoment now → DataKeeps st seq now (data_came st seq now)

abbrev pub TimerLaw : Type 0
TimerLaw = (st : ReceiverState) → IsWellFormed st → TimerKeeps st (timer_came st)
