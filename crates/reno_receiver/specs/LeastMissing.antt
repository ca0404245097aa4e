-- The next number of a receiver, as a relation.
use Rattle.std.specs.Prelude.{◌≡◌, ℕ, ◌%◌, ◌≤◌}
use Rattle.reno_receiver.specs.Received.{ReceiverState, IsReceived}

-- n is the least multiple of mss that is not received
pub record IsLeastMissing (st : ReceiverState) (n : ℕ) : Type 0 where
  pub multiple : n % st.mss ≡ 0
  pub missing : ¬ IsReceived st n
  pub least : (m : ℕ) → m % st.mss ≡ 0 → ¬ IsReceived st m → n ≤ m
