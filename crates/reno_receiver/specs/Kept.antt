-- What a receiver's fields stand for: every multiple of mss below next is received, and so are the
-- numbers held above it.
use Rattle.std.specs.Prelude.{◌≡◌, ℕ, ◌+◌, ◌/◌, ◌%◌, ◌<◌, ◌≤◌, List, [], ◌∷◌, ◌++◌}
use Rattle.std.specs.Ordering.{nat_cmp}
use Rattle.std.specs.FinSet.{FinSet}
use Rattle.std.specs.FinMap as map
use Rattle.reno_receiver.specs.Received.{ReceiverState, multiples}
use Rattle.reno_receiver.specs.declared.receiver.Receiver.TheInside.{Inside}

-- the multiples of mss below next, which is one itself
abbrev pub multiples_below : ℕ → ℕ → List ℕ
multiples_below mss next = multiples mss (next / mss)

-- the set of a list's numbers
abbrev pub set_of : List ℕ → FinSet nat_cmp
set_of [] = map.empty
set_of (x ∷ xs) = map.insert (set_of xs) x tt

abbrev pub kept_state : Inside → ReceiverState
kept_state r = record { mss = r.mss; delack = r.delack; received = set_of (multiples_below r.mss r.next ++ r.held); timer = r.timer }

-- the numbers rise from above n, and each is the number of a segment
abbrev pub IsHeldAbove : ℕ → ℕ → List ℕ → Type 0
IsHeldAbove mss n [] = Unit {0}
IsHeldAbove mss n (x ∷ xs) = (n < x) × (x % mss ≡ 0) × (x ≤ 9000000000000) × IsHeldAbove mss x xs

pub record IsKept (r : Inside) : Type 0 where
  pub mss_least : 1 ≤ r.mss
  pub mss_greatest : r.mss ≤ 9000
  pub delack_greatest : r.delack ≤ 500000000
  pub next_multiple : r.next % r.mss ≡ 0
  pub next_greatest : r.next ≤ 9000000000000 + r.mss
  pub held_above : IsHeldAbove r.mss r.next r.held
