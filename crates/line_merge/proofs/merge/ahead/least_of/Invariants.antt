use Rattle.std.proofs.Common.{◌≡◌, ◌≢◌, ℕ, ◌<◌, length, get_or, false}
use Rattle.line_merge.proofs.merge.ahead.least_of.Given as goal

-- it is the least so far, and no other is as early
abbrev pub invariant-loop-place : goal.invariant-loop-place
invariant-loop-place l = record {
  before : l.least < l.place;
  within : l.least < length l.moments;
  moment : l.moment ≡ get_or l.moments l.least 0;
  alone : l.tied ≡ false → (i : ℕ) → i < l.place → i ≢ l.least → l.moment < get_or l.moments i 0;
}
