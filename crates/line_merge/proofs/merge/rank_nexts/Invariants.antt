use Rattle.std.proofs.Common.{◌≡◌, ◌≤◌, ℕ, length, take, map, true, None}
use Rattle.tournament.specs.Leading.{rank_at}
use Rattle.line_merge.specs.Merged.{first_key, rests}
use Rattle.line_merge.proofs.merge.rank_nexts.Given as goal

abbrev pub invariant-loop-number : goal.invariant-loop-number
invariant-loop-number l = record {
  ranked : take l.number l.tournament ≡ map first_key (take l.number (rests l.lists l.nexts));
  size : length l.tournament ≡ length l.lists;
  vacant : l.vacant ≡ true → (place : ℕ) → l.number ≤ place → rank_at l.tournament place ≡ None;
}
