use Rattle.std.proofs.Common.{◌≡◌, ◌<◌, ℕ, Option, length, slice_index_or}
use Rattle.figures.specs.Senders.{completed_in}
use Rattle.figures.proofs.figures.all_completed.Given as goal

-- of each sender so far it is known when its flow was completed
abbrev pub invariant-loop-counted : goal.invariant-loop-counted
invariant-loop-counted l = record {
  size : length l.all.items ≡ l.counted-index;
  completed : (place : ℕ) (other : Option ℕ) → place < l.counted-index → slice_index_or l.all.items place other ≡ completed_in l.senders place;
}
