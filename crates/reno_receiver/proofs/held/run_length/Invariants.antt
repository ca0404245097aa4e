use Rattle.std.proofs.Common.{◌≡◌, ℕ, ◌+◌, ◌*◌, ◌<◌, get_or}
use Rattle.reno_receiver.proofs.held.run_length.Given as goal

abbrev pub invariant-loop-count : goal.invariant-loop-count
invariant-loop-count l = record {
  so_far : l.expected ≡ l.first + l.count * l.mss;
  run : (k : ℕ) → k < l.count → get_or l.numbers k 0 ≡ l.first + k * l.mss;
}
