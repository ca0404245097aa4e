use Rattle.std.proofs.Common.{◌≡◌, length}
use Rattle.thread_pool.proofs.pool.ThreadPool.new.Given as goal

abbrev pub invariant-loop : goal.invariant-loop
invariant-loop g l = length l.mailboxes.items ≡ l.counter
