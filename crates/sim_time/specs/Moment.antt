-- The moments of a simulation.
use Rattle.std.specs.Prelude.{◌≤◌, ℕ}
use Rattle.sim_time.specs.declared.limits.TheConstants.{LATEST_END}

-- in nanoseconds: no scenario ends later than after 1,000,000 seconds
abbrev pub IsMoment : ℕ → Type 0
IsMoment now = now ≤ LATEST_END
