-- What the law of windows rests on: of each event that is due in a run, what it makes is made by its node, and later; and for other groups it makes arrivals alone, no sooner than the lookahead.
use Rattle.std.proofs.Common.{◌≡◌, ◌≢◌, ◌≤◌, ◌+◌, ℕ, List, false, Option, Some, None}
use Rattle.std.specs.List.{AllByRecursion}
use Rattle.std.specs.Option.{IfSome}
use Rattle.std.specs.declared.cmp.Ordering.TheVariants.{Less}
use Rattle.sim_time.specs.declared.key.Key.{Key}
use Rattle.sim_time.specs.Keys.{key_cmp}
use Rattle.node_core.specs.declared.event.Event.{Event}
use Rattle.node_core.specs.Pending.{EventChange}
use Rattle.table_run.specs.State.{State, due}
use Rattle.table_run.specs.Laws.{made_by}
use Rattle.window_law.specs.Groups.{is_own}

-- no sooner than the lookahead after a moment; without a lookahead nothing crosses
abbrev pub IsAhead : Option ℕ → ℕ → ℕ → Type 0
IsAhead None now time = ⊥
IsAhead (Some delay) now time = now + delay ≤ time

-- the changes that the event of a key makes, where each key has one node that may change it
pub record IsFair (group : ℕ → ℕ) (maker : Key → ℕ) (ahead : Option ℕ) (k : Key) (changes : List EventChange) : Type 0 where
  pub made : AllByRecursion (λ (c : EventChange). maker c.0 ≡ k.node) changes
  pub later : AllByRecursion (λ (c : EventChange). IfSome c.1 (λ _. key_cmp k c.0 ≡ Less)) changes
  pub sent : AllByRecursion (λ (c : EventChange). is_own group (group k.node) c.0 ≡ false → c.1 ≢ None) changes
  pub far : AllByRecursion (λ (c : EventChange). is_own group (group k.node) c.0 ≡ false → IsAhead ahead k.time c.0.time) changes

abbrev pub FairStep : (ℕ → ℕ) → (Key → ℕ) → Option ℕ → State → Type 0
FairStep group maker ahead s = (k : Key) (v : Event) → due s ≡ Some (k, v) → IsFair group maker ahead k (made_by s k v)
