-- What is counted of a sender, over its turns.
use Rattle.std.specs.Prelude.{◌≡◌, ◌-◌, ◌^◌, ℕ, if◌then◌else◌, List, [], ◌++◌, length, count_by, find, Option, IfSome}
use Rattle.std.specs.List.{sum_by, filter_map, slice_get}
use Rattle.std.specs.Option.{option_map, option_and_then}
use Rattle.node_core.specs.declared.role.Role.{Role}
use Rattle.node_core.specs.Part.{sender_in}
use Rattle.figures.specs.Classes.{least_from}
use Rattle.figures.specs.Turns.{Turn, Keeps, planned_in, again_in, in_recovery, is_timeout, sample_in, is_complete}
use Rattle.figures.specs.Tallied.{IsTallyOf}
use Rattle.figures.specs.declared.sender.SenderFigures.{SenderFigures}

-- the segments that were sent, new or again
abbrev pub sent_of_turns : List Turn → ℕ
sent_of_turns ts = sum_by (λ t. length (planned_in t).sent) ts

-- those that were sent again in recovery, and the others that were sent again
abbrev pub again_in_recovery_of : List Turn → ℕ
again_in_recovery_of ts = sum_by (λ t. if in_recovery t then again_in t else 0) ts

abbrev pub again_otherwise_of : List Turn → ℕ
again_otherwise_of ts = sum_by (λ t. if in_recovery t then 0 else again_in t) ts

abbrev pub timeouts_of : List Turn → ℕ
timeouts_of ts = count_by (λ t. is_timeout t.cause) ts

-- the samples of the round trip
abbrev pub trips_of : List Turn → List ℕ
trips_of ts = filter_map sample_in ts

-- the moment of the first turn after which all bytes are acknowledged
abbrev pub completed_of : List Turn → Option ℕ
completed_of ts = option_map (λ (t : Turn). t.now) (find (λ t. is_complete (planned_in t).fields) ts)

-- when all bytes were acknowledged that a node's sender has, by what was counted of each
abbrev pub completed_in : List SenderFigures → ℕ → Option ℕ
completed_in counted node = option_and_then (λ (f : SenderFigures). f.completed) (slice_get counted node)

-- the figures are those of these turns, which follow others; the moment at which all bytes are acknowledged is that of all turns
pub record AreOfTurns (before ts : List Turn) (f : SenderFigures) : Type 0 where
  pub sent : f.sent ≡ sent_of_turns ts
  pub again_in_recovery : f.again_in_recovery ≡ again_in_recovery_of ts
  pub again_otherwise : f.again_otherwise ≡ again_otherwise_of ts
  pub timeouts : f.timeouts ≡ timeouts_of ts
  pub completed : f.completed ≡ completed_of (before ++ ts)
  pub trips : IsTallyOf (trips_of ts) f.trips
  pub least : f.least ≡ least_from (2 ^ 64 - 1) (trips_of ts)

-- nothing is counted yet of a node's sender, if it has one, behind turns by which all bytes were acknowledged then, or not yet
pub record IsBegun (completed : Option ℕ) (role : Role) (f : SenderFigures) : Type 0 where
  pub figures : (before : List Turn) → completed ≡ completed_of before → AreOfTurns before [] f
  pub keeps : IfSome (sender_in role) (λ found. Keeps f.kept found.1)
  pub turns : f.turns ≡ 0
