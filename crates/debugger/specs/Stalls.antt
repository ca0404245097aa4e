-- The stalls of a run: each flow that is stalled after an event and was not before it.
use Rattle.std.specs.Prelude.{◌≡◌, ◌+◌, ℕ, zero, suc, if◌then◌else◌, List, [], ◌∷◌, ◌++◌, Option, None, Some}
use Rattle.node_core.specs.TraceLine.{TraceLine}
use Rattle.table_run.specs.State.{State, step, run}
use Rattle.flow_waits.specs.Stalled.{becomes_stalled}
use Rattle.debugger.specs.declared.stalls.StallAt.{StallAt}
use Rattle.debugger.specs.Moves.{EndsAt}

-- the stall of a flow by the line to a position, where the flow becomes stalled
abbrev pub stall_by : ℕ → State → TraceLine → State → ℕ → List StallAt
stall_by p before line after flow = if becomes_stalled flow before after then record { position = p; flow = flow; time = line.key.time } ∷ [] else []

-- those of the flows below a number, by number
unfoldable pub stalls_below : ℕ → ℕ → State → TraceLine → State → List StallAt
stalls_below zero p before line after = []
stalls_below (suc flow) p before line after = stalls_below flow p before line after ++ stall_by p before line after flow

-- those of all flows: a net has 128 at most
abbrev pub stalls_by : ℕ → State → TraceLine → State → List StallAt
stalls_by p before line after = stalls_below 128 p before line after

-- those by the step from a state, where there is one
abbrev pub stalls_of_step : ℕ → State → Option (TraceLine × State) → List StallAt
stalls_of_step p before None = []
stalls_of_step p before (Some next) = stalls_by p before next.0 next.1

abbrev pub stalls_after : ℕ → Option (List TraceLine × State) → List StallAt
stalls_after p None = []
stalls_after p (Some ran) = stalls_of_step p ran.1 (step ran.1)

-- those of a run up to a position, in the order of its lines
abbrev pub stalls_upto : State → ℕ → List StallAt
stalls_upto start zero = []
stalls_upto start (suc p) = stalls_upto start p ++ stalls_after (p + 1) (run start p)

-- those of the whole run stand behind what was there before
pub record IsAllStalls (start : State) (before out : List StallAt) : Type 0 where
  pub end : ℕ
  pub ends : EndsAt start end
  pub found : out ≡ before ++ stalls_upto start end
