-- What `stalls` tells: all stalls of a run, each with the position behind which it begins.
use Rattle.std.specs.Prelude.{◌≡◌, ℕ, List, [], ◌∷◌, ◌++◌, codes, decimal}
use Rattle.std.specs.List.{flat_map}
use Rattle.table_run.specs.State.{State}
use Rattle.flow_waits.specs.Names.{NameList, named}
use Rattle.debugger.specs.declared.stalls.StallAt.{StallAt}
use Rattle.debugger.specs.Moves.{EndsAt}
use Rattle.debugger.specs.Stalls.{stalls_upto}

-- what is typed to go there
abbrev pub goto_text : ℕ → List ℕ
goto_text position = codes "goto " ++ decimal position

-- when the flow is stalled
abbrev pub since_text : ℕ → List ℕ
since_text time = codes " is stalled at " ++ (decimal time ++ codes " ns\n")

abbrev pub stall_line : NameList → StallAt → List ℕ
stall_line flows s = goto_text s.position ++ (named (codes ": flow ") flows s.flow ++ since_text s.time)

abbrev pub stalls_text : NameList → List StallAt → List ℕ
stalls_text flows [] = codes "no stall\n"
stalls_text flows (s ∷ stalls) = flat_map (stall_line flows) (s ∷ stalls)

-- the stalls of a run are told, up to where it ends
abbrev pub TellsStalls : NameList → State → List ℕ → Type 0
TellsStalls flows start out = (end : ℕ) × EndsAt start end × (out ≡ stalls_text flows (stalls_upto start end))
