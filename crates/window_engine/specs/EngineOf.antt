-- The engine that an engine's fields are.
use Rattle.std.specs.Prelude.{◌≡◌, false}
use Rattle.window_engine.specs.declared.engine.Engine.TheInside.{Inside}
use Rattle.window_engine.specs.RunStates.{AtRest, HasGroups}
use Rattle.window_workers.specs.Edges.{edge_of}
use Rattle.window_engine.specs.Engines.{EngineValue}

abbrev pub engine_of : Inside → EngineValue
engine_of e = record { entries = e.run_state.groups; ahead = e.run_state.ahead; net = record { state = edge_of e.run_state.window; position = e.run_state.position }; failed = e.failed }

-- where no call had a fault, the net is between windows; the groups are those that were asked for
abbrev pub IsEngineInside : Inside → Type 0
IsEngineInside e = e.failed ≡ false → AtRest e.run_state × HasGroups e.run_state
