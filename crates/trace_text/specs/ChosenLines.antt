-- All lines behind a dump's first, or those of a flow, for the contracts of private steps.
use Rattle.std.specs.Prelude.{ℕ, List, Option}
use Rattle.std.specs.List.{flat_map, enumerate_from}
use Rattle.std.specs.FinMap as map
use Rattle.table_run.specs.State.{State}
use Rattle.trace_text.specs.Words.{◌+++◌}
use Rattle.trace_text.specs.Chosen.{chosen_node, chosen_link, chosen_event}
use Rattle.trace_text.specs.Dump.{links_in_order}

-- of each node, of each link and of each pending event
abbrev pub chosen_bytes : Option ℕ → State → List ℕ
chosen_bytes flow state =
    flat_map (chosen_node flow) (enumerate_from 0 state.parts)
    +++ flat_map (chosen_link flow) (links_in_order state.parts)
    +++ flat_map (chosen_event flow) (map.entries state.pending)
