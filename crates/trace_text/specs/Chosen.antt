-- The lines of a whole dump or of a flow, for the contracts of private steps: no definition of a dump uses it.
use Rattle.std.specs.Prelude.{ℕ, List, Option, None, Some}
use Rattle.sim_time.specs.declared.key.Key.{Key}
use Rattle.node_core.specs.declared.event.Event.{Event}
use Rattle.node_core.specs.Part.{LinkState, PartState}
use Rattle.trace_text.specs.Dump.{node_line, link_line, event_line}
use Rattle.trace_text.specs.DumpParts.{flow_node, flow_link, flow_event}

-- each line where no flow is asked for
abbrev pub chosen_node : Option ℕ → ℕ × PartState → List ℕ
chosen_node None numbered = node_line numbered
chosen_node (Some flow) numbered = flow_node flow numbered

abbrev pub chosen_link : Option ℕ → LinkState → List ℕ
chosen_link None link = link_line link
chosen_link (Some flow) link = flow_link flow link

abbrev pub chosen_event : Option ℕ → Key × Event → List ℕ
chosen_event None entry = event_line entry
chosen_event (Some flow) entry = flow_event flow entry
