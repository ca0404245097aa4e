-- Which packets of a flow a run has dropped.
use Rattle.std.specs.Prelude.{◌==◌, ◌+◌, ℕ, Bool, false, nat_lt, ◌&&◌, if◌then◌else◌, List, [], ◌∷◌, ◌++◌, Option, None, Some}
use Rattle.std.specs.List.{flat_map}
use Rattle.packet_chain.specs.declared.packet.Kind.{Kind}
use Rattle.packet_chain.specs.declared.packet.Kind.TheVariants.{Data, Ack}
use Rattle.packet_chain.specs.declared.packet.Packet.{Packet}
use Rattle.reno_sender.specs.declared.fields.SenderFields.{SenderFields}
use Rattle.port.specs.declared.acts.Act.{Act}
use Rattle.port.specs.declared.acts.Act.TheVariants.{Tx, Dropped}
use Rattle.node_core.specs.TraceLine.{TraceLine}
use Rattle.table_run.specs.State.{State, run}
use Rattle.flow_waits.specs.Stalled.{sender_of}
use Rattle.debugger.specs.declared.drops.DropsOf.{DropsOf}
use Rattle.debugger.specs.declared.drops.DropsOf.TheVariants.{Segment, AcksAbove}
use Rattle.debugger.specs.declared.drops.PastDrop.{PastDrop}
use Rattle.debugger.specs.Passed.{lines_of_steps}
use Rattle.breakpoints.specs.Seen.{next_in}

-- a packet of the flow: the segment that begins with the byte, or an acknowledgement of a later one
abbrev pub is_asked_among : DropsOf → Kind → ℕ → ℕ → Bool
is_asked_among (Segment flow byte) Data of number = (of == flow) && (number == byte)
is_asked_among (Segment flow byte) Ack of number = false
is_asked_among (AcksAbove flow byte) Data of number = false
is_asked_among (AcksAbove flow byte) Ack of number = (of == flow) && nat_lt byte number

abbrev pub is_asked_for : DropsOf → Packet → Bool
is_asked_for asked packet = is_asked_among asked packet.kind packet.flow packet.number

-- the drop that an act of a line is, where it is one that is looked for
abbrev pub drop_of_act : DropsOf → ℕ → Act → List PastDrop
drop_of_act asked n (Tx link packet) = []
drop_of_act asked n (Dropped link reason packet) = if is_asked_for asked packet then record { line = n; link = link; reason = reason; number = packet.number } ∷ [] else []

-- those among the acts of a line
abbrev pub drops_in : DropsOf → ℕ → List Act → List PastDrop
drops_in asked n acts = flat_map (drop_of_act asked n) acts

-- those among lines, from the number of the first on
abbrev pub drops_from : DropsOf → ℕ → List TraceLine → List PastDrop
drops_from asked n [] = []
drops_from asked n (line ∷ lines) = drops_in asked n line.acts ++ drops_from asked (n + 1) lines

-- those among the lines of a run up to a position
abbrev pub past_drops : State → DropsOf → ℕ → List PastDrop
past_drops start asked p = drops_from asked 1 (lines_of_steps (run start p))

-- what is missing of what a flow has sent: of what its sender knows to be acknowledged, one byte past the last that it has sent, and the byte that its receiver waits for
abbrev pub missing_between : ℕ → ℕ → ℕ → ℕ → Option DropsOf
missing_between flow una high next = if nat_lt next high then Some (Segment flow next) else (if nat_lt una next then Some (AcksAbove flow una) else None)

abbrev pub missing_from : ℕ → Option SenderFields → Option ℕ → Option DropsOf
missing_from flow None next = None
missing_from flow (Some f) None = None
missing_from flow (Some f) (Some next) = missing_between flow f.una f.high next

-- the segment whose first byte the receiver waits for, where it was sent; where all that was sent has come, an acknowledgement of more than the sender knows of
abbrev pub missing_in : ℕ → State → Option DropsOf
missing_in flow s = missing_from flow (sender_of flow s.parts) (next_in flow s.parts)
