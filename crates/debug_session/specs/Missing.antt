-- What `why` tells: what a flow waits for, and what became of the packets that are missing.
use Rattle.std.specs.Prelude.{ℕ, List, [], ◌++◌, codes, decimal, Option, None, Some}
use Rattle.std.specs.List.{flat_map}
use Rattle.aqm.specs.DropReasons.{reason_word}
use Rattle.aqm.specs.declared.drop_reason.DropReason.{DropReason}
use Rattle.aqm.specs.declared.drop_reason.DropReason.TheVariants.{Lost, Offer, Take}
use Rattle.table_run.specs.State.{State}
use Rattle.net_machine.specs.Run.{Reached}
use Rattle.flow_waits.specs.declared.names.ScenarioNames.{ScenarioNames}
use Rattle.flow_waits.specs.Names.{named}
use Rattle.flow_waits.specs.Waits.{waits_bytes}
use Rattle.debugger.specs.declared.drops.DropsOf.{DropsOf}
use Rattle.debugger.specs.declared.drops.DropsOf.TheVariants.{Segment, AcksAbove}
use Rattle.debugger.specs.declared.drops.PastDrop.{PastDrop}
use Rattle.debugger.specs.Drops.{missing_in, past_drops}

-- which packets are missing, and where
abbrev pub head_words : DropsOf → List ℕ
head_words (Segment flow byte) = codes "missing at the receiver: byte "
head_words (AcksAbove flow byte) = codes "missing at the sender: an acknowledgement above "

abbrev pub byte_missing : DropsOf → ℕ
byte_missing (Segment flow byte) = byte
byte_missing (AcksAbove flow byte) = byte

abbrev pub missing_head : DropsOf → List ℕ
missing_head of = head_words of ++ decimal (byte_missing of)

abbrev pub kind_of_drops : DropsOf → List ℕ
kind_of_drops (Segment flow byte) = codes ", data "
kind_of_drops (AcksAbove flow byte) = codes ", ack "

-- that a queue dropped a packet, and why
abbrev pub dropped_text : DropReason → List ℕ
dropped_text reason = codes " dropped (" ++ reason_word reason ++ codes ") at link "

abbrev pub reason_text : DropReason → List ℕ
reason_text Lost = codes " lost by name at link "
reason_text (Offer why) = dropped_text (Offer why)
reason_text (Take why) = dropped_text (Take why)

-- a packet that was dropped, why, where, and the line that tells of it
abbrev pub drop_text : ScenarioNames → DropsOf → PastDrop → List ℕ
drop_text names of dropped = kind_of_drops of ++ decimal dropped.number ++ named (reason_text dropped.reason) names.links dropped.link ++ codes " in line " ++ decimal dropped.line

abbrev pub missing_line : ScenarioNames → DropsOf → List PastDrop → List ℕ
missing_line names of drops = missing_head of ++ flat_map (drop_text names of) drops ++ codes "\n"

-- of the drops up to a position of the run; nothing where nothing is missing
abbrev pub missing_told : ScenarioNames → State → ℕ → Option DropsOf → List ℕ
missing_told names start position None = []
missing_told names start position (Some of) = missing_line names of (past_drops start of position)

abbrev pub why_text : ScenarioNames → ℕ → State → Reached → List ℕ
why_text names flow start shown = waits_bytes names flow shown.state ++ missing_told names start shown.position (missing_in flow shown.state)
