-- What a queue shows of what it keeps beside the packets.
use Rattle.std.specs.Prelude.{ℕ, List, [], codes, Option, None}
use Rattle.aqm.specs.declared.readout.Readout.{Readout}
use Rattle.aqm.specs.declared.readout.Readout.TheVariants.{FirstAbove, DropNext, Count, Lastcount, Dropping}
use Rattle.aqm.specs.declared.queue.Queue.{Queue}
use Rattle.aqm.specs.declared.queue.Queue.TheVariants.{DropTail, Codel}
use Rattle.aqm.specs.CodelReadouts.{codel_readouts, read_codel}

-- a readout's word in a dump
abbrev pub readout_word : Readout → List ℕ
readout_word FirstAbove = codes "first"
readout_word DropNext = codes "next"
readout_word Count = codes "count"
readout_word Lastcount = codes "last"
readout_word Dropping = codes "drop"

-- what a queue shows, in the order of a dump
abbrev pub readouts_of : Queue → List Readout
readouts_of (DropTail s) = []
readouts_of (Codel s) = codel_readouts

-- the number of a readout, if the queue keeps one
abbrev pub read_of : Queue → Readout → Option ℕ
read_of (DropTail s) readout = None
read_of (Codel s) readout = read_codel s readout
