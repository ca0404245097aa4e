-- What a CoDel queue shows beside the packets.
use Rattle.std.specs.Prelude.{ℕ, if◌then◌else◌, List, [], ◌∷◌, Option, Some}
use Rattle.aqm.specs.declared.readout.Readout.{Readout}
use Rattle.aqm.specs.declared.readout.Readout.TheVariants.{FirstAbove, DropNext, Count, Lastcount, Dropping}
use Rattle.aqm.specs.Codel.{CodelState}

-- in the order of a dump
abbrev pub codel_readouts : List Readout
codel_readouts = FirstAbove ∷ DropNext ∷ Count ∷ Lastcount ∷ Dropping ∷ []

abbrev pub read_codel : CodelState → Readout → Option ℕ
read_codel s FirstAbove = s.first_above
read_codel s DropNext = Some s.drop_next
read_codel s Count = Some s.count
read_codel s Lastcount = Some s.lastcount
read_codel s Dropping = Some (if s.dropping then 1 else 0)
