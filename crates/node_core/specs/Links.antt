-- What cells hold, as packets that are offered to a link.
use Rattle.std.specs.Prelude.{List, ◌++◌, map, option_to_list, Option}
use Rattle.std.specs.Option.{option_map}
use Rattle.packet_chain.specs.declared.packet.Packet.{Packet}
use Rattle.packet_chain.specs.Stamped.{Stamped}

-- the packets of cells, without their stamps
abbrev pub packets_of : List Stamped → List Packet
packets_of = map (λ cell. cell.0)

-- the packets of cells, and behind them that of one more cell, if there is one
abbrev pub packets_with : List Stamped → Option Stamped → List Packet
packets_with cells last = packets_of cells ++ option_to_list (option_map (λ (cell : Stamped). cell.0) last)
