-- The nodes of a group, each at its number, and how what is missing is read.
use Rattle.std.specs.Prelude.{ℕ, zero, suc, ◌+◌, Bool, true, false, List, [], ◌∷◌, map as each, is_some, Option}
use Rattle.std.specs.Coded.{Coded, coded_list, coded_option}
use Rattle.std.specs.Option.{unwrap_or}
use Rattle.tournament.specs.Keyed.{nothing_due}
use Rattle.node_core.specs.declared.event.Event.{Event}
use Rattle.node_core.specs.Node.{NodeState}
use Rattle.node_core.specs.NodeCode.{node_code}
use Rattle.table_run.specs.State.{no_part}

-- a node for each number of the net, where it is the group's
abbrev pub Seats : Type 0
Seats = List (Option NodeState)

abbrev pub seats_code : Coded Seats
seats_code = coded_list (coded_option node_code)

-- in the place of a node that is another group's: no link, and nothing pending
abbrev pub absent : ℕ → NodeState
absent number = record { number = number; part = no_part; incoming = []; pending = nothing_due Event }

abbrev pub seated_from : ℕ → Seats → List NodeState
seated_from number [] = []
seated_from number (seat ∷ seats) = unwrap_or seat (absent number) ∷ seated_from (number + 1) seats

-- all nodes by number, those of other groups absent
abbrev pub seated : Seats → List NodeState
seated seats = seated_from 0 seats

-- which nodes are the group's
abbrev pub taken_nodes : Seats → List Bool
taken_nodes seats = each (λ (seat : Option NodeState). is_some seat) seats

-- the number of the seat that is taken after so many others; past the last taken one the count of all seats
abbrev pub nth_taken : List Bool → ℕ → ℕ
nth_taken [] others = 0
nth_taken (true ∷ rest) zero = 0
nth_taken (true ∷ rest) (suc others) = 1 + nth_taken rest others
nth_taken (false ∷ rest) others = 1 + nth_taken rest others

-- a group's nodes stand in a row, in rising number: the number of the one at a place
abbrev pub number_at : Seats → ℕ → ℕ
number_at seats at = nth_taken (taken_nodes seats) at
