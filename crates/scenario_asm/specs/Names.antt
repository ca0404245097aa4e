-- What the lines above a line have declared, and what a word means by it.
use Rattle.std.specs.Prelude.{ℕ, ◌+◌, ◌-◌, Bool, true, false, ◌&&◌, not, ◌==◌, nat_le, List, [], ◌∷◌, ◌++◌, length, Option, Some, None, is_some}
use Rattle.std.specs.List.{list_any, slice_get}
use Rattle.std.specs.Map.{update}
use Rattle.std.specs.Str.{bytes_eq}
use Rattle.scenario_image.specs.Ends.{outgoing_count}
use Rattle.scenario_asm.specs.Bounds.{MOST_ROUTER_LINKS}
use Rattle.scenario_image.specs.declared.parts.NodeKind.{NodeKind}
use Rattle.scenario_image.specs.declared.parts.NodeKind.TheVariants.{Sender, Receiver, Router}
use Rattle.scenario_image.specs.declared.parts.LinkPart.{LinkPart}
use Rattle.scenario_image.specs.declared.parts.FlowPart.{FlowPart}
use Rattle.scenario_image.specs.declared.parts.RoutePart.{RoutePart}
use Rattle.scenario_image.specs.declared.parts.ScenarioParts.{ScenarioParts}
use Rattle.scenario_asm.specs.declared.fault.Fault.TheVariants.{E4, E6, E7, E8}
use Rattle.scenario_asm.specs.declared.table.Item.{Item}
use Rattle.scenario_asm.specs.declared.table.Item.TheVariants.{Node, Link, Flow}
use Rattle.scenario_asm.specs.Lines.{Word}
use Rattle.scenario_asm.specs.Numbers.{is_name}
use Rattle.scenario_asm.specs.Verdicts.{Verdict, first_fault, faulty_if, faulty_unless}

-- what each name is the name of, what the nodes do, the links, the flows, and the routes by router and destination
pub record Known : Type 0 where
  pub item : Word → Option Item
  pub kinds : List NodeKind
  pub links : List LinkPart
  pub flows : List FlowPart
  pub routes : List RoutePart

-- nodes, links and flows share one space of names
abbrev pub is_taken : Known → Word → Bool
is_taken known word = is_some (known.item word)

-- the number of the node or link that an item is
abbrev pub item_number : Option Item → ℕ
item_number (Some (Node number)) = number
item_number (Some (Link number)) = number
item_number _ = 0

-- what the node does that an item is
abbrev pub item_kind : List NodeKind → Option Item → Option NodeKind
item_kind kinds (Some (Node number)) = slice_get kinds number
item_kind kinds _ = None

-- the link that an item is
abbrev pub item_link : List LinkPart → Option Item → Option LinkPart
item_link links (Some (Link number)) = slice_get links number
item_link links _ = None

-- the number of the node or link that a word means
abbrev pub number_of : Known → Word → ℕ
number_of known word = item_number (known.item word)

-- what the node does that a word means
abbrev pub kind_of_word : Known → Word → Option NodeKind
kind_of_word known word = item_kind known.kinds (known.item word)

-- the link that a word means
abbrev pub link_of_word : Known → Word → Option LinkPart
link_of_word known word = item_link known.links (known.item word)

-- a sender
abbrev pub is_sender : Option NodeKind → Bool
is_sender (Some Sender) = true
is_sender (Some Receiver) = false
is_sender (Some Router) = false
is_sender None = false

-- a receiver
abbrev pub is_receiver : Option NodeKind → Bool
is_receiver (Some Sender) = false
is_receiver (Some Receiver) = true
is_receiver (Some Router) = false
is_receiver None = false

-- a router
abbrev pub is_router : Option NodeKind → Bool
is_router (Some Sender) = false
is_router (Some Receiver) = false
is_router (Some Router) = true
is_router None = false

-- a sender or a receiver
abbrev pub is_end : Option NodeKind → Bool
is_end (Some Sender) = true
is_end (Some Receiver) = true
is_end (Some Router) = false
is_end None = false

-- a link that leaves that node
abbrev pub is_from : ℕ → Option LinkPart → Bool
is_from node (Some part) = part.from == node
is_from node None = false

-- a router has a route to a destination
abbrev pub is_routed : List RoutePart → ℕ → ℕ → Bool
is_routed routes router destination = list_any (λ route. route.router == router && route.destination == destination) routes

-- where a name is declared
abbrev pub new_name_verdict : Known → Word → Verdict
new_name_verdict known word = first_fault (faulty_unless (is_name word) E4 ∷ faulty_if (is_taken known word) E6 ∷ [])

-- where a name is used: of the sort and kind that is asked
abbrev pub used_verdict : Word → Option Item → Bool → Verdict
used_verdict word item right = first_fault (faulty_unless (is_name word) E4 ∷ faulty_unless (is_some item) E7 ∷ faulty_unless right E8 ∷ [])

-- where a node is asked
abbrev pub node_verdict : Known → Word → Verdict
node_verdict known word = used_verdict word (known.item word) (is_some (kind_of_word known word))

-- where another node than that is asked
abbrev pub other_node_verdict : Known → ℕ → Word → Verdict
other_node_verdict known other word = used_verdict word (known.item word) (is_some (kind_of_word known word) && not (number_of known word == other))

-- where a sender is asked
abbrev pub sender_verdict : Known → Word → Verdict
sender_verdict known word = used_verdict word (known.item word) (is_sender (kind_of_word known word))

-- where a receiver is asked
abbrev pub receiver_verdict : Known → Word → Verdict
receiver_verdict known word = used_verdict word (known.item word) (is_receiver (kind_of_word known word))

-- where a router is asked
abbrev pub router_verdict : Known → Word → Verdict
router_verdict known word = used_verdict word (known.item word) (is_router (kind_of_word known word))

-- where a sender or receiver is asked to which that router has no route yet
abbrev pub destination_verdict : Known → ℕ → Word → Verdict
destination_verdict known router word = first_fault (used_verdict word (known.item word) (is_end (kind_of_word known word)) ∷ faulty_if (is_routed known.routes router (number_of known word)) E6 ∷ [])

-- where a link is asked
abbrev pub link_verdict : Known → Word → Verdict
link_verdict known word = used_verdict word (known.item word) (is_some (link_of_word known word))

-- where a link is asked that leaves that node
abbrev pub outgoing_verdict : Known → ℕ → Word → Verdict
outgoing_verdict known node word = used_verdict word (known.item word) (is_from node (link_of_word known word))

-- the packets that a link loses
abbrev pub lose_list : Option LinkPart → List ℕ
lose_list (Some part) = part.lose
lose_list None = []

-- the packets of a link that are lost so far
abbrev pub lost_of : Known → ℕ → List ℕ
lost_of known link = lose_list (slice_get known.links link)

-- the last of these numbers
abbrev pub last_of : List ℕ → Option ℕ
last_of numbers = slice_get numbers (length numbers - 1)

-- the least number above the last one
abbrev pub least_above : Option ℕ → ℕ
least_above (Some last) = last + 1
least_above None = 1

-- a router has as many outgoing links as it may have
abbrev pub is_full_router : Known → ℕ → Bool
is_full_router known node = is_router (slice_get known.kinds node) && nat_le MOST_ROUTER_LINKS (outgoing_count known.links node)

-- what is known with one more name
abbrev pub with_name : Known → Word → Item → Known
with_name known name item = record known { item = update bytes_eq known.item name (Some item) }

-- what is known with one more node
abbrev pub with_node : Known → Word → NodeKind → Known
with_node known name kind = record (with_name known name (Node (length known.kinds))) { kinds = known.kinds ++ kind ∷ [] }

-- what is known with one more link
abbrev pub with_link : Known → Word → LinkPart → Known
with_link known name part = record (with_name known name (Link (length known.links))) { links = known.links ++ part ∷ [] }

-- what is known with one more flow
abbrev pub with_flow : Known → Word → FlowPart → Known
with_flow known name part = record (with_name known name Flow) { flows = known.flows ++ part ∷ [] }

-- a scenario of this end, of what is known
abbrev pub known_parts : ℕ → Known → ScenarioParts
known_parts end known = record { end = end; nodes = known.kinds; links = known.links; flows = known.flows; routes = known.routes }
