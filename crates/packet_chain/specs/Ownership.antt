-- What the nodes of a chain own, and what a `&` to them holds.
use Rattle.std.specs.Prelude.{List, [], ◌∷◌}
use base.Fml.{Lft, Fml, ftrue, fsep}
use mir.Syntax.{Ty}
use denote.RawPtr.{Ptr}
use denote.Sharing.{nothing, beside}
use denote.Struct.Lending.{lent_at}
use Rattle.std_alloc.specs.Box.Ownership.{box_owns}
use Rattle.std_heap.specs.contracts.GlobalAllocator.TheImpl.{ghosts}
use Rattle.packet_chain.specs.contracts.node.ChainNode.{the_row}
use Rattle.packet_chain.specs.Links.{Link}

-- the right to free a block of the heap
abbrev pub freeing : Ty → Ptr → Fml
freeing = ghosts.dealloc_token (record { memory = record { seal = tt } })

-- a node, and the right to free its block
abbrev pub link_owns : Link → Fml
link_owns l = box_owns freeing the_row l.0 l.1

-- all of them, each once
abbrev pub nodes_own : List Link → Fml
nodes_own [] = ftrue
nodes_own (l ∷ ls) = fsep (link_owns l) (nodes_own ls)

-- what a `&` holds of a node
abbrev pub link_lent : Link → Lft → Fml
link_lent l = lent_at the_row l.0 l.1

-- of all of them
abbrev pub nodes_lent : List Link → Lft → Fml
nodes_lent [] = nothing
nodes_lent (l ∷ ls) = beside (link_lent l) (nodes_lent ls)
